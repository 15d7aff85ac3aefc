-- `sets::member` meets its contract: a word of 64 digits has no line from 64 on.
-- Assumes nothing.
use mathlib.Core.Path.{sym}
use borrow.Author.Rules.{rules}
use Rattle.sets.proofs.Range.{member_above}
use Rattle.sets.proofs.member.Goals as goal

pub returns-then-i-ge64 : goal.returns-then-i-ge64
returns-then-i-ge64 c = sym (member_above 64 c.args.x c.args.i (search rules) (search rules))
