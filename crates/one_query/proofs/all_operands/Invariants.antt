-- `one_query::all_operands` meets its contract: the operands of the levels passed are all set, and the first word with one that is not decides.
-- Assumes nothing.
use mathlib.Core.Path.{◌≡◌}
use Rattle.system.specs.Query.{all}
use Rattle.one_query.proofs.Operands.{whole, from}
use Rattle.one_query.proofs.all_operands.Given as goal

abbrev pub invariant-loop-k : goal.invariant-loop-k
invariant-loop-k l = all (whole l.words l.xs) ≡ all (from l.words l.xs l.k)
