-- `one_query::any_operand` meets its contract: the operands of the levels passed are unset, and the first word with a set operand decides.
-- Assumes nothing.
use mathlib.Core.Path.{◌≡◌}
use Rattle.system.specs.Query.{any}
use Rattle.one_query.proofs.Operands.{whole, from}
use Rattle.one_query.proofs.any_operand.Given as goal

abbrev pub invariant-loop-k : goal.invariant-loop-k
invariant-loop-k l = any (whole l.words l.xs) ≡ any (from l.words l.xs l.k)
