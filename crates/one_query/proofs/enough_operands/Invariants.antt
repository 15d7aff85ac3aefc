-- `one_query::enough_operands` meets its contract: what is needed of all levels is, less what the levels passed have, needed of those left.
-- Assumes nothing.
use mathlib.Core.Path.{◌≡◌}
use Prim.Native.Nat.{◌≤◌}
use lib.Dec.{leb}
use Rattle.system.specs.Query.{count_set}
use Rattle.one_query.proofs.Operands.{whole, from}
use Rattle.one_query.proofs.enough_operands.Given as goal

abbrev pub invariant-loop-k : goal.invariant-loop-k
invariant-loop-k l = (l.need ≤ l.t) × (leb l.t (count_set (whole l.words l.xs)) ≡ leb l.need (count_set (from l.words l.xs l.k)))
