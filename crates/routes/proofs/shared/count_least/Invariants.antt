-- `routes::shared::count_least` meets its contract. The loop's invariant: the count is that of the levels passed.
-- Assumes nothing.
use mathlib.Core.Path.{◌≡◌}
use Prim.Native.Nat.{◌≤◌}
use Rattle.model.specs.Files.{held_system}
use Rattle.routes.specs.Parts.{least_of}
use Rattle.routes.proofs.shared.count_least.Given as goal

abbrev pub invariant-loop-k : goal.invariant-loop-k
invariant-loop-k l = (l.least ≤ l.k) × (l.least ≡ least_of (held_system l.file) l.k)
