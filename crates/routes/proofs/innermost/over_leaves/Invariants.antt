-- `routes::innermost::over_leaves` meets its contract. The loop's invariant: the value is that of the leaves passed.
-- Assumes nothing.
use mathlib.Core.List.{List, []}
use Prim.Native.Nat.{ℕ}
use lib.ListN.{replicate}
use Rattle.evaluator.specs.ByLevels.{Carried}
use Rattle.model.specs.Files.{held_system}
use Rattle.routes.proofs.Levels.{OverGives}
use Rattle.routes.proofs.InnermostLevels.{after_leaves}
use Rattle.routes.proofs.innermost.over_leaves.Given as goal

abbrev pub invariant-loop : goal.invariant-loop
invariant-loop l = let s = held_system l.file in
    (u v ys : List ℕ) → Carried s 1 ys l.bounds.low l.bounds.high l.carry.pending l.carry.needs.now
    → OverGives s 0 ys l.bounds u v l.greatest (replicate l.counter []) (after_leaves l.set l.counter)
