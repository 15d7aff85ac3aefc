-- The cycle of calls of `built_route`: a level goes over the children of a built-in tree in a loop, and each child is worked out by the level below. The measure
-- is twice the levels left, and for the loop one more than twice those below; the loop's invariant says what the children passed give.
-- Assumes nothing.
use Rattle.std.proofs.Common.{List, ℕ, suc, ◌+◌, ◌*◌}
use Rattle.model.specs.Files.{held_system}
use Rattle.evaluator.specs.ByLevels.{Carried}
use Rattle.built_route.proofs.BuiltLevels.{OverBuilt, first_children}
use Rattle.built_route.proofs.+built_level.Given as goal

abbrev pub decreases-built_level : goal.decreases-built_level
decreases-built_level l = 2 * l.k

abbrev pub decreases-outer_level : goal.decreases-outer_level
decreases-outer_level l = 2 * l.below + 1

abbrev pub invariant-outer_level-loop-i : goal.invariant-outer_level-loop-i
invariant-outer_level-loop-i l = let s = held_system l.file in
    (ys : List ℕ) → Carried s (suc l.below) ys l.bounds.low l.bounds.high l.carry.pending l.carry.needs.now
    → OverBuilt s l.below ys l.bounds l.p l.q l.greatest (first_children l.greatest s l.below l.p l.q l.i) (record { set = l.set; count = l.count })
