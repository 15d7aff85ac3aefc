-- The cycle of calls of `lent_route`: a level with levels below it goes over the children of its tree in a loop, each cut off by the next gap of the tree's
-- height and worked out by the levels below. The measure is the levels left, twice, since a level may take two calls; that of the loop is the gaps left.
-- Assumes nothing.
use Rattle.std.proofs.Common.{Bool, List, length, ℕ, suc, ◌+◌, ◌*◌, ◌-◌, ◌≤◌}
use Rattle.system.specs.System.{System}
use Rattle.model.specs.Files.{held_system}
use Rattle.evaluator.specs.ByLevels.{Carried}
use Rattle.evaluator.specs.declared.Bounds.{Bounds}
use Rattle.evaluator.specs.declared.Pending.{Pending}
use Rattle.routes.proofs.Levels.{OverGives}
use Rattle.lent_route.specs.declared.LentTree.{LentTree}
use Rattle.lent_route.proofs.LentLevels.{Split}
use Rattle.lent_route.proofs.+levels.Given as goal

-- the children passed, and what they give
pub record Passing (s : System) (below : ℕ) (bounds : Bounds) (pending : Pending) (needs : List ℕ) (greatest : Bool) (u v own : LentTree) (set count from : ℕ) : Type 0 where
  pub within : from ≤ length own.gaps.now
  pub passed : List (List ℕ)
  pub split : Split own.height own.gaps.now from passed
  pub gives : (ys : List ℕ) → Carried s (suc below) ys bounds.low bounds.high pending needs
      → OverGives s below ys bounds u.gaps.now v.gaps.now greatest passed (record { set = set; count = count })

abbrev pub decreases-level : goal.decreases-level
decreases-level l = 2 * l.k

abbrev pub decreases-over_children : goal.decreases-over_children
decreases-over_children l = 2 * l.below + 1

abbrev pub invariant-over_children-children : goal.invariant-over_children-children
invariant-over_children-children l = Passing (held_system l.file) l.below l.bounds l.pending l.needs l.greatest l.u l.v l.own l.set l.count l.from

abbrev pub decreases-over_children-children : goal.decreases-over_children-children
decreases-over_children-children l = length l.own.gaps.now - l.from
