use mathlib.Core.Path.{◌≡◌}
use native.Mathlib.Omega.{arith}
use Rattle.model.specs.Files.{held_system}
use Rattle.routes.proofs.InnermostLevels.{one_leaf}
use Rattle.routes.proofs.ChildrenPassed.{none_passed, carried_moved}
use Rattle.routes.proofs.innermost.over_leaves.Goals as goal

pub loop-init : goal.loop-init
loop-init c = λ u v ys d. rw c.start-set.ensures (none_passed (held_system c.args.file) 0 ys c.args.bounds u v c.args.greatest)

pub loop-preserved : goal.loop-preserved
loop-preserved c = λ u v ys d.
    let z = c.args in
    let s = held_system z.file in
    let so_far = c.loop.invariant u v ys d in
    one_leaf s ys z.bounds u v z.greatest c.loop.set _ c.loop.counter so_far
    ((rw c.moved.ensures at c.settle-set.ensures) ys (carried_moved s 0 ys z.bounds u v z.carry.needs.now z.greatest _ _ so_far d))

pub returns : goal.returns
returns c =
    let all : c.loop.counter ≡ c.args.leaves = omega arith in
    λ u v ys d. rw (← all) (c.loop.invariant u v ys d)
