-- `one_sided_route::one_sided` meets its contract. The loop's invariant: the run is ahead as the stage of the queue and the stages after it.
-- The measure is the stages that are allowed after it.
-- Assumes nothing.
use Rattle.one_sided_route.proofs.Running.{Running}
use Rattle.one_sided_route.proofs.one_sided.Given as goal

abbrev pub invariant-loop-before : goal.invariant-loop-before
invariant-loop-before l =
    Running l.file.bytes.now l.file.model l.v l.initial.words l.state l.flags l.queue l.words l.number l.left l.count

abbrev pub decreases-loop-before : goal.decreases-loop-before
decreases-loop-before l = l.left
