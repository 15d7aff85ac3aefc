-- `one_sided_stages::take_over` meets its contract. The loop's invariant: the listed words passed are taken over, and the leaves due by them are flagged
-- and in the queue.
-- Assumes nothing.
use Rattle.trees.specs.Tree.{leaves}
use Rattle.one_sided_stages.specs.Stages.{Queued}
use Rattle.one_sided_stages.proofs.Queue.{Taking}
use Rattle.one_sided_stages.proofs.take_over.Given as goal

abbrev pub invariant-loop-p : goal.invariant-loop-p
invariant-loop-p l =
    Queued (leaves l.v) l.flags l.queue l.number × Taking (leaves l.v) l.words l.changed l.from l.to l.initial.state l.state l.flags l.p
