-- `one_sided_stages::evaluate_queue` meets its contract. The loop's invariant: the entries passed are evaluated and no longer flagged, and what has become
-- other is listed.
-- Assumes nothing.
use Rattle.trees.specs.Tree.{leaves}
use Rattle.one_sided_stages.specs.Stages.{right_side_at}
use Rattle.one_sided_stages.proofs.Queue.{Evaluating}
use Rattle.one_sided_stages.proofs.evaluate_queue.Given as goal

abbrev pub invariant-loop-p : goal.invariant-loop-p
invariant-loop-p l =
    Evaluating (leaves l.v) (right_side_at l.file.bytes.now l.file.model l.v l.state) l.state l.queue l.initial.flags l.initial.words l.flags l.words l.changed l.others l.p
