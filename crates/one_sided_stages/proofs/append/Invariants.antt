-- `one_sided_stages::append` meets its contract. The loop's invariant: the queue is that of the flags, and the span is flagged as far as i.
-- Assumes nothing.
use Rattle.one_sided_stages.proofs.Queue.{Appending}
use Rattle.one_sided_stages.proofs.append.Given as goal

abbrev pub invariant-loop-i : goal.invariant-loop-i
invariant-loop-i l = Appending l.from l.to l.w l.initial.flags l.flags l.queue l.end l.i
