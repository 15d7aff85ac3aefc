use mathlib.Core.Logic.{inl, inr}
use native.Mathlib.Omega.{arith}
use Rattle.one_sided_stages.proofs.Queue.{queued_few, queued_room, flagging_none, flagging_end, appending_more}
use Rattle.one_sided_stages.proofs.append.Goals as goal
use Rattle.one_sided_stages.proofs.append.Goals.{then-not-flags-i, else-not-flags-i}

pub loop-i-init : goal.loop-i-init
loop-i-init c = record { flags_long = omega arith; queue_long = omega arith; queued = c.requires.queued_2; flagging = flagging_none _ _ _ }

pub offset_bounds-queue-end : goal.offset_bounds-queue-end
offset_bounds-queue-end c = omega (arith, queued_few c.loop-i.invariant.queued)

pub bounds-queue-end : goal.bounds-queue-end
bounds-queue-end c = let l = c.loop-i in omega (arith, queued_room l.invariant.queued l.i (omega arith) c.if-not-flags-i.true)

pub overflow_add-end : goal.overflow_add-end
overflow_add-end c = omega (arith, queued_few c.loop-i.invariant.queued)

pub loop-i-preserved : goal.loop-i-preserved
loop-i-preserved c =
    let l = c.loop-i in
    appending_more l.invariant (omega arith) (omega arith) c.loop-i-test.true c.if-not-flags-i.flags c.if-not-flags-i.queue c.if-not-flags-i.end
    (elim c.if-not-flags-i.branch [
      | then-not-flags-i w ↦ inl (w.if-not-flags-i.true, w.flags-is, w.queue-is, w.end-is)
      | else-not-flags-i w ↦ inr (w.if-not-flags-i.false, w.flags-is, w.queue-is, w.end-is)
    ])

pub returns : goal.returns
returns c = let l = c.loop-i in record {
  queued = l.invariant.queued;
  flagged = flagging_end l.invariant.flagging (omega arith);
}
