use mathlib.Core.Path.{refl}
use native.Mathlib.Omega.{arith}
use Rattle.one_sided_stages.proofs.Queue.{queued_none, taking_none, taking_more, taking_values, taking_flags}
use Rattle.one_sided_stages.proofs.take_over.Goals as goal

pub loop-p-init : goal.loop-p-init
loop-p-init c =
    let p = c.requires in
    (queued_none _ _ _ p.listed.1, taking_none _ _ _ _ _ _ _ p.listed.1)

pub overflow_cast-y : goal.overflow_cast-y
overflow_cast-y c = omega (arith, c.requires.listed.0.inside c.loop-p.p (omega arith))

pub offset_bounds-words-y : goal.offset_bounds-words-y
offset_bounds-words-y c = omega (arith, c.requires.listed.0.inside c.loop-p.p (omega arith))

pub bounds-words-y : goal.bounds-words-y
bounds-words-y c = omega (arith, c.requires.listed.0.inside c.loop-p.p (omega arith))

pub offset_bounds-state-y : goal.offset_bounds-state-y
offset_bounds-state-y c = omega (arith, c.requires.listed.0.inside c.loop-p.p (omega arith))

pub bounds-state-y : goal.bounds-state-y
bounds-state-y c = omega (arith, c.requires.listed.0.inside c.loop-p.p (omega arith))

pub offset_bounds-from-y : goal.offset_bounds-from-y
offset_bounds-from-y c = omega (arith, c.requires.listed.0.inside c.loop-p.p (omega arith))

pub bounds-from-y : goal.bounds-from-y
bounds-from-y c = omega (arith, c.requires.listed.0.inside c.loop-p.p (omega arith))

pub offset_bounds-to-y : goal.offset_bounds-to-y
offset_bounds-to-y c = omega (arith, c.requires.listed.0.inside c.loop-p.p (omega arith))

pub bounds-to-y : goal.bounds-to-y
bounds-to-y c = omega (arith, c.requires.listed.0.inside c.loop-p.p (omega arith))

pub overflow_cast-to : goal.overflow_cast-to
overflow_cast-to c =
    omega (arith, c.requires.by_index _ (c.requires.listed.0.inside c.loop-p.p (omega arith)))

pub append-number-requires : goal.append-number-requires
append-number-requires c =
    let l = c.loop-p in record {
      to_le_w = (c.requires.by_index _ (c.requires.listed.0.inside l.p (omega arith)), omega (arith, c.requires.v_len_bound));
      queued_2 = l.invariant.0;
    }

pub loop-p-preserved : goal.loop-p-preserved
loop-p-preserved c =
    let l = c.loop-p in
    let small = c.requires.listed.0.inside l.p (omega arith) in (
      c.append-number.ensures.queued,
      taking_more c.requires.listed.0 l.invariant.1 (omega arith) _ refl (omega (arith, c.requires.v_len_bound)) _ c.append-number.ensures.flagged,
    )

pub returns : goal.returns
returns c =
    let l = c.loop-p in
    let listed = c.requires.listed.0 in record {
      taken = taking_values listed l.invariant.1 (omega arith);
      flagged = taking_flags listed l.invariant.1 (omega arith);
      queued = l.invariant.0;
    }
