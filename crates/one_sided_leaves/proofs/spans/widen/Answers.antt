use mathlib.Core.Logic.{⊎_elim}
use mathlib.Core.Path.{◌≡◌, subst}
use Prim.Native.Nat.{◌+◌}
use native.Mathlib.Omega.{arith}
use lib.ListN.{get_or}
use Rattle.one_sided_leaves.proofs.Spanned.{Moved, Up, Down, moved_none, moved_kept, moved_stored, moved_as, down_same, down_chain, up_same, up_chain, widened}
use Rattle.one_sided_leaves.proofs.spans.widen.Goals as goal
use Rattle.one_sided_leaves.proofs.spans.widen.Goals.{then-i-from, else-i-from, then-to-y, else-to-y}

pub loop-k-init : goal.loop-k-init
loop-k-init c = (
  moved_none Down down_same down_chain c.args.args.now c.args.i c.args.from.now,
  moved_none Up up_same up_chain c.args.args.now (c.args.i + 1) c.args.to.now,
)

pub offset_bounds-from-y : goal.offset_bounds-from-y
offset_bounds-from-y c =
    let l = c.loop-k in
    let p = c.requires.by_index l.k c.loop-k-test.true in
    omega (arith, p.0)

pub bounds-from-y : goal.bounds-from-y
bounds-from-y c =
    let l = c.loop-k in
    let p = c.requires.by_index l.k c.loop-k-test.true in
    p.0

pub overflow_cast-from : goal.overflow_cast-from
overflow_cast-from c =
    let l = c.loop-k in
    let p = c.requires.by_index l.k c.loop-k-test.true in
    omega (arith, p.1, l.invariant.0.order (get_or c.args.args.now l.k 0))

pub offset_bounds-from-y-then-i-from : goal.offset_bounds-from-y-then-i-from
offset_bounds-from-y-then-i-from c =
    let l = c.loop-k in
    let p = c.requires.by_index l.k c.loop-k-test.true in
    omega (arith, p.0)

pub bounds-from-y-then-i-from : goal.bounds-from-y-then-i-from
bounds-from-y-then-i-from c =
    let l = c.loop-k in
    let p = c.requires.by_index l.k c.loop-k-test.true in
    p.0

pub offset_bounds-to-y : goal.offset_bounds-to-y
offset_bounds-to-y c =
    let l = c.loop-k in
    let p = c.requires.by_index l.k c.loop-k-test.true in
    omega (arith, p.0)

pub bounds-to-y : goal.bounds-to-y
bounds-to-y c =
    let l = c.loop-k in
    let p = c.requires.by_index l.k c.loop-k-test.true in
    p.0

pub overflow_cast-to : goal.overflow_cast-to
overflow_cast-to c =
    let l = c.loop-k in
    let p = c.requires.by_index l.k c.loop-k-test.true in
    ⊎_elim
    (λ e. omega (arith, e, p.2))
    (λ e. omega (arith, e.0, c.requires.small.1))
    (l.invariant.1.either (get_or c.args.args.now l.k 0))

pub offset_bounds-to-y-then-to-y : goal.offset_bounds-to-y-then-to-y
offset_bounds-to-y-then-to-y c =
    let l = c.loop-k in
    let p = c.requires.by_index l.k c.loop-k-test.true in
    omega (arith, p.0)

pub bounds-to-y-then-to-y : goal.bounds-to-y-then-to-y
bounds-to-y-then-to-y c =
    let l = c.loop-k in
    let p = c.requires.by_index l.k c.loop-k-test.true in
    p.0

pub loop-k-preserved : goal.loop-k-preserved
loop-k-preserved c =
    let l = c.loop-k in
    let p = c.requires.by_index l.k c.loop-k-test.true in
    let args = c.args.args.now in
    let i = c.args.i in (
      elim c.if-i-from.branch [
        | then-i-from w ↦ moved_as w.from-is (moved_stored Down down_same down_chain args i c.args.from.now l.from l.k l.invariant.0 (omega (arith, w.if-i-from.true)) (omega (arith, p.0)))
        | else-i-from w ↦ moved_as w.from-is (moved_kept Down down_same down_chain args i c.args.from.now l.from l.k l.invariant.0 w.if-i-from.false)
      ],
      elim c.if-to-y.branch [
        | then-to-y w ↦ moved_as w.to-is (moved_stored Up up_same up_chain args (i + 1) c.args.to.now l.to l.k l.invariant.1 (omega (arith, w.if-to-y.true)) (omega (arith, p.0)))
        | else-to-y w ↦ moved_as w.to-is (moved_kept Up up_same up_chain args (i + 1) c.args.to.now l.to l.k l.invariant.1 (omega (arith, w.if-to-y.false)))
      ],
    )

pub returns : goal.returns
returns c =
    let l = c.loop-k in
    let e : l.k ≡ c.args.d = omega arith in
    widened c.args.args.now c.args.d c.args.i c.args.from.now c.args.to.now l.from l.to
    (subst (Moved Down c.args.args.now c.args.i c.args.from.now l.from) e l.invariant.0)
    (subst (Moved Up c.args.args.now (c.args.i + 1) c.args.to.now l.to) e l.invariant.1)
