use mathlib.Core.Logic.{inl, inr}
use mathlib.Core.Path.{◌≡◌, refl, subst}
use Prim.Native.Nat.{ℕ, ◌<◌}
use native.Mathlib.Omega.{arith}
use Rattle.trees.specs.Tree.{leaves}
use Rattle.one_sided_stages.specs.Stages.{right_side_at}
use Rattle.one_sided_stages.proofs.Queue.{queued_few, Evaluating, evaluating_none, evaluating_more, evaluating_cleared, evaluating_due, evaluating_listed}
use Rattle.one_sided_stages.proofs.evaluate_queue.Goals as goal
use Rattle.one_sided_stages.proofs.evaluate_queue.Goals.{then-state-i, else-state-i}

pub loop-p-init : goal.loop-p-init
loop-p-init c =
    let p = c.requires in
    evaluating_none _ _ _ _ _ _ _ (omega arith) (omega arith) p.queued.1

pub offset_bounds-queue-p : goal.offset_bounds-queue-p
offset_bounds-queue-p c =
    let l = c.loop-p in
    omega (arith, queued_few c.requires.queued.0, c.requires.linked.0.few)

pub bounds-queue-p : goal.bounds-queue-p
bounds-queue-p c =
    let l = c.loop-p in
    omega (arith, queued_few c.requires.queued.0, c.requires.linked.0.few)

pub overflow_cast-i : goal.overflow_cast-i
overflow_cast-i c =
    let l = c.loop-p in
    omega (arith, c.requires.queued.0.inside l.p (omega arith), c.requires.linked.0.few)

pub right_side-value-requires : goal.right_side-value-requires
right_side-value-requires c =
    let l = c.loop-p in record {
      linked = (omega (arith, c.requires.queued.0.inside l.p (omega arith)), c.requires.linked.0);
      grows = c.requires.linked.1;
    }

pub bounds-flags-i : goal.bounds-flags-i
bounds-flags-i c =
    let l = c.loop-p in
    omega (arith, c.requires.queued.0.inside l.p (omega arith), c.requires.linked.0.few)

pub overflow_add-words : goal.overflow_add-words
overflow_add-words c =
    let l = c.loop-p in
    omega (arith, c.requires.queued.0.inside l.p (omega arith), c.requires.linked.0.few)

pub offset_bounds-words-i : goal.offset_bounds-words-i
offset_bounds-words-i c =
    let l = c.loop-p in
    omega (arith, c.requires.queued.0.inside l.p (omega arith), c.requires.linked.0.few)

pub bounds-words-i : goal.bounds-words-i
bounds-words-i c =
    let l = c.loop-p in
    omega (arith, c.requires.queued.0.inside l.p (omega arith), l.invariant.words_long, c.requires.v_in_bounds)

pub overflow_add-i : goal.overflow_add-i
overflow_add-i c =
    let l = c.loop-p in
    omega (arith, c.requires.queued.0.inside l.p (omega arith), c.requires.linked.0.few)

pub offset_bounds-state-i : goal.offset_bounds-state-i
offset_bounds-state-i c =
    let l = c.loop-p in
    omega (arith, c.requires.queued.0.inside l.p (omega arith), c.requires.linked.0.few)

pub bounds-state-i : goal.bounds-state-i
bounds-state-i c =
    let l = c.loop-p in
    omega (arith, c.requires.queued.0.inside l.p (omega arith), c.requires.linked.0.few)

pub overflow_add-changed : goal.overflow_add-changed
overflow_add-changed c =
    let l = c.loop-p in
    omega (arith, c.requires.queued.0.inside l.p (omega arith), c.requires.linked.0.few)

pub overflow_cast-changed : goal.overflow_cast-changed
overflow_cast-changed c =
    let l = c.loop-p in
    omega (arith, c.requires.queued.0.inside l.p (omega arith), c.requires.linked.0.few)

pub offset_bounds-changed-others : goal.offset_bounds-changed-others
offset_bounds-changed-others c =
    let l = c.loop-p in
    omega (arith, l.invariant.few, queued_few c.requires.queued.0, c.requires.linked.0.few)

pub bounds-changed-others : goal.bounds-changed-others
bounds-changed-others c =
    let l = c.loop-p in
    omega (arith, l.invariant.few, queued_few c.requires.queued.0, c.requires.linked.0.few)

pub overflow_add-others : goal.overflow_add-others
overflow_add-others c =
    let l = c.loop-p in
    omega (arith, l.invariant.few, queued_few c.requires.queued.0, c.requires.linked.0.few)

pub loop-p-preserved : goal.loop-p-preserved
loop-p-preserved c =
    let l = c.loop-p in
    let q = c.requires.queued.0 in
    let inside : l.p < c.args.number = omega arith in
    evaluating_more _ _ _ _ _ _ l.invariant c.requires.v_in_bounds (omega (arith, c.requires.linked.0.few)) (omega (arith, queued_few q, c.requires.linked.0.few)) _ refl (q.inside l.p inside) (q.flagged l.p inside) _ c.right_side-value.ensures c.if-state-i.changed c.if-state-i.others
    (elim c.if-state-i.branch [
      | then-state-i w ↦ inl (w.if-state-i.true, w.changed-is, w.others-is)
      | else-state-i w ↦ inr (w.if-state-i.false, w.changed-is, w.others-is)
    ])

pub shape_of-words : goal.shape_of-words
shape_of-words c = c.loop-p.invariant.words_long

pub returns : goal.returns
returns c =
    let l = c.loop-p in
    let z = c.args in
    let q = c.requires.queued.0 in
    let all : l.p ≡ z.number = omega arith in
    let R = right_side_at z.file.bytes.now z.file.model z.v.now z.state.now in
    let e : Evaluating (leaves z.v.now) R z.state.now z.queue.now z.flags.now z.words.now l.flags l.words l.changed l.others z.number
    = subst (λ (k : ℕ). Evaluating (leaves z.v.now) R z.state.now z.queue.now z.flags.now z.words.now l.flags l.words l.changed l.others k) all l.invariant in record {
      cleared = evaluating_cleared _ _ _ _ _ _ q e;
      evaluated = record { due = evaluating_due _ _ _ _ _ _ q e; kept = e.kept; first = e.first; beyond = e.beyond };
      listed = evaluating_listed _ _ _ _ _ _ q e;
    }
