use mathlib.Core.Bool.{false}
use mathlib.Core.Path.{◌≡◌, refl, ◌∙◌, ap}
use Prim.Native.Nat.{ℕ, suc, ◌+◌, ◌*◌, ◌-◌, ◌≤◌}
use native.Mathlib.Omega.{arith}
use native.Mathlib.Nat.{mul-le-mul, min-eq_left}
use lib.ListN.{length, replicate, length-set, get_or-replicate}
use lib.Seq.{drop-set-lt}
use Rattle.sets.specs.Set.{full}
use Rattle.trees.specs.Tree.{leaves}
use Rattle.one_sided_stages.proofs.Queue.{queued_none}
use Rattle.one_sided_route.proofs.Running.{running_first, running_grows, running_carried, running_more, running_settled, running_spent, rest_kept, number_few}
use Rattle.one_sided_route.proofs.one_sided.Goals as goal
use Rattle.one_sided_route.proofs.one_sided.Goals.{At-loop-before, then-others-eq0-via-then-others-eq0, then-others-eq0-via-else-others-eq0+then-left-eq0}

-- the stages that are allowed are few
most : (leaves m : ℕ) → leaves ≤ 1024 → m ≤ 64 → leaves * m ≤ 1024 * 64
most leaves m few lines = mul-le-mul few lines

-- the words keep their number
long_words : (c : At-loop-before) → length c.loop-before.words ≡ length c.args.words.now
long_words c = c.loop-before.invariant.words_long ∙ length-set c.args.words.now 0 _

pub overflow_add-leaves : goal.overflow_add-leaves
overflow_add-leaves c = omega (arith, c.requires.lent.few)

pub find_spans-requires : goal.find_spans-requires
find_spans-requires c = record { few = c.requires.lent.few; starts = c.find_starts.ensures; ends = c.find_ends.ensures }

pub bounds-words-0 : goal.bounds-words-0
bounds-words-0 c = omega (arith, c.requires.v_in_bounds)

pub append-number-requires : goal.append-number-requires
append-number-requires c =
    let few = c.requires.lent.few in record {
      to_le_w = (omega arith, omega (arith, few));
      queued_2 = queued_none _ (replicate 1024 false) (replicate 1024 0) (λ i h. get_or-replicate 1024 i false false (omega (arith, few)));
    }

pub overflow_mul-left : goal.overflow_mul-left
overflow_mul-left c = omega (arith, most (length c.args.v.now + 1) c.args.file.model.lines (omega (arith, c.requires.lent.few)) c.args.file.held.laid_out.few_lines)

pub overflow_add-left : goal.overflow_add-left
overflow_add-left c = omega (arith, most (length c.args.v.now + 1) c.args.file.model.lines (omega (arith, c.requires.lent.few)) c.args.file.held.laid_out.few_lines)

pub loop-before-init : goal.loop-before-init
loop-before-init c =
    let a = c.append-number in
    running_first c.args.file.bytes.now c.args.file.model c.args.v.now c.requires.lent c.full_set-full.result c.args.words.now _ _ _ _
    (c.full_set-full.ensures ∙ ap full (min-eq_left c.args.file.held.laid_out.few_lines)) (omega (arith, c.requires.v_in_bounds)) c.args.file.held.laid_out.few_lines
    a.ensures.queued a.ensures.flagged

pub overflow_add-count : goal.overflow_add-count
overflow_add-count c =
    omega (arith, c.loop-before.invariant.room, number_few c.args.file.bytes.now c.args.file.model c.args.v.now c.requires.lent c.loop-before.invariant)

pub evaluate_queue-others-requires : goal.evaluate_queue-others-requires
evaluate_queue-others-requires c =
    let l = c.loop-before in
    let file = c.args.file.bytes.now in
    let m = c.args.file.model in
    let v = c.args.v.now in
    let tree = c.requires.lent in record {
      linked = (record { few = tree.few; starts = c.find_starts.ensures; ends = c.find_ends.ensures }, running_grows file m v tree l.invariant);
      v_in_bounds = omega (arith, c.requires.v_in_bounds, long_words (goal.at.evaluate_queue-others-requires c).At-loop-before);
      queued = (l.invariant.queued, running_carried file m v tree l.invariant);
    }

pub overflow_sub-left : goal.overflow_sub-left
overflow_sub-left c = omega (arith, c.if-left-eq0.false)

pub take_over-number-requires : goal.take_over-number-requires
take_over-number-requires c =
    let l = c.loop-before in
    let e = c.evaluate_queue-others in
    let few = c.requires.lent.few in record {
      v_len_bound = (few, omega (arith, c.requires.v_in_bounds, long_words (goal.at.take_over-number-requires c).At-loop-before, e.auto.words));
      listed = (e.ensures.listed, e.ensures.cleared);
      by_index = c.find_spans.ensures.within;
    }

pub loop-before-smaller : goal.loop-before-smaller
loop-before-smaller c = omega (arith, c.if-left-eq0.false)

pub loop-before-preserved : goal.loop-before-preserved
loop-before-preserved c =
    let l = c.loop-before in
    let e = c.evaluate_queue-others in
    let k = c.take_over-number in
    let more : l.left ≡ suc (l.left - 1) = omega (arith, c.if-left-eq0.false) in
    running_more c.args.file.bytes.now c.args.file.model c.args.v.now c.requires.lent l.invariant _ e.auto.words e.ensures.evaluated _ _ e.ensures.listed
    _ _ _ _ _ _ (l.left - 1) more c.if-others-eq0.false k.ensures.taken c.find_spans.ensures k.ensures.flagged k.ensures.queued

pub offset_bounds-words-leaves : goal.offset_bounds-words-leaves
offset_bounds-words-leaves c = omega (arith, c.requires.lent.few)

pub bounds-words-leaves : goal.bounds-words-leaves
bounds-words-leaves c = omega (arith, c.requires.v_in_bounds, long_words (goal.at.bounds-words-leaves c).At-loop-before, c.evaluate_queue-others.auto.words)

pub shape_of-words : goal.shape_of-words
shape_of-words c = c.evaluate_queue-others.auto.words ∙ long_words (goal.at.shape_of-words c).At-loop-before

pub returns : goal.returns
returns c =
    let file = c.args.file.bytes.now in
    let m = c.args.file.model in
    let v = c.args.v.now in
    let tree = c.requires.lent in
    let l = c.loop-before in
    let e = c.evaluate_queue-others in
    let same = e.auto.words in record {
      result = elim c.then-others-eq0.branch [
        | then-others-eq0-via-then-others-eq0 w ↦
            let ended = running_settled file m v tree l.invariant _ same e.ensures.evaluated _ _ e.ensures.listed w.if-others-eq0.true in record { value = ended.0; queries = ended.1 }
        | then-others-eq0-via-else-others-eq0+then-left-eq0 w ↦
            let ended = running_spent file m v tree l.invariant _ same e.ensures.evaluated _ _ e.ensures.listed w.if-left-eq0.true in record { value = ended.0; queries = ended.1 }
      ];
      kept = rest_kept file m v tree l.invariant _ same e.ensures.evaluated ∙ drop-set-lt (leaves v + 1) c.args.words.now 0 _ (omega arith);
    }
