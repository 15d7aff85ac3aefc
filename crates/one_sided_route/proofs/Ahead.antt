-- What is ahead of a run at a stage, as a stage that is still to be made and the stages after it.
-- Assumes nothing.
use mathlib.Core.Bool.{Bool, true, false, cond}
use mathlib.Core.List.{List, [], ◌∷◌}
use mathlib.Core.Path.{◌≡◌, refl, sym, ◌∙◌, ap, subst}
use Prim.Native.Nat.{ℕ, zero, suc, ◌+◌, ◌≤◌}
use native.Mathlib.Omega.{arith}
use lib.Dec.{eqb}
use lib.ListN.{length}
use Rattle.sets.specs.Set.{full}
use Rattle.sets.proofs.Order.{empty_least}
use Rattle.fixpoint.specs.Lawful.{MonotoneQuery}
use Rattle.fixpoint.specs.Plain.{Run, then_rounds}
use Rattle.fixpoint.specs.Sets.{sets}
use Rattle.fixpoint.proofs.Sets.{sets_lawful, eqb_tells}
use Rattle.one_sided.specs.Equations.{Equation}
use Rattle.one_sided.specs.Stages.{value_in, right_side, evaluate_all, start, alike, due, stage, due_among, stages, run}
use Rattle.one_sided.proofs.Stages.{Reached, reached_first, reached_next, settled_none_due}
use Rattle.one_sided_route.proofs.Chosen.{chosen, chosen_count, chosen_all, count_all}

module _ (n : ℕ) (f : List ℕ → ℕ) where
  -- what a stage from t leaves, if it evaluates what `now` says, where the values were cs
  abbrev pub next_by : List Equation → (Equation → Bool) → List ℕ → List ℕ → List ℕ
  next_by es now t cs = chosen now (right_side (sets n) f (value_in (sets n) t)) es cs

  stage_chosen : (s t : List ℕ) (es : List Equation) (cs : List ℕ) → stage (sets n) eqb f s t es cs ≡ next_by es (due (sets n) eqb s t) t cs
  unfolding stage chosen
  stage_chosen s t [] cs = refl
  stage_chosen s t (e ∷ es) [] = refl
  stage_chosen s t (e ∷ es) (c ∷ cs) =
      ap (λ (xs : List ℕ). cond (due (sets n) eqb s t e) (right_side (sets n) f (value_in (sets n) t) e) c ∷ xs) (stage_chosen s t es cs)

  due_chosen : (s t : List ℕ) (es : List Equation) → due_among (sets n) eqb s t es ≡ chosen_count (due (sets n) eqb s t) es
  unfolding due_among chosen_count
  due_chosen s t [] = refl
  due_chosen s t (e ∷ es) = ap (λ (k : ℕ). cond (due (sets n) eqb s t e) (suc k) k) (due_chosen s t es)

  module _ (es : List Equation) where
    pub record Ahead (total : Run (List ℕ)) (now : Equation → Bool) (left count : ℕ) (t cs : List ℕ) : Type 0 where
      pub value : total.value ≡ (stages (sets n) eqb f es left t (next_by es now t cs)).value
      pub queries : total.queries ≡ count + (chosen_count now es + (stages (sets n) eqb f es left t (next_by es now t cs)).queries)
      pub reached : Reached (sets n) f es t (next_by es now t cs)

    -- at first every right side is evaluated
    pub ahead_first : MonotoneQuery (sets n) f → (m : ℕ) (cs : List ℕ) → length es ≤ length cs → Ahead (run (sets n) eqb f es m) (λ e. true) m 0 (start (sets n) es) cs
    unfolding run
    ahead_first f-mono m cs h =
        let same : next_by es (λ e. true) (start (sets n) es) cs ≡ evaluate_all (sets n) f es (start (sets n) es)
        = chosen_all (right_side (sets n) f (value_in (sets n) (start (sets n) es))) es cs h in
        record {
          value = sym (ap (λ (u : List ℕ). (stages (sets n) eqb f es m (start (sets n) es) u).value) same);
          queries = omega (arith, count_all es, ap (λ (u : List ℕ). (stages (sets n) eqb f es m (start (sets n) es) u).queries) same);
          reached = rw same (reached_first (sets n) (sets_lawful n) (empty_least (full n)) f f-mono eqb eqb_tells es);
        }

    module _ {total : Run (List ℕ)} {now : Equation → Bool} {count : ℕ} {t cs : List ℕ} where
      -- a stage that has changed something, with one more allowed
      pub ahead_more : MonotoneQuery (sets n) f → (left : ℕ) → Ahead total now (suc left) count t cs → alike eqb t (next_by es now t cs) ≡ false
          → Ahead total (due (sets n) eqb t (next_by es now t cs)) left (count + chosen_count now es) (next_by es now t cs) (next_by es now t cs)
      unfolding stages then_rounds
      ahead_more f-mono left a e =
          let u = next_by es now t cs in
          let same : stage (sets n) eqb f t u es u ≡ next_by es (due (sets n) eqb t u) u u = stage_chosen t u es u in
          record {
            value = (rw e at a.value) ∙ ap (λ (w : List ℕ). (stages (sets n) eqb f es left u w).value) same;
            queries = omega (arith, rw e at a.queries, due_chosen t u es, ap (λ (w : List ℕ). (stages (sets n) eqb f es left u w).queries) same);
            reached =
                subst (λ (w : List ℕ). Reached (sets n) f es u w) same (reached_next (sets n) (sets_lawful n) (empty_least (full n)) f f-mono eqb eqb_tells es a.reached);
          }

      -- one that has changed nothing
      pub ahead_settled : (left : ℕ) → Ahead total now left count t cs → alike eqb t (next_by es now t cs) ≡ true
          → (total.value ≡ next_by es now t cs) × (total.queries ≡ count + chosen_count now es)
      unfolding stages then_rounds
      ahead_settled zero a e = (a.value, omega (arith, a.queries))
      ahead_settled (suc left) a e =
          (rw e at a.value, omega (arith, rw e at a.queries, settled_none_due (sets n) eqb eqb_tells t (next_by es now t cs) e es))

      -- with none allowed any more
      pub ahead_spent : Ahead total now 0 count t cs → (total.value ≡ next_by es now t cs) × (total.queries ≡ count + chosen_count now es)
      unfolding stages
      ahead_spent a = (a.value, omega (arith, a.queries))
