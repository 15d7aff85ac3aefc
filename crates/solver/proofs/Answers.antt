-- From what an evaluator gives to what judging promises, for each operation: the refusals up to 9 and 14 handed on, its own refusal, and the accepted answer
-- with all that is promised of it besides.
-- Assumes nothing.
use Rattle.std.specs.Prelude.{Ok, Err, None}
use mathlib.Core.Bool.{Bool, true, false, cond, true≢false, ◌||◌}
use mathlib.Core.List.{List, [], ◌∷◌}
use mathlib.Core.Path.{◌≡◌, refl, sym, ◌∙◌, ap, ap₂}
use Prim.Native.Nat.{ℕ, ◌-◌, ◌≤◌, ◌<◌}
use native.Mathlib.Omega.{arith}
use borrow.Author.Tests.{le-ltb, lt-ltb}
use lib.Dec.{ltb, lit<}
use Rattle.std.proofs.Common.{Bor}
use Rattle.answers.specs.Answer.{over_ceiling}
use Rattle.answers.specs.Check.{Check, ◌if◌}
use Rattle.answers.specs.declared.Refusal.{Refusal}
use Rattle.answers.proofs.Checks.{number_positive}
use Rattle.answers.specs.declared.Refusal.TheVariants.{Ceiling, Tree}
use Rattle.fixpoint.specs.Plain.{Run}
use Rattle.model.specs.File.{decode}
use Rattle.model.specs.Files.{laid_system, held_system}
use Rattle.model.specs.Held.{system_in}
use Rattle.model.specs.declared.held.HeldFile.{HeldFile}
use Rattle.model.specs.declared.held.LaidFile.{LaidFile}
use Rattle.checker.specs.Checks.{check_answer}
use Rattle.checker.proofs.Accepted.{accepted}
use Rattle.model.specs.declared.layout.Model.{Model}
use Rattle.model.proofs.Refusals.{RefusedAs, refused_before, refused_answer, refused_under}
use Rattle.plain_route.specs.Under.{under}
use Rattle.routes.specs.Routes.{least_levels, greatest_levels, plain_run}
use Rattle.routes.specs.declared.shared.Found.{Found}
use Rattle.routes.proofs.Promises.{plain_is_nested, built_product, built_nested, lent_product, lent_nested}
use Rattle.plain_route.proofs.Rounds.{Fits, settled, settled_fits, spent_exceeds}
use Rattle.view.specs.View.{BuiltIs, LentIs}
use Rattle.view.proofs.InUse.{used}
use Rattle.admission.specs.Checks.{bad_tree, bound_checks, bound_number, forecast}
use Rattle.solver.specs.Checks.{forecast_checks, built_number, plain_number, tree_checks, lent_number}
use Rattle.solver.specs.Says.{judged, unjudged_answer, PlainSays, BuiltSays, LentSays}
use Rattle.solver.specs.declared.Unjudged.{Unjudged}
use Rattle.solver.specs.declared.Unjudged.TheVariants.{OverCeiling, Refused}
use Rattle.admission.proofs.Admitted.{Admitted, file_passed, never_ten, after_bounds}
use Rattle.admission.proofs.LentTrees.{good_tree}

-- where nothing is judged, the number is not 0
pub unjudged_positive : (e : Unjudged) → 0 < (unjudged_answer e).number
unjudged_positive (OverCeiling forecast) = lit< tt
unjudged_positive (Refused e) = number_positive e

-- a file that is admitted is a model in use: its system is the one that the file stands for; and it has a line and a level
module _ {file : List ℕ} {a b : ℕ} where
  pub own : (f : HeldFile) → f.bytes.now ≡ file → Admitted file a b f.model → held_system f ≡ decode file
  own f same known = (used f (ap check_answer same ∙ known.in_use)).system ∙ ap decode same

  pub some_line : {m : Model} → Admitted file a b m → 0 < m.lines
  some_line known = omega (arith, known.counts.lines, (accepted file (file_passed file a b known.number)).header.lines_least)

  pub some_level : {m : Model} → Admitted file a b m → 0 < m.levels
  some_level known = omega (arith, known.counts.levels, (accepted file (file_passed file a b known.number)).header.levels_least)

-- a file that is said to be laid out alone stands for the same system
pub laid_held : (f : HeldFile) (l : LaidFile) → (l.bytes ≡ f.bytes) × (l.model ≡ f.model) → laid_system l ≡ held_system f
laid_held f l same = ap₂ (λ (bytes : Bor (List ℕ)) (m : Model). system_in bytes.now m) same.0 same.1

-- a number that refuses is not 0
never : {n : ℕ} {e : Refusal} → RefusedAs n e → n ≡ 0 → ⊥
never h z = omega (arith, h.positive)

module _ (file : List ℕ) (a b : ℕ) where
  module _ (ceiling : ℕ) where
    -- judging plainly
    abbrev pub ceiling_checks : List Check
    ceiling_checks = 10 if ltb ceiling (plain_run (decode file) a b).queries ∷ []

    pub plain_refused : {e : Refusal} → RefusedAs (bound_number file a b) e → PlainSays file a b ceiling (Err (Refused e))
    unfolding bound_number plain_number
    plain_refused h =
        let still = refused_before (bound_checks file a b) ceiling_checks h in
        record { answer = refused_answer still _; nested = λ z. absurd (never still z) }

    pub plain_spent : {m : Model} → Admitted file a b m → under ceiling (plain_run (decode file) a b) ≡ None → PlainSays file a b ceiling (Err (Refused Ceiling))
    unfolding plain_number
    plain_spent ad e =
        let ten : plain_number file a b ceiling ≡ 10 = after_bounds file a b ceiling_checks ad.number ∙ rw (lt-ltb ceiling (plain_run (decode file) a b).queries (spent_exceeds ceiling (plain_run (decode file) a b) e)) in
        record { answer = rw ten; nested = λ z. absurd (omega arith) }

    pub plain_found : {m : Model} (set left : ℕ) → Admitted file a b m → under ceiling (plain_run (decode file) a b) ≡ settled set left
        → PlainSays file a b ceiling (Ok (record { set = set; count = ceiling - left }))
    unfolding plain_number
    plain_found set left ad e =
        let run : Run ℕ = plain_run (decode file) a b in
        let f : Fits ceiling run set left = settled_fits ceiling run set left e in
        let few : run.queries ≤ ceiling = f.few in
        let over : ceiling - run.queries ≡ left = f.over in
        let zero_number : plain_number file a b ceiling ≡ 0 = after_bounds file a b ceiling_checks ad.number ∙ rw (le-ltb ceiling run.queries few) in
        record {
          answer = rw zero_number (ap₂ judged (sym f.value) (omega arith));
          nested = λ z. sym f.value ∙ plain_is_nested (decode file) a b ad.range;
        }

    -- judging by built-in trees
    pub built_refused : {e : Refusal} → RefusedAs (bound_number file a b) e → BuiltSays file a b ceiling (Err (Refused e))
    unfolding bound_number built_number
    built_refused h =
        let still = refused_before (bound_checks file a b) (forecast_checks file ceiling) h in
        let other : built_number file a b ceiling ≡ 10 → ⊥ = λ ten. never_ten file a b (sym h.number ∙ still.number ∙ ten) in
        record { answer = refused_under (forecast (decode file)) still other _; product = λ z. absurd (never still z); nested = λ z. absurd (never still z) }

    pub built_over : {m : Model} {queries : ℕ} → Admitted file a b m → queries ≡ forecast (decode file) → ceiling < queries → BuiltSays file a b ceiling (Err (OverCeiling queries))
    unfolding built_number
    built_over {queries = queries} ad e over =
        let ten : built_number file a b ceiling ≡ 10 = after_bounds file a b (forecast_checks file ceiling) ad.number ∙ rw (lt-ltb ceiling (forecast (decode file)) (omega arith)) in
        record { answer = rw ten (ap over_ceiling e); product = λ z. absurd (omega arith); nested = λ z. absurd (omega arith) }

    pub built_found : {m : Model} {queries : ℕ} (r : Found) → Admitted file a b m → queries ≡ forecast (decode file) → queries ≤ ceiling → BuiltIs (decode file) a b r
        → BuiltSays file a b ceiling (Ok r)
    unfolding built_number
    built_found r ad e few g =
        let zero_number : built_number file a b ceiling ≡ 0 = after_bounds file a b (forecast_checks file ceiling) ad.number ∙ rw (le-ltb ceiling (forecast (decode file)) (omega arith)) in
        record {
          answer = rw zero_number (ap₂ judged g.value g.queries);
          product = λ z. g.queries ∙ built_product (decode file) (decode file).lines (decode file).lines ad.some_line ad.some_line;
          nested = λ z. g.value ∙ built_nested (decode file) a b ad.range ad.some_line;
        }

  -- judging by lent trees
  module _ (u v : List ℕ) where
    pub lent_refused : {e : Refusal} → RefusedAs (bound_number file a b) e → LentSays file a b u v (Err (Refused e))
    unfolding bound_number lent_number
    lent_refused h =
        let still = refused_before (bound_checks file a b) (tree_checks file u v) h in
        record { answer = refused_answer still _; product = λ z. absurd (never still z); nested = λ z. absurd (never still z) }

    -- a bad tree; the first is looked at first
    pub lent_bad : {m : Model} (p q : Bool) → Admitted file a b m → bad_tree (least_levels (decode file)) u ≡ p → bad_tree (greatest_levels (decode file)) v ≡ q → (p || q) ≡ true
        → LentSays file a b u v (Err (Refused Tree))
    unfolding lent_number
    lent_bad p q ad hp hq bad =
        let eleven : lent_number file a b u v ≡ 11 = after_bounds file a b (tree_checks file u v) ad.number ∙ rw (hp, hq) (either p q bad) in
        record { answer = rw eleven; product = λ z. absurd (omega arith); nested = λ z. absurd (omega arith) }
      where
        either : (p q : Bool) → (p || q) ≡ true → ◌≡◌ {A = ℕ} (cond p 11 (cond q 11 0)) 11
        either true q e = refl
        either false true e = refl
        either false false e = absurd (true≢false (sym e))

    pub lent_found : {m : Model} (r : Found) → Admitted file a b m → bad_tree (least_levels (decode file)) u ≡ false → bad_tree (greatest_levels (decode file)) v ≡ false
        → LentIs (decode file) a b u v r → LentSays file a b u v (Ok r)
    unfolding lent_number
    lent_found r ad hp hq g =
        let zero_number : lent_number file a b u v ≡ 0 = after_bounds file a b (tree_checks file u v) ad.number ∙ rw (hp, hq) in
        record {
          answer = rw zero_number (ap₂ judged g.value g.queries);
          product = λ z. g.queries ∙ lent_product (decode file) u v (good_tree (least_levels (decode file)) u hp).tree (good_tree (greatest_levels (decode file)) v hq).tree;
          nested = λ z pu pv. g.value ∙ lent_nested (decode file) a b ad.range u v pu pv;
        }
