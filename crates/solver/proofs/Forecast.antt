-- The forecast is the count that judging by built-in trees comes to. So it is refused with 10 exactly where that count is over the ceiling and no earlier
-- number applies, an accepted count is within the ceiling, a ceiling of 0 refuses every judgement, and one of 64 ^ 8 none.
-- Assumes nothing.
use Rattle.std.specs.Prelude.{Result}
use mathlib.Core.Bool.{cond}
use mathlib.Core.List.{List}
use mathlib.Core.Path.{◌≡◌, refl, sym, ◌∙◌, ap}
use Prim.Native.Nat.{ℕ, zero, suc, ◌^◌, ◌≤◌, ◌<◌}
use native.Mathlib.Nat.{le_trans, mul-le-mul}
use native.Mathlib.Omega.{arith}
use borrow.Author.Tests.{lt-ltb, le-ltb, ltb-false}
use lib.Dec.{ltb}
use Rattle.answers.proofs.Checks.{passes_both, passes_none, none_first}
use Rattle.trees.specs.Built.{leaf_count}
use Rattle.system.specs.System.{System}
use Rattle.model.specs.File.{decode}
use Rattle.model.proofs.Refusals.{none_over}
use Rattle.checker.proofs.Accepted.{accepted}
use Rattle.routes.specs.declared.shared.Found.{Found}
use Rattle.routes.specs.Routes.{least_levels, greatest_levels, built_least, built_greatest, restricted_count}
use Rattle.routes.proofs.Promises.{built_product}
use Rattle.admission.specs.Checks.{bound_checks, bound_number, forecast}
use Rattle.admission.proofs.Admitted.{file_passed, after_bounds}
use Rattle.admission.proofs.FewQueries.{forecast_few}
use Rattle.solver.specs.Checks.{forecast_checks, built_checks, built_number}
use Rattle.solver.specs.Says.{judged_answer, BuiltSays}
use Rattle.solver.specs.declared.Unjudged.{Unjudged}

-- the count of judging a system by built-in trees
abbrev pub built_count : System → ℕ
built_count s = restricted_count s (built_least s s.lines) (built_greatest s s.lines)

-- every tree has a leaf
leaf_some : (n h : ℕ) → 1 ≤ n → 1 ≤ leaf_count n h
unfolding leaf_count
leaf_some zero h some = absurd (omega arith)
leaf_some (suc n) h some = omega arith

module _ (file : List ℕ) (a b : ℕ) (admitted : bound_number file a b ≡ 0) where
  some_line : 1 ≤ (decode file).lines
  unfolding decode
  some_line = (accepted file (file_passed file a b admitted)).header.lines_least

  pub forecast_counts : forecast (decode file) ≡ built_count (decode file)
  forecast_counts = sym (built_product (decode file) (decode file).lines (decode file).lines some_line some_line)

  pub over_exactly : (ceiling : ℕ) → built_number file a b ceiling ≡ cond (ltb ceiling (built_count (decode file))) 10 0
  unfolding built_number
  over_exactly ceiling = after_bounds file a b (forecast_checks file ceiling) admitted ∙ ap (λ (count : ℕ). cond (ltb ceiling count) 10 0) forecast_counts

  some_count : 0 < built_count (decode file)
  some_count =
      let s = decode file in
      rw (← forecast_counts) (mul-le-mul (leaf_some s.lines (least_levels s) some_line) (leaf_some s.lines (greatest_levels s) some_line))

  pub built_ceiling_zero : built_number file a b 0 ≡ 10
  built_ceiling_zero = over_exactly 0 ∙ rw (lt-ltb 0 (built_count (decode file)) some_count)

  few_counts : built_count (decode file) ≤ 64 ^ 8
  unfolding decode
  few_counts =
      let header = (accepted file (file_passed file a b admitted)).header in
      rw (← forecast_counts) (forecast_few (decode file) header.lines_most header.levels_most)

  pub high_ceiling : (ceiling : ℕ) → 64 ^ 8 ≤ ceiling → built_number file a b ceiling ≡ 0
  high_ceiling ceiling h = over_exactly ceiling ∙ rw (le-ltb ceiling (built_count (decode file)) (le_trans few_counts h))

-- where judging accepts, so do the earlier checks, and the forecast is within the ceiling
pub both_passed : (file : List ℕ) (a b ceiling : ℕ) → built_number file a b ceiling ≡ 0 → (bound_number file a b ≡ 0) × (forecast (decode file) ≤ ceiling)
unfolding built_number bound_number
both_passed file a b ceiling none =
    let both = passes_both (bound_checks file a b) (forecast_checks file ceiling) (none_first (built_checks file a b ceiling) refl none) in
    (passes_none (bound_checks file a b) both.0, ltb-false ceiling (forecast (decode file)) both.1.0)

-- so an accepted count is within it
pub count_within : (file : List ℕ) (a b ceiling : ℕ) (r : Result Found Unjudged) → BuiltSays file a b ceiling r → (judged_answer r).number ≡ 0 → (judged_answer r).count ≤ ceiling
count_within file a b ceiling r says ok =
    let none : built_number file a b ceiling ≡ 0 = none_over _ _ _ _ says.answer refl ok in
    rw (says.product none) (both_passed file a b ceiling none).1
