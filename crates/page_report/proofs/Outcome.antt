-- What making the page in a buffer of 2,665 bytes or more leaves is the program's text: the page, or, where making it is refused, the line of that refusal put into it.
-- Assumes nothing.
use Rattle.std.specs.Prelude.{Ok, Err}
use mathlib.Core.List.{List, ◌++◌}
use mathlib.Core.Path.{◌≡◌, refl, sym, ◌∙◌, ap}
use Prim.Native.Nat.{ℕ, ◌≤◌, ◌<◌}
use native.Mathlib.Nat.{zero-add}
use native.Mathlib.Omega.{arith}
use lib.ListN.{length, drop}
use Rattle.answers.specs.Answer.{Answer}
use Rattle.model.specs.File.{decode}
use Rattle.model.specs.Says.{made}
use Rattle.model.proofs.Refusals.{over_number, none_over, over_same, filled_refused}
use Rattle.admission.specs.Checks.{forecast}
use Rattle.bench_page.specs.Says.{shown_answer, page_of, page_number, PageSays}
use Rattle.solver.specs.Says.{unjudged_answer}
use Rattle.solver.specs.declared.Unjudged.{Unjudged}
use Rattle.solver.proofs.Answers.{unjudged_positive}
use Rattle.bench_page.proofs.Pages.{shown_number, page_number_lem}
use Rattle.text.specs.Text.{refused_line, Puts}
use Rattle.text.proofs.Digits.{refused_line_lem}
use Rattle.page_report.specs.Report.{page_text}

module _ (file out : List ℕ) (enough : 2665 ≤ length out) where
  number_known : page_number file (length out) ≡ shown_number file
  number_known = page_number_lem file (length out) enough

  shown_number_lem : (shown_answer file).number ≡ shown_number file
  shown_number_lem = over_number (forecast (decode file)) (shown_number file) _ refl

  pub page_put : {bytes : ℕ} {out' : List ℕ} → PageSays file out (Ok bytes) out' → Puts 0 (page_text file) out out' bytes
  unfolding page_text
  page_put {bytes} says =
      let none : page_number file (length out) ≡ 0 = none_over _ (page_number file (length out)) (made bytes) (made (length (page_of file))) says.answer refl refl in
      let answer = rw none at says.answer in
      let left = rw none at says.left in
      rw (shown_number_lem ∙ sym number_known ∙ none)
      (record {
        end = ap (λ (x : Answer). x.length) answer ∙ sym (zero-add (length (page_of file)));
        left = left ∙ ap (λ (n : ℕ). page_of file ++ drop n out) (sym (zero-add (length (page_of file))));
      })

  -- a refusal's line has the number and the count of its answer
  pub refusal_put : {e : Unjudged} {r : ℕ} {out' out'' : List ℕ} → PageSays file out (Err e) out'
      → Puts 0 (refused_line (unjudged_answer e).number (unjudged_answer e).count) out' out'' r → Puts 0 (page_text file) out out'' r
  unfolding page_text
  refusal_put {e} {r} {out'} {out''} says put =
      let refuses = unjudged_positive e in
      let number : (unjudged_answer e).number ≡ page_number file (length out) = ap (λ (x : Answer). x.number) says.answer ∙ over_number _ (page_number file (length out)) _ refl in
      let positive : 0 < page_number file (length out) = omega arith in
      let same : unjudged_answer e ≡ shown_answer file = says.answer ∙ rw number_known (over_same (forecast (decode file)) _ _ (rw number_known at positive)) in
      let kept : out' ≡ out = says.left ∙ sym (filled_refused (page_of file) out positive) in
      rw (← same, refused_line_lem (unjudged_answer e).count (page_of file) refuses) (rw kept at put)
