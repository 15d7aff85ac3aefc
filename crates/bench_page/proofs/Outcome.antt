-- The contract of making the page in each of its cases: the file is refused, judging it is, the buffer is too short, or the page is made.
-- Assumes nothing.
use Rattle.std.specs.Prelude.{Result, Ok, Err}
use mathlib.Core.List.{List, [], ◌∷◌, ◌++◌}
use mathlib.Core.Path.{◌≡◌, refl, sym, ◌∙◌, ap, ap₂, subst}
use Prim.Native.Nat.{ℕ, ◌+◌, ◌*◌, ◌≤◌, ◌<◌}
use native.Mathlib.Nat.{zero-add}
use native.Mathlib.Omega.{arith}
use borrow.Author.Tests.{lt-ltb, le-ltb}
use lib.ListN.{length, drop}
use Rattle.answers.specs.Answer.{Answer}
use Rattle.answers.specs.Check.{◌if◌}
use Rattle.answers.specs.declared.Refusal.{Refusal}
use Rattle.answers.specs.declared.Refusal.TheVariants.{Room}
use Rattle.sets.specs.Set.{full}
use Rattle.system.specs.System.{System}
use Rattle.model.specs.File.{lines_in, decode}
use Rattle.model.specs.Says.{made}
use Rattle.model.specs.declared.layout.Model.{Model}
use Rattle.model.proofs.Refusals.{RefusedAs, refused_by, refused_under, refused_before, filled_refused, over_number, over_same}
use Rattle.checker.specs.Checks.{file_checks, file_number}
use Rattle.checker.proofs.Accepted.{Checked}
use Rattle.admission.specs.Checks.{misplaced, bound_checks, bound_number, forecast}
use Rattle.admission.proofs.Admitted.{never_ten}
use Rattle.solver.specs.Checks.{forecast_checks, built_checks, program_ceiling}
use Rattle.solver.specs.Says.{judged_answer, BuiltSays}
use Rattle.routes.specs.declared.shared.Found.{Found}
use Rattle.solver.specs.declared.Unjudged.{Unjudged}
use Rattle.solver.specs.declared.Unjudged.TheVariants.{Refused}
use Rattle.solver.proofs.Answers.{unjudged_positive}
use Rattle.text.specs.Text.{Puts}
use Rattle.page_layout.specs.Page.{page}
use Rattle.bench_page.specs.Says.{shown_answer, page_of, room_checks, page_number, PageSays}
use Rattle.bench_page.proofs.Pages.{shown_number, file_page_length, judging_before, room_left}

-- what judging answered is what the page goes by; all is the mask of all lines
module _ (file : List ℕ) {all : ℕ} (mask : all ≡ full (lines_in file)) {j : Result Found Unjudged} (says : BuiltSays file 0 all program_ceiling j) where
  shown : judged_answer j ≡ shown_answer file
  shown = (rw mask at says).answer

  numbered : (judged_answer j).number ≡ shown_number file
  numbered = ap (λ (x : Answer). x.number) shown ∙ over_number (forecast (decode file)) (shown_number file) _ refl

module _ (file buffer : List ℕ) where
  abbrev room : ℕ
  room = length buffer

  page_refused : {e : Refusal} → RefusedAs (page_number file room) e → (page_number file room ≡ 10 → ⊥) → PageSays file buffer (Err (Refused e)) buffer
  page_refused h other = record { answer = refused_under (forecast (decode file)) h other (made _); left = filled_refused (page_of file) buffer h.positive }

  pub file_refused : {e : Refusal} → RefusedAs (file_number file) e → PageSays file buffer (Err (Refused e)) buffer
  unfolding page_number file_number bound_number
  file_refused h =
      let all = full (lines_in file) in
      let bounds = refused_before (file_checks file) (9 if misplaced (lines_in file) 0 all ∷ []) h in
      let built = refused_before (bound_checks file 0 all) (forecast_checks file program_ceiling) bounds in
      let still = refused_before (built_checks file 0 all program_ceiling) (room_checks file room) built in
      page_refused still (λ ten. never_ten file 0 all (sym bounds.number ∙ still.number ∙ ten))

  module _ {all : ℕ} (mask : all ≡ full (lines_in file)) where
    -- what judging refuses is handed on, with its count
    pub judging_refused : {e : Unjudged} → BuiltSays file 0 all program_ceiling (Err e) → PageSays file buffer (Err e) buffer
    judging_refused {e} says =
        let refuses : 0 < shown_number file = omega (arith, numbered file mask says, unjudged_positive e) in
        let number = judging_before file room refuses in
        record {
          answer = shown file mask says ∙ rw number (over_same (forecast (decode file)) _ (made _) refuses);
          left = rw number (filled_refused (page_of file) buffer refuses);
        }

    module _ {m : Model} (known : Checked file m) {found : Found} (says : BuiltSays file 0 all program_ceiling (Ok found)) where
      accepts : shown_number file ≡ 0
      accepts = sym (numbered file mask says)

      pub short_buffer : room < 41 * (m.lines + 1) → PageSays file buffer (Err (Refused Room)) buffer
      short_buffer h =
          let short : room < length (page_of file) = omega (arith, file_page_length file known.counts.number, known.counts.lines) in
          let twelve : page_number file room ≡ 12 = room_left file room accepts ∙ rw (lt-ltb room (length (page_of file)) short) in
          page_refused (refused_by Room twelve) (λ ten. omega arith)

      pub page_made : {s : System} {bytes : ℕ} {buffer' : List ℕ} → s ≡ decode file → 41 * (m.lines + 1) ≤ room
          → Puts 0 (page s found.set) buffer buffer' bytes → PageSays file buffer (Ok bytes) buffer'
      unfolding page_of
      page_made {bytes = bytes} {buffer' = buffer'} own enough put =
          let long : length (page_of file) ≤ room = omega (arith, file_page_length file known.counts.number, known.counts.lines) in
          let none : page_number file room ≡ 0 = room_left file room accepts ∙ rw (le-ltb room (length (page_of file)) long) in
          let whole : Puts 0 (page_of file) buffer buffer' bytes = subst (λ (t : List ℕ). Puts 0 t buffer buffer' bytes) (ap₂ page own (ap (λ (x : Answer). x.set) (shown file mask says))) put in
          record {
            answer = rw none (ap made (whole.end ∙ zero-add (length (page_of file))));
            left = rw none (whole.left ∙ ap (λ (n : ℕ). page_of file ++ drop n buffer) (zero-add (length (page_of file))));
          }
