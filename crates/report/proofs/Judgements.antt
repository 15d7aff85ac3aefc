-- The text in terms of the judgements: a refused file's line, and of an accepted file the lines of both judgings from no line to all lines.
-- Assumes nothing.
use mathlib.Core.List.{List, ◌++◌}
use mathlib.Core.Path.{◌≡◌, sym, ◌∙◌, ap, ap₂}
use Prim.Native.Nat.{ℕ, min}
use Rattle.std.specs.Prelude.{Result}
use Rattle.answers.specs.Answer.{Answer, number_of}
use Rattle.answers.specs.declared.Refusal.{Refusal}
use Rattle.sets.specs.Set.{full}
use Rattle.system.specs.System.{System}
use Rattle.model.specs.File.{decode}
use Rattle.checker.specs.Checks.{file_number}
use Rattle.model.specs.declared.layout.Model.{Model}
use Rattle.model.proofs.Refusals.{RefusedAs}
use Rattle.checker.proofs.Accepted.{Checked, all_lines}
use Rattle.solver.specs.Checks.{program_ceiling}
use Rattle.solver.specs.Says.{judged_answer, PlainSays, BuiltSays}
use Rattle.routes.specs.declared.shared.Found.{Found}
use Rattle.solver.specs.declared.Unjudged.{Unjudged}
use Rattle.text.specs.Text.{refused_line, text_or_refused}
use Rattle.text.proofs.Digits.{refused_line_lem}
use Rattle.report.specs.Report.{plain_word, tree_word, answer_line, share_line, three_lines, report_text}

module _ (file : List ℕ) where
  -- a refused file's text is its refusal's line
  pub refused_text : {e : Refusal} → RefusedAs (file_number file) e → refused_line (number_of e) 0 ≡ report_text file
  unfolding report_text
  refused_text h = ap (λ (e : ℕ). refused_line e 0) h.number ∙ sym (refused_line_lem 0 (three_lines file) h.positive)

  -- the three lines, from what the file's check, its mask of all lines and both judgings say
  pub accepted_text : {m : Model} {all : ℕ} {s : System} {p t : Result Found Unjudged} → Checked file m → all ≡ full (min m.lines 64) → s ≡ decode file
      → PlainSays file 0 all program_ceiling p → BuiltSays file 0 all program_ceiling t
      → plain_word ++ (answer_line (judged_answer p) ++ (tree_word ++ (answer_line (judged_answer t) ++ share_line s (judged_answer t)))) ≡ report_text file
  unfolding report_text decode
  accepted_text {p = p} {t = t} known mask own plain tree =
      let lines = all_lines file known mask in
      let last : Answer → List ℕ = λ x. tree_word ++ (answer_line x ++ share_line (decode file) x) in
      ap (λ (s : System). plain_word ++ (answer_line (judged_answer p) ++ (tree_word ++ (answer_line (judged_answer t) ++ share_line s (judged_answer t))))) own
      ∙ ap₂ (λ (x y : Answer). plain_word ++ (answer_line x ++ last y)) (rw lines at plain).answer (rw lines at tree).answer
      ∙ ap (λ (e : ℕ). text_or_refused e 0 (three_lines file)) (sym known.counts.number)
