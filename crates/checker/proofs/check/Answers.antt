-- `checker::check` meets its contract: the header's refusal is handed on; then the sections are searched in the checks' order.
-- Assumes nothing.
use mathlib.Core.Bool.{Bool, false, cond}
use mathlib.Core.List.{List}
use mathlib.Core.Path.{◌≡◌, refl, sym, ◌∙◌, ap, ap₂}
use Prim.Native.Nat.{ℕ, ◌-◌}
use native.Mathlib.Omega.{arith}
use lib.Dec.{ltb}
use lib.ListN.{take, drop}
use Rattle.std.proofs.lemmas.Result.{err_from_is_err_and}
use Rattle.answers.specs.Check.{first_of, unless}
use Rattle.answers.proofs.Checks.{first_after, none_first}
use Rattle.system.specs.System.{System}
use Rattle.model.specs.File.{signs_at, kinds_at, lines_in, levels_in, is_old, highest_kind}
use Rattle.model.specs.Checks.{some, content_checks}
use Rattle.model.specs.Held.{system_in}
use Rattle.checker.specs.Checks.{header_checks, section_checks, file_number}
use Rattle.model.specs.Says.{sized}
use Rattle.model.specs.declared.layout.Model.{Model}
use Rattle.model.proofs.Refusals.{AcceptedAs, accepted_as, refused_as, refused_before, refused_answer}
use Rattle.checker.proofs.Accepted.{accepted, decoded, held}
use Rattle.checker.proofs.check.Goals as goal
use Rattle.checker.proofs.check.Goals.{After-stray_selection}

-- the signs are what is searched first
signs-test : (file : List ℕ) (m : Model) {end : ℕ} {found : Bool} → end ≡ kinds_at m.levels → found ≡ some (ltb 1) (take (end - signs_at) (drop signs_at file))
    → some (ltb 1) (system_in file m).signs ≡ found
signs-test file m {end} e searched =
    let span : end - signs_at ≡ m.levels = omega (arith, e) in
    sym (searched ∙ ap (λ (k : ℕ). some (ltb 1) (take k (drop signs_at file))) span)

-- a header that passes: the counts that it gives, and that only the content is left to check
module _ (file : List ℕ) {m : Model} (h : sized m.lines m.levels ≡ unless (first_of (header_checks file)) (sized (lines_in file) (levels_in file))) where
  counts : AcceptedAs (first_of (header_checks file)) (lines_in file) (levels_in file) m
  counts = accepted_as _ (lines_in file) (levels_in file) h

  content : file_number file ≡ first_of (content_checks (highest_kind (is_old m.lines m.levels file)) (system_in file m))
  unfolding file_number
  content =
      first_after (header_checks file) (section_checks file) (none_first (header_checks file) refl counts.number)
      ∙ ap₂ (λ (highest : ℕ) (s : System). first_of (content_checks highest s))
      (sym (ap₂ (λ (n d : ℕ). highest_kind (is_old n d file)) counts.lines counts.levels)) (sym (decoded file counts))

pub returns-in_err-model-clause-answer : goal.returns-in_err-model-clause-answer
unfolding file_number
returns-in_err-model-clause-answer c =
    let file = c.args.file.now in
    let refused = refused_as (first_of (header_checks file)) (lines_in file) (levels_in file) c.in_err-model.ensures in
    let same = err_from_is_err_and c.from_residual.result c.from_residual.ensures.1 in
    rw (same.1, same.2) (refused_answer (refused_before (header_checks file) (section_checks file) refused) (sized (lines_in file) (levels_in file)))

pub returns-then-one_over-clause-answer : goal.returns-then-one_over-clause-answer
returns-then-one_over-clause-answer c =
    let file = c.args.file.now in
    let m = c.in_ok-model.model in
    rw (content file c.in_ok-model.ensures, signs-test file m c.kinds_at.ensures c.one_over.ensures, c.if-one_over.true)

pub returns-then-faults-clause-answer : goal.returns-then-faults-clause-answer
returns-then-faults-clause-answer c =
    let file = c.args.file.now in
    let m = c.in_ok-model.model in
    rw (
      content file c.in_ok-model.ensures,
      signs-test file m c.kinds_at.ensures c.one_over.ensures,
      c.if-one_over.false,
      ← c.line_faults-faults.ensures.kinds,
      c.if-faults.true,
    )

-- only the stray selections and the thresholds are left to check
searched : (c : After-stray_selection) → file_number c.args.file.now ≡ cond c.stray_selection.result 7 (cond c.line_faults-faults.result.threshold 14 0)
searched c =
    let file = c.args.file.now in
    let m = c.in_ok-model.model in
    rw (
      content file c.in_ok-model.ensures,
      signs-test file m c.kinds_at.ensures c.one_over.ensures,
      c.if-one_over.false,
      ← c.line_faults-faults.ensures.kinds,
      c.if-faults.false,
      ← c.stray_selection.ensures,
      ← c.line_faults-faults.ensures.thresholds c.if-faults.false,
    )

pub returns-then-stray_selection-clause-answer : goal.returns-then-stray_selection-clause-answer
returns-then-stray_selection-clause-answer c = rw (searched (goal.at.returns-then-stray_selection-clause-answer c).After-stray_selection, c.if-stray_selection.true)

pub returns-then-faults-2-clause-answer : goal.returns-then-faults-2-clause-answer
returns-then-faults-2-clause-answer c =
    rw (searched (goal.at.returns-then-faults-2-clause-answer c).After-stray_selection, c.if-stray_selection.false, c.if-faults-2.true)

-- no number applies, so the file is held
passed : (c : After-stray_selection) → c.stray_selection.result ≡ false → c.line_faults-faults.result.threshold ≡ false → file_number c.args.file.now ≡ 0
passed c strays faults = rw (searched c, strays, faults)

pub invariant_of-result : goal.invariant_of-result
invariant_of-result c =
    let file = c.args.file.now in
    let none = passed (goal.at.invariant_of-result c).After-stray_selection c.if-stray_selection.false c.if-faults-2.false in
    record { held = held (accepted file none) (counts file c.in_ok-model.ensures) }

pub returns-clause-answer : goal.returns-clause-answer
returns-clause-answer c =
    let known = counts c.args.file.now c.in_ok-model.ensures in
    rw (passed (goal.at.returns-clause-answer c).After-stray_selection c.if-stray_selection.false c.if-faults-2.false) (ap₂ sized known.lines known.levels)
