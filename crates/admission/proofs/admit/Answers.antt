-- `admission::admit` meets its contract: checking's refusal is handed on, then the bounds are checked.
-- Assumes nothing.
use mathlib.Core.Bool.{Bool, cond}
use mathlib.Core.List.{[], ◌∷◌}
use mathlib.Core.Path.{◌≡◌, sym, ◌∙◌, ap, ap₂}
use Prim.Native.Nat.{ℕ}
use Rattle.std.proofs.lemmas.Result.{err_from_is_err_and}
use Rattle.answers.specs.Check.{◌if◌}
use Rattle.model.specs.File.{lines_in}
use Rattle.checker.specs.Checks.{file_checks, file_number}
use Rattle.model.specs.Says.{sized}
use Rattle.model.proofs.Refusals.{refused_before, refused_answer}
use Rattle.checker.proofs.Accepted.{checked, refused, after_file}
use Rattle.admission.specs.Checks.{misplaced, bound_number}
use Rattle.admission.proofs.admit.Goals as goal
use Rattle.admission.proofs.admit.Goals.{After-bounds_misplaced}

-- only the bounds are left to check
counted : (c : After-bounds_misplaced) → bound_number c.args.file.now c.args.a c.args.b ≡ cond c.bounds_misplaced.result 9 0
unfolding bound_number
counted c =
    let file = c.args.file.now in
    let counts = (checked file c.in_ok-held.ensures.answer).counts in
    after_file file (9 if misplaced (lines_in file) c.args.a c.args.b ∷ []) counts.number
    ∙ ap (λ (t : Bool). cond t 9 0) (sym (c.bounds_misplaced.ensures ∙ ap (λ (n : ℕ). misplaced n c.args.a c.args.b) counts.lines))

pub returns-in_err-held-clause-answer : goal.returns-in_err-held-clause-answer
unfolding bound_number file_number
returns-in_err-held-clause-answer c =
    let file = c.args.file.now in
    let same = err_from_is_err_and c.from_residual.result c.from_residual.ensures.1 in
    let more = 9 if misplaced (lines_in file) c.args.a c.args.b ∷ [] in
    rw (same.1, same.2) (refused_answer (refused_before (file_checks file) more (refused file c.in_err-held.ensures.answer)) _)

pub returns-then-bounds_misplaced-clause-answer : goal.returns-then-bounds_misplaced-clause-answer
returns-then-bounds_misplaced-clause-answer c =
    rw (counted (goal.at.returns-then-bounds_misplaced-clause-answer c).After-bounds_misplaced, c.if-bounds_misplaced.true)

pub returns-clause-answer : goal.returns-clause-answer
returns-clause-answer c =
    let counts = (checked c.args.file.now c.in_ok-held.ensures.answer).counts in
    rw (counted (goal.at.returns-clause-answer c).After-bounds_misplaced, c.if-bounds_misplaced.false) (ap₂ sized counts.lines counts.levels)
