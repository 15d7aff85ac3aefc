-- `solver::solve_built` meets its contract: what `admit` refuses is handed on, the ceiling is held against the forecast for the file's own system, and the
-- evaluator's set and count are those of that system.
-- Assumes nothing.
use mathlib.Core.Path.{◌≡◌, ◌∙◌, ap, subst}
use Rattle.std.proofs.lemmas.Result.{err_from_is_err_and}
use Rattle.system.specs.System.{System}
use Rattle.model.specs.File.{decode}
use Rattle.view.specs.View.{BuiltIs}
use Rattle.admission.specs.Checks.{forecast}
use Rattle.admission.proofs.Admitted.{Admitted, admitted, turned_down}
use Rattle.solver.proofs.Answers.{own, some_line, some_level, built_refused, built_over, built_found}
use Rattle.solver.proofs.solve_built.Goals as goal
use Rattle.solver.proofs.solve_built.Goals.{In_ok-held, After-forecast-queries}

known : (c : In_ok-held) → Admitted c.args.file.now c.args.a c.args.b c.in_ok-held.held.model
known c = admitted _ _ _ c.in_ok-held.ensures.answer

-- the forecast is that of the file's own system
told : (c : After-forecast-queries) → c.forecast-queries.result ≡ forecast (decode c.args.file.now)
told c =
    let same = own c.in_ok-held.held c.in_ok-held.ensures.same (admitted _ _ _ c.in_ok-held.ensures.answer) in
    c.forecast-queries.ensures ∙ ap forecast same

pub returns-in_err-held : goal.returns-in_err-held
returns-in_err-held c =
    let same = err_from_is_err_and c.from_residual.result c.from_residual.ensures.1 in
    rw (same.1, same.2) (built_refused _ _ _ _ (turned_down _ _ _ c.in_err-held.ensures.answer))

pub returns-then-ceiling-queries : goal.returns-then-ceiling-queries
returns-then-ceiling-queries c =
    built_over _ _ _ _ (known (goal.at.returns-then-ceiling-queries c).In_ok-held) (told (goal.at.returns-then-ceiling-queries c).After-forecast-queries) c.if-ceiling-queries.true

pub built-requires : goal.built-requires
built-requires c =
    let ok = admitted _ _ _ c.in_ok-held.ensures.answer in
    (some_line ok, some_level ok)

pub returns : goal.returns
returns c =
    let ok = known (goal.at.returns c).In_ok-held in
    let same = own c.in_ok-held.held c.in_ok-held.ensures.same ok in
    built_found
    _ _ _ _ c.built.result ok (told (goal.at.returns c).After-forecast-queries) c.if-ceiling-queries.false
    (subst (λ (s : System). BuiltIs s c.args.a c.args.b c.built.result) same c.built.ensures)
