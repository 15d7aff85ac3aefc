-- `solver::solve_plain` meets its contract: what `admit` refuses is handed on, and the evaluator's outcome is that of the file's own system.
-- Assumes nothing.
use mathlib.Core.Path.{◌≡◌, sym, ◌∙◌, ap}
use native.Mathlib.Omega.{arith}
use Rattle.std.proofs.lemmas.Result.{err_from_is_err_and}
use Rattle.answers.specs.declared.Refusal.TheVariants.{Ceiling}
use Rattle.system.specs.System.{System}
use Rattle.model.specs.File.{decode}
use Rattle.routes.specs.Routes.{plain_run}
use Rattle.plain_route.specs.Under.{under}
use Rattle.plain_route.proofs.Rounds.{settled_fits}
use Rattle.admission.proofs.Admitted.{Admitted, admitted, counted_range, turned_down}
use Rattle.solver.proofs.Answers.{own, some_level, plain_refused, plain_spent, plain_found}
use Rattle.solver.proofs.solve_plain.Goals as goal
use Rattle.solver.proofs.solve_plain.Goals.{In_ok-held, After-plain-run}

known : (c : In_ok-held) → Admitted c.args.file.now c.args.a c.args.b c.in_ok-held.held.model
known c = admitted _ _ _ c.in_ok-held.ensures.answer

-- the outcome is that of the file's own system
outcome : (c : After-plain-run) → under c.args.ceiling (plain_run (decode c.args.file.now) c.args.a c.args.b) ≡ c.plain-run.result
outcome c =
    let same = own c.in_ok-held.held c.in_ok-held.ensures.same (admitted _ _ _ c.in_ok-held.ensures.answer) in
    sym (c.plain-run.ensures ∙ ap (λ (s : System). under c.args.ceiling (plain_run s c.args.a c.args.b)) same)

pub returns-in_err-held : goal.returns-in_err-held
returns-in_err-held c =
    let same = err_from_is_err_and c.from_residual.result c.from_residual.ensures.1 in
    rw (same.1, same.2) (plain_refused _ _ _ _ (turned_down _ _ _ c.in_err-held.ensures.answer))

pub plain-run-requires : goal.plain-run-requires
plain-run-requires c =
    let ok = admitted _ _ _ c.in_ok-held.ensures.answer in
    (some_level ok, counted_range ok)

pub returns-in_err-set : goal.returns-in_err-set
returns-in_err-set c =
    let ends = outcome (goal.at.returns-in_err-set c).After-plain-run ∙ c.in_err-set.ensures.ok_part in
    let same = err_from_is_err_and c.from_residual-in_err-set.result c.from_residual-in_err-set.ensures.1 in
    let refused = rw c.in_err-set.ensures.ok_part at c.in_err-set.ensures.value in
    let ceiling : c.in_err-set.field-0.0 ≡ Ceiling = cc in
    rw (same.1, same.2, ceiling) (plain_spent _ _ _ _ (known (goal.at.returns-in_err-set c).In_ok-held) ends)

pub overflow_sub-result : goal.overflow_sub-result
overflow_sub-result c = omega (arith, (settled_fits _ _ _ _ (outcome (goal.at.overflow_sub-result c).After-plain-run ∙ c.in_ok-set.ensures.ok_part)).over)

pub returns : goal.returns
returns c =
    plain_found _ _ _ _ _ _ (known (goal.at.returns c).In_ok-held) (outcome (goal.at.returns c).After-plain-run ∙ c.in_ok-set.ensures.ok_part)
