-- `bench_page::make_page` meets its contract: what checking and judging refuse is handed on, a short buffer is left as it was, and the page is that of
-- the set that judging found.
-- Assumes nothing.
use mathlib.Core.List.{List}
use mathlib.Core.Path.{◌≡◌, ◌∙◌, ap, ap₂}
use native.Mathlib.Omega.{arith}
use Rattle.std.proofs.lemmas.Result.{err_from_is_err_and}
use Rattle.sets.specs.Set.{full}
use Rattle.model.specs.File.{lines_in}
use Rattle.model.specs.declared.layout.Model.{Model}
use Rattle.checker.proofs.Accepted.{Checked, checked, refused, held_decoded, all_lines}
use Rattle.solver.proofs.Answers.{laid_held}
use Rattle.bench_page.proofs.Outcome.{file_refused, judging_refused, short_buffer, page_made}
use Rattle.bench_page.proofs.make_page.Goals as goal
use Rattle.bench_page.proofs.make_page.Goals.{In_ok-held, After-full_set-all}

known : (c : In_ok-held) → Checked c.args.file.now c.in_ok-held.held.model
known c = checked _ c.in_ok-held.ensures.answer

mask : (c : After-full_set-all) → c.full_set-all.result ≡ full (lines_in c.args.file.now)
mask c = all_lines _ (checked _ c.in_ok-held.ensures.answer) c.full_set-all.ensures

pub returns-in_err-held : goal.returns-in_err-held
returns-in_err-held c =
    let same = err_from_is_err_and c.from_residual.result c.from_residual.ensures.1 in
    rw (same.1, same.2) (file_refused _ _ (refused _ c.in_err-held.ensures.answer))

pub returns-in_err-found : goal.returns-in_err-found
returns-in_err-found c =
    let same = err_from_is_err_and c.from_residual-in_err-found.result c.from_residual-in_err-found.ensures.1 in
    rw (same.1, same.2) (judging_refused _ _ (mask (goal.at.returns-in_err-found c).After-full_set-all) c.in_err-found.ensures)

pub overflow_add-held : goal.overflow_add-held
overflow_add-held c = omega (arith, (checked _ c.in_ok-held.ensures.answer).limits)

pub overflow_mul-held : goal.overflow_mul-held
overflow_mul-held c = omega (arith, (checked _ c.in_ok-held.ensures.answer).limits)

pub returns-then-buffer-held : goal.returns-then-buffer-held
returns-then-buffer-held c =
    short_buffer
    _ _ (mask (goal.at.returns-then-buffer-held c).After-full_set-all) (known (goal.at.returns-then-buffer-held c).In_ok-held)
    c.in_ok-found.ensures c.if-buffer-held.true

pub put_page-requires-clause-le_lines : goal.put_page-requires-clause-le_lines
put_page-requires-clause-le_lines c =
    let ok = checked _ c.in_ok-held.ensures.answer in
    omega (arith, ap (λ (m : Model). m.lines) c.laid.ensures.1, ok.counts.lines, ok.accepted.header.lines_least)

pub returns : goal.returns
returns c =
    let ok = known (goal.at.returns c).In_ok-held in
    let own = laid_held c.in_ok-held.held c.laid.result c.laid.ensures ∙ held_decoded c.in_ok-held.held c.in_ok-held.ensures.same ok in
    page_made _ _ (mask (goal.at.returns c).After-full_set-all) ok c.in_ok-found.ensures own c.if-buffer-held.false c.put_page.ensures
