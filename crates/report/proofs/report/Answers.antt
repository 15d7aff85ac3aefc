-- `report::report` meets its contract: a short buffer is left as it was, a refused file has the refusal's line, and of an accepted file
-- the pieces of the three lines, put one behind the other, are its text. Every line is so short that 144 bytes are enough.
-- Assumes nothing.
use mathlib.Core.List.{List}
use mathlib.Core.Path.{◌≡◌, ◌∙◌, ap₂}
use Prim.Native.Nat.{ℕ}
use native.Mathlib.Omega.{arith}
use borrow.Author.Tests.{le-ltb}
use Rattle.std.proofs.Common.{Bor}
use Rattle.model.specs.File.{decode}
use Rattle.model.specs.Held.{system_in}
use Rattle.model.specs.Files.{laid_system}
use Rattle.model.specs.declared.layout.Model.{Model}
use Rattle.checker.proofs.Accepted.{checked, refused, held_decoded}
use Rattle.solver.specs.Says.{judged_answer}
use Rattle.text.proofs.Digits.{puts_then}
use Rattle.report.proofs.Lines.{answer_few}
use Rattle.report.proofs.Judgements.{refused_text, accepted_text}
use Rattle.report.proofs.report.Goals as goal

pub returns-in-Err : goal.returns-in-Err
returns-in-Err c =
    rw (le-ltb _ 144 c.if-out-lt-REPORT_SIZE.false, ← refused_text _ (refused _ c.in-Err.ensures.answer))
    (rw c.from.ensures at c.put_refused.ensures)

pub put-tree-requires : goal.put-tree-requires
put-tree-requires c = omega (arith, answer_few (judged_answer c.solve_plain.result))

pub put_judged-tree_end-requires : goal.put_judged-tree_end-requires
put_judged-tree_end-requires c = omega (arith, answer_few (judged_answer c.solve_plain.result))

pub put_share-requires-clause-le_lines : goal.put_share-requires-clause-le_lines
put_share-requires-clause-le_lines c =
    let known = checked _ c.in-Ok.ensures.answer in
    rw c.laid.ensures.1 (omega (arith, known.counts.lines, known.accepted.header.lines_least))

pub put_share-requires-clause-in_bounds : goal.put_share-requires-clause-in_bounds
put_share-requires-clause-in_bounds c = omega (arith, answer_few (judged_answer c.solve_plain.result), answer_few (judged_answer c.solve_built-judged.result))

pub returns : goal.returns
returns c =
    let known = checked _ c.in-Ok.ensures.answer in
    let own = held_decoded c.in-Ok.held c.in-Ok.ensures.same known in
    let laid : laid_system c.laid.result ≡ decode c.args.file.now = ap₂ (λ (bytes : Bor (List ℕ)) (m : Model). system_in bytes.now m) c.laid.ensures.0 c.laid.ensures.1 ∙ own in
    let few = answer_few (judged_answer c.solve_plain.result) in
    rw (
      le-ltb _ 144 c.if-out-lt-REPORT_SIZE.false,
      ← accepted_text _ known c.full_set-all.ensures laid c.solve_plain.ensures c.solve_built-judged.ensures,
    )
    (puts_then (omega arith) c.put-plain.ensures
    (puts_then (omega (arith, c.put-plain)) c.put_judged-plain_end.ensures
    (puts_then (omega (arith, few)) c.put-tree.ensures
    (puts_then (omega (arith, few, c.put-tree)) c.put_judged-tree_end.ensures c.put_share.ensures))))
