-- `checker::line_misfits` meets its contract: a line that is no vote is judged without its operands.
-- Assumes nothing.
use mathlib.Core.List.{List}
use mathlib.Core.Path.{◌≡◌, sym, ◌∙◌, ap, ap₂}
use Prim.Native.Nat.{ℕ, ◌+◌, ◌*◌}
use lib.ListN.{drop}
use Rattle.numbers.specs.Numbers.{words_from}
use Rattle.system.specs.Query.{words_of, operand_count}
use Rattle.model.specs.Checks.{misfits}
use Rattle.model.specs.Held.{system_in}
use Rattle.model.specs.declared.layout.Model.{Model}
use Rattle.model.proofs.Thresholds.{no_vote}
use Rattle.model.proofs.KindBytes.{is_no_vote}
use Rattle.model.proofs.Lines.{words_of_lem}
use Rattle.checker.proofs.line_misfits.Goals as goal
use Rattle.checker.proofs.line_misfits.Goals.{Joined-from, in-Any, in-Vote}

abbrev operands : List ℕ → Model → ℕ → ℕ
operands file m i = operand_count (words_of (system_in file m) i)

-- what is counted serves for the number of the line's operands
counted : (c : Joined-from) (t : ℕ) → misfits c.kind-kind.result t c.match-from.count ≡ misfits c.kind-kind.result t (operands c.args.file.bytes.now c.args.file.model c.args.i)
counted c t =
    let file = c.args.file.bytes.now in
    let d = c.args.file.model.levels in
    let i = c.args.i in
    let kind = c.kind-kind.result in
    let words = words_of_lem c.args.file.model.lines d file i c.requires in
    elim c.match-from.branch [
      | in-Any w ↦ let other = is_no_vote kind (rw c.from.ensures at w.in-Any.is) in no_vote kind t _ other ∙ sym (no_vote kind t _ other)
      | in-Vote w ↦ ap (misfits kind t) (w.count-is ∙ w.operand_count-count.ensures ∙ ap operand_count (ap (λ (at : ℕ). words_from d (drop (at + 8 * (i * d)) file)) w.words_in.ensures ∙ sym words))
    ]

pub returns : goal.returns
returns c =
    c.misfits.ensures ∙ counted (goal.at.returns c).Joined-from _ ∙ ap₂ (λ (k t : ℕ). misfits k t (operands c.args.file.bytes.now c.args.file.model c.args.i)) c.kind-kind.ensures c.threshold.ensures
