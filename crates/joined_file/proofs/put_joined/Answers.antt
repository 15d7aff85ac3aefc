-- `joined_file::put_joined` meets its contract: each section is written behind those before it.
-- Assumes nothing.
use mathlib.Core.List.{List}
use mathlib.Core.Path.{◌≡◌, ◌∙◌, ap, ap₂}
use Prim.Native.Nat.{ℕ, ◌+◌, ◌*◌}
use native.Mathlib.Omega.{arith}
use lib.ListN.{length, take, drop, length-append, length-drop}
use lib.Seq.{length-take-le}
use Rattle.model.specs.File.{file_length}
use Rattle.model.specs.Held.{system_in}
use Rattle.model.specs.declared.layout.Model.{Model}
use Rattle.model.proofs.Lines.{every_length}
use Rattle.encoder.proofs.Sections.{sections_copied}
use Rattle.joined_file.specs.AtHand.{joined_in, joined_laid}
use Rattle.joined_file.proofs.put_joined.Goals as goal

-- a kind for each line of both
both_kinds : (first second : List ℕ) (m k : Model) → length (joined_in first m second k).kinds ≡ m.lines + k.lines
both_kinds first second m k =
    length-append (system_in first m).kinds (system_in second k).kinds ∙ ap₂ ◌+◌ (every_length _ m.lines _) (every_length _ k.lines _)

pub returns : goal.returns
returns c =
    let first = c.args.first.bytes.now in
    let m = c.args.first.model in
    let k = c.args.second.model in
    let laid = c.args.first.laid_out in
    let both = joined_laid c.args.first c.args.second in
    let n = m.lines + k.lines in
    let d = m.levels in
    let kinds-at = c.kinds_at-kinds_at in
    let words_at = c.words_at-words_at in
    let signs = length-take-le d (drop 16 first) (omega (arith, length-drop 16 first, laid.laid, laid.whole)) in
    let kinds = both_kinds first c.args.second.bytes.now m k in
    sections_copied n d both.signs both.kinds both.thresholds both.words c.args.buffer.now
    kinds-at.result words_at.result (file_length n d) (2 * n) (8 * (n * d))
    (omega (arith, signs, kinds-at.ensures)) (ap (λ (j : ℕ). 2 * j) kinds) (omega (arith, kinds-at.ensures, words_at.ensures)) (omega (arith, words_at.ensures)) _ _ _ _
    c.put_header.ensures (c.copy_from_slice.ensures.after ∙ ap (λ (j : ℕ). take j (drop 16 first)) (omega (arith, kinds-at.ensures)))
    c.put_both_lines.ensures c.put_both_words.ensures
