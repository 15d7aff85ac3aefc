-- `encoder::put_file` meets its contract: each section is written behind those before it.
-- Assumes nothing.
use mathlib.Core.Path.{refl}
use Prim.Native.Nat.{◌*◌}
use native.Mathlib.Omega.{arith}
use lib.ListN.{length}
use Rattle.model.specs.File.{file_length}
use Rattle.encoder.proofs.Sections.{sections_copied}
use Rattle.encoder.proofs.put_file.Goals as goal

pub returns : goal.returns
returns c =
    let signs = c.args.signs.now in
    let sizes = c.requires in
    let n = c.args.m.lines in
    let d = c.args.m.levels in
    let kinds-at = c.kinds_at-kinds_at in
    let words_at = c.words_at-words_at in
    let kinds = c.args.kinds.now in
    let words = c.args.words.now in
    sections_copied n d signs kinds c.args.thresholds.now words c.args.buffer.now
    kinds-at.result words_at.result (file_length n d) (2 * length kinds) (8 * length words)
    (omega (arith, sizes, kinds-at.ensures)) refl (omega (arith, sizes, kinds-at.ensures, words_at.ensures)) (omega (arith, sizes, words_at.ensures)) _ _ _ _
    c.put_header.ensures c.copy_from_slice.ensures.after c.put_lines.ensures c.put_words.ensures
