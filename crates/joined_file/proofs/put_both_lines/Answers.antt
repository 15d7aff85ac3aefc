-- `joined_file::put_both_lines` meets its contract: the bytes of the second file's lines are put behind those of the first's.
-- Assumes nothing.
use mathlib.Core.List.{List, ◌++◌}
use mathlib.Core.Path.{◌≡◌, sym, ◌∙◌, ap}
use Prim.Native.Nat.{ℕ, ◌+◌, ◌*◌}
use native.Mathlib.Omega.{arith}
use lib.ListN.{length, drop}
use Rattle.model.specs.File.{is_old, line_records}
use Rattle.model.specs.Files.{laid_system}
use Rattle.model.proofs.RoundTrip.{records_length}
use Rattle.model.proofs.Lines.{every_length, thresholds_length}
use Rattle.lists.proofs.Front.{front_part}
use Rattle.encoder.proofs.LineRecords.{records_append}
use Rattle.joined_file.proofs.put_both_lines.Goals as goal

pub returns : goal.returns
returns c =
    let s = c.args.s.now in
    let m = c.args.first.model in
    let k = c.args.second.model in
    let one = laid_system c.args.first in
    let other = laid_system c.args.second in
    let front = line_records one.kinds one.thresholds in
    let kinds : length one.kinds ≡ m.lines = every_length _ _ _ in
    let thresholds : length one.thresholds ≡ length one.kinds = thresholds_length (is_old m.lines m.levels c.args.first.bytes.now) _ _ ∙ sym kinds in
    let written : length front ≡ 2 * m.lines = records_length one.kinds one.thresholds ∙ ap (λ (n : ℕ). 2 * n) kinds in
    front_part front (line_records other.kinds other.thresholds) s _ _ (2 * m.lines) (2 * k.lines) (2 * (m.lines + k.lines)) written (omega arith)
    c.put_line_records.ensures c.put_line_records-2.ensures
    ∙ ap (λ (r : List ℕ). r ++ drop (2 * (m.lines + k.lines)) s) (sym (records_append one.kinds one.thresholds other.kinds other.thresholds thresholds))
