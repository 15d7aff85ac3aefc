-- The page of a system is 41 bytes for each of its n + 1 rows.
-- Assumes nothing.
use mathlib.Core.List.{List}
use mathlib.Core.Path.{◌≡◌}
use Prim.Native.Nat.{ℕ, ◌+◌, ◌*◌, ◌≤◌}
use native.Mathlib.Omega.{arith}
use lib.ListN.{length, get_or, length-append}
use Rattle.sets.specs.Set.{is_member}
use Rattle.system.specs.System.{System}
use Rattle.met_lines.specs.MetLines.{met_share}
use Rattle.met_lines.proofs.Search.{met_few}
use Rattle.page_layout.specs.Page.{first_row, line_row, rows_of, page}
use Rattle.page_layout.proofs.Rows.{first_row_length, line_row_length, rows_length}

pub page_length : (m : System) (good : ℕ) → m.lines ≤ 64 → m.levels ≤ 8 → length (page m good) ≡ 41 * (m.lines + 1)
unfolding page
page_length m good few_lines few_levels =
    let share = met_share m good in
    let row_at : ℕ → List ℕ = λ i. line_row i (get_or m.kinds i 0) (is_member good i) in
    let first = first_row_length m.lines m.levels share (omega arith) (omega arith) (omega (arith, met_few m good)) in
    let rows = rows_length m.lines row_at (λ i h. line_row_length i (get_or m.kinds i 0) (is_member good i) (omega arith)) in
    omega (arith, length-append (first_row m.lines m.levels share) (rows_of m.lines row_at))
