-- `page_layout::put_line_rows` meets its contract. The loop's invariant: the rows so far are put.
-- Assumes nothing.
use mathlib.Core.List.{List}
use mathlib.Core.Path.{◌≡◌}
use Prim.Native.Nat.{ℕ, ◌+◌, ◌*◌}
use lib.ListN.{get_or}
use Rattle.sets.specs.Set.{is_member}
use Rattle.model.specs.Held.{system_in}
use Rattle.model.specs.declared.layout.Model.{Model}
use Rattle.text.specs.Text.{Puts}
use Rattle.page_layout.specs.Page.{line_row, rows_of}
use Rattle.page_layout.proofs.put_line_rows.Given as goal

-- the row of line i
abbrev pub row_at : List ℕ → Model → ℕ → ℕ → List ℕ
row_at file m good i = line_row i (get_or (system_in file m).kinds i 0) (is_member good i)

pub record Rowing (file : List ℕ) (m : Model) (good : ℕ) (out₀ : List ℕ) (at : ℕ) (out : List ℕ) (next i : ℕ) : Type 0 where
  pub place : next ≡ at + 41 * i
  pub put : Puts at (rows_of i (row_at file m good)) out₀ out next

abbrev pub invariant-loop-i : goal.invariant-loop-i
invariant-loop-i l = Rowing l.file.bytes.now l.file.model l.good l.initial.out l.at l.out l.next l.i
