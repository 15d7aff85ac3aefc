-- `met_lines::met_lines` meets its contract. The loop's invariant: the lines passed have their operands in the table.
-- Assumes nothing.
use mathlib.Core.List.{List}
use mathlib.Core.Path.{◌≡◌}
use Prim.Native.Nat.{ℕ, ◌<◌}
use lib.ListN.{length, get_or}
use Rattle.model.specs.File.{sections}
use Rattle.met_lines.specs.MetLines.{operand_set}
use Rattle.met_lines.proofs.met_lines.Given as goal

pub record Filled (file : List ℕ) (n d : ℕ) (operands : List ℕ) (i : ℕ) : Type 0 where
  pub long : length operands ≡ 64
  pub passed : (j : ℕ) → j < i → get_or operands j 0 ≡ operand_set (sections n d file) j

abbrev pub invariant-loop-i : goal.invariant-loop-i
invariant-loop-i l = Filled l.file.bytes.now l.n l.d l.operands l.i
