-- `reader::read_lines` meets its contract: after i lines each slice begins with their entries of its section, and the rest is as it was.
-- Assumes nothing.
use mathlib.Core.List.{List, ◌++◌}
use mathlib.Core.Path.{◌≡◌}
use Prim.Native.Nat.{ℕ}
use lib.ListN.{take, drop}
use Rattle.model.specs.Files.{laid_system}
use Rattle.reader.proofs.read_lines.Given as goal

-- l is `old` with the first i entries of `new` in place of its own
pub record Begun (new old : List ℕ) (i : ℕ) (l : List ℕ) : Type 0 where
  pub entries : l ≡ take i new ++ drop i old

abbrev pub invariant-loop-i : goal.invariant-loop-i
invariant-loop-i l = record {
  kinds : Begun (laid_system l.file).kinds l.initial.kinds l.i l.kinds;
  thresholds : Begun (laid_system l.file).thresholds l.initial.thresholds l.i l.thresholds;
}
