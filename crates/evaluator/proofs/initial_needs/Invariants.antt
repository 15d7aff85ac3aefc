-- `evaluator::initial_needs` meets its contract. An old file has no thresholds, so that no line of it can need more than one operand. The loop's invariant: the lines passed have what they need.
-- Assumes nothing.
use mathlib.Core.List.{List}
use mathlib.Core.Path.{◌≡◌}
use Prim.Native.Nat.{ℕ, ◌<◌}
use lib.ListN.{length, get_or}
use Rattle.model.specs.Held.{system_in}
use Rattle.model.specs.declared.layout.Model.{Model}
use Rattle.evaluator.specs.ByLevels.{line_needs}
use Rattle.evaluator.proofs.initial_needs.Given as goal

pub record Filled (file : List ℕ) (m : Model) (needs : List ℕ) (i : ℕ) : Type 0 where
  pub long : length needs ≡ 64
  pub passed : (j : ℕ) → j < i → get_or needs j 0 ≡ line_needs (system_in file m) j

abbrev pub invariant-loop-i : goal.invariant-loop-i
invariant-loop-i l = Filled l.file.bytes.now l.file.model l.needs l.i
