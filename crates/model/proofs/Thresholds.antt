-- Which thresholds misfit a line, by its kind: of one that is no vote, all but 0, whatever its operands; of a vote, those outside the number of its operands.
-- Assumes nothing.
use mathlib.Core.Bool.{not}
use mathlib.Core.Path.{◌≡◌, refl}
use Prim.Native.Nat.{ℕ, zero, suc, ◌≤◌, ◌<◌}
use native.Mathlib.Omega.{arith}
use lib.Dec.{eqb}
use Rattle.answers.specs.Check.{outside}
use Rattle.model.specs.Checks.{misfits}

pub no_vote : (kind t count : ℕ) → kind < 2 → misfits kind t count ≡ not (eqb t 0)
no_vote zero t count h = refl
no_vote (suc zero) t count h = refl
no_vote (suc (suc k)) t count h = absurd (omega arith)

pub vote : (kind t count : ℕ) → 2 ≤ kind → misfits kind t count ≡ outside count t
vote zero t count h = absurd (omega arith)
vote (suc zero) t count h = absurd (omega arith)
vote (suc (suc k)) t count h = refl
