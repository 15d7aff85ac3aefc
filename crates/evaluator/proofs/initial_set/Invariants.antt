-- `evaluator::initial_set` meets its contract. The loop's invariant: the digits of the set from line i on, and where the kind of line i stands.
-- Assumes nothing.
use mathlib.Core.Bool.{Bool}
use mathlib.Core.List.{List}
use mathlib.Core.Path.{◌≡◌}
use Prim.Native.Nat.{ℕ, ◌+◌, ◌*◌, ◌/◌, ◌^◌}
use lib.Dec.{eqb}
use lib.ListN.{get_or}
use Rattle.system.specs.Query.{set_of}
use Rattle.evaluator.proofs.initial_set.Given as goal

-- whether the kind of line j is 1, the kinds being `step` bytes apart from `first` on
abbrev pub is_one : List ℕ → ℕ → ℕ → ℕ → Bool
is_one file first step j = eqb (get_or file (first + step * j) 0) 1

pub record Passed (file : List ℕ) (first step n set i at : ℕ) : Type 0 where
  pub place : at ≡ first + step * i
  pub digits : set ≡ set_of n (is_one file first step) / 2 ^ i

abbrev pub invariant-loop-i : goal.invariant-loop-i
invariant-loop-i l = Passed l.file.bytes.now l.first l.step l.file.model.lines l.set l.i l.at
