-- A line's operands level by level at its place in a file: what d words from the offset `at` on and the arguments in front of xs select.
-- Assumes nothing.
use mathlib.Core.Bool.{Bool}
use mathlib.Core.List.{List, [], ◌++◌}
use mathlib.Core.Path.{◌≡◌}
use Prim.Native.Nat.{ℕ, suc, ◌+◌, ◌-◌, ◌*◌, ◌≤◌, ◌<◌}
use native.Mathlib.Nat.{add-zero, sub-zero}
use native.Mathlib.Numerals.{add-one}
use native.Mathlib.Omega.{arith}
use lib.ListN.{length, get_or, take, drop}
use lib.Seq.{drop-drop, drop-cons}
use Rattle.system.specs.Query.{selected, operands}
use Rattle.numbers.specs.Numbers.{number_at, words_from}

module _ (file : List ℕ) (at d : ℕ) (xs : List ℕ) where
  -- the operands that d words from the offset `at` on select, and those from level k + 1 on
  abbrev pub whole : List Bool
  whole = operands (words_from d (drop at file)) (take d xs)

  unfoldable pub from : ℕ → List Bool
  from k = operands (words_from (d - k) (drop (at + 8 * k) file)) (take (d - k) (drop k xs))

  pub from_start : from 0 ≡ whole
  unfolding from
  from_start = rw (sub-zero d, add-zero at)

  pub from_end : (k : ℕ) → d ≤ k → from k ≡ []
  unfolding from words_from operands
  from_end k h = let none : d - k ≡ 0 = omega arith in rw none

  pub from_step : (k : ℕ) → k < d → k < length xs → from k ≡ selected 64 (number_at file (at + 8 * k) 8) (get_or xs k 0) ++ from (k + 1)
  unfolding from words_from operands
  from_step k h l =
      let more : d - k ≡ suc (d - (k + 1)) = omega arith in
      let further : at + 8 * k + 8 ≡ at + 8 * (k + 1) = omega arith in
      rw (more, drop-cons xs k 0 l, drop-drop 8 (at + 8 * k) file, further, ← add-one k)
