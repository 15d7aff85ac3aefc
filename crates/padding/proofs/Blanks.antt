-- Blanks: how many there are; and a number set to the right in enough places fills them.
-- Assumes nothing.
use mathlib.Core.Path.{◌≡◌}
use Prim.Native.Nat.{ℕ, ◌-◌, ◌^◌, ◌≤◌, ◌<◌}
use native.Mathlib.Omega.{arith}
use lib.ListN.{length, length-append, length-replicate}
use Rattle.text.specs.Text.{places, decimal}
use Rattle.padding.specs.Padding.{blanks, set_right}
use Rattle.text.proofs.Digits.{digits_length, places_within}

pub blanks_length : (k : ℕ) → length (blanks k) ≡ k
blanks_length k = length-replicate {A = ℕ} k 32

-- a number below 10 ^ k, set to the right in k places
pub right_length : (k x : ℕ) → 1 ≤ k → x < 10 ^ k → length (set_right k (decimal x)) ≡ k
right_length k x some h =
    omega (arith, length-append (blanks (k - length (decimal x))) (decimal x), blanks_length (k - length (decimal x)), digits_length 10 (places 19 x) x, places_within 19 k x some h)
