-- How many levels are least and how many greatest, one level further; together they are all of them.
-- Assumes nothing.
use mathlib.Core.Bool.{Bool, true, false}
use mathlib.Core.Path.{◌≡◌, refl}
use Prim.Native.Nat.{ℕ, zero, suc, ◌+◌}
use native.Mathlib.Omega.{arith}
use Rattle.fixpoint.specs.Levels.{least_among, greatest_among}

module _ (sign : ℕ → Bool) (k : ℕ) where
  pub least_at_least : sign k ≡ false → least_among sign (suc k) ≡ suc (least_among sign k)
  unfolding least_among
  least_at_least e = rw e

  pub least_at_greatest : sign k ≡ true → least_among sign (suc k) ≡ least_among sign k
  unfolding least_among
  least_at_greatest e = rw e

  pub greatest_at_least : sign k ≡ false → greatest_among sign (suc k) ≡ greatest_among sign k
  unfolding greatest_among
  greatest_at_least e = rw e

  pub greatest_at_greatest : sign k ≡ true → greatest_among sign (suc k) ≡ suc (greatest_among sign k)
  unfolding greatest_among
  greatest_at_greatest e = rw e

-- each level is least or greatest
pub levels_sum : (sign : ℕ → Bool) (k : ℕ) → least_among sign k + greatest_among sign k ≡ k
unfolding least_among greatest_among
levels_sum sign zero = refl
levels_sum sign (suc k) = by (sign k) refl (levels_sum sign k)
  where
    by : (s : Bool) → sign k ≡ s → least_among sign k + greatest_among sign k ≡ k → least_among sign (suc k) + greatest_among sign (suc k) ≡ suc k
    by true e ih = rw e (omega arith)
    by false e ih = rw e (omega arith)
