-- Induction by halves: S(n, h) is built of S(n/2, h) and S((n - 1)/2, h), and facts about it are proved along them.
-- Assumes nothing.
use Prim.Native.Nat.{ℕ, zero, suc, ◌/◌, ◌≤◌}
use native.Mathlib.Nat.{le_refl}
use native.Mathlib.Omega.{arith}

-- what holds of 0, and of n + 1 where it holds of (n + 1)/2 and of n/2, holds of every number
pub by_halves : (P : ℕ → Type 0) → P 0 → ((n : ℕ) → P (suc n / 2) → P (n / 2) → P (suc n)) → (n : ℕ) → P n
by_halves P none step n = up_to n n (le_refl n)
  where
    up_to : (m n : ℕ) → n ≤ m → P n
    up_to zero zero p = none
    up_to zero (suc n) p = absurd (omega arith)
    up_to (suc m) zero p = none
    up_to (suc m) (suc n) p = step n (up_to m (suc n / 2) (omega arith)) (up_to m (n / 2) (omega arith))
