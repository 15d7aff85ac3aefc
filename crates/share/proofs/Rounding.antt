-- Rounding: `rounded` meets the definition of rounding, and for n of 1 or more it is the only number that does. So 1000 good / n is rounded to the share
-- and to nothing else, for every number of good lines and every n from 1 on; where no more lines are good than there are, the share is at most 1000.
-- Assumes nothing.
use mathlib.Core.Bool.{Bool, true, false, cond}
use mathlib.Core.Logic.{◌↔◌}
use mathlib.Core.Path.{◌≡◌, refl, sym}
use Prim.Native.Nat.{ℕ, zero, suc, ◌+◌, ◌*◌, ◌/◌, ◌%◌, ◌≤◌, ◌<◌}
use native.Mathlib.Nat.{add-zero, le_antisymm, mul-le-mul_left, div-add-mod, div-zero, mod-lt}
use native.Mathlib.Omega.{arith}
use lib.Dec.{ltb, eqb}
use borrow.Author.Tests.{ltb-true, ltb-false, le-ltb, eqb-true, eqb-false}
use Rattle.share.specs.Rounding.{distance, RoundsTo, rounded}
use Rattle.share.specs.Share.{share_of}

-- ---- at most one number ----

-- Two such numbers would both be even, and the number after the smaller one would be nearer.
never_two : {x n r s : ℕ} → 0 < n → RoundsTo x n r → RoundsTo x n s → r < s → ⊥
never_two {x} {n} {r} {s} some a b l =
    let same : distance x (n * r) ≡ distance x (n * s) = le_antisymm (a.nearest s) (b.nearest r) in
    let r_even : r % 2 ≡ 0 = a.even s (λ e. omega arith) (sym same) in
    let s_even : s % 2 ≡ 0 = b.even r (λ e. omega arith) same in
    omega (arith, mul-le-mul_left {m = r + 2} {n = s} n (omega arith), a.nearest (r + 1))

pub at_most_one : {x n r s : ℕ} → 0 < n → RoundsTo x n r → RoundsTo x n s → r ≡ s
at_most_one {x} {n} {r} {s} some a b = go (ltb r s) refl (ltb s r) refl
  where
    go : (t : Bool) → ltb r s ≡ t → (u : Bool) → ltb s r ≡ u → r ≡ s
    go true e u f = absurd (never_two some a b (ltb-true r s e))
    go false e true f = absurd (never_two some b a (ltb-true s r f))
    go false e false f = le_antisymm (ltb-false s r f) (ltb-false r s e)

-- ---- a number within a half ----

steps_apart : (n r s : ℕ) → (s ≡ r → ⊥) → n ≤ distance (n * r) (n * s)
steps_apart n r s other = go (ltb s r) refl
  where
    go : (t : Bool) → ltb s r ≡ t → n ≤ distance (n * r) (n * s)
    go true e = omega (arith, mul-le-mul_left {m = s + 1} {n = r} n (omega (arith, ltb-true s r e)))
    go false e = omega (arith, mul-le-mul_left {m = r + 1} {n = s} n (omega (arith, ltb-false s r e)))

-- A number at most a half from x / n, and even if it is a half: any other is 1 or more from it, so it is no nearer to x / n.
within_half : {x n r : ℕ} → 2 * distance x (n * r) ≤ n → (2 * distance x (n * r) ≡ n → r % 2 ≡ 0) → RoundsTo x n r
within_half {x} {n} {r} near tie =
    record { nearest = λ s. at s (eqb s r) refl; even = λ s other same. tie (omega (arith, steps_apart n r s other)) }
  where
    at : (s : ℕ) (t : Bool) → eqb s r ≡ t → distance x (n * r) ≤ distance x (n * s)
    at s true e = rw (eqb-true s r e) (omega arith)
    at s false e = omega (arith, steps_apart n r s (eqb-false s r e))

-- The whole part and the number after it, by what the division leaves.
module _ (x n : ℕ) (some : 0 < n) where
  pub low_rounds : 2 * (x % n) ≤ n → (2 * (x % n) ≡ n → x / n % 2 ≡ 0) → RoundsTo x n (x / n)
  low_rounds near tie = within_half (omega (arith, div-add-mod x n)) (λ e. tie (omega (arith, div-add-mod x n)))

  pub next_rounds : n ≤ 2 * (x % n) → (2 * (x % n) ≡ n → (x / n + 1) % 2 ≡ 0) → RoundsTo x n (x / n + 1)
  next_rounds near tie =
      within_half (omega (arith, div-add-mod x n, mod-lt x some)) (λ e. tie (omega (arith, div-add-mod x n, mod-lt x some)))

  -- at a half, the even one
  half_rounds : 2 * (x % n) ≡ n → RoundsTo x n (x / n + x / n % 2)
  half_rounds half = go (x / n % 2) refl
    where
      go : (p : ℕ) → x / n % 2 ≡ p → RoundsTo x n (x / n + p)
      go zero e = rw add-zero (low_rounds (omega arith) (λ _. e))
      go (suc zero) e = next_rounds (omega arith) (λ _. omega arith)
      go (suc (suc p)) e = absurd (omega arith)

  abbrev below : ℕ
  below = distance x (n * (x / n))

  abbrev above : ℕ
  above = distance x (n * (x / n + 1))

  some_rounds : RoundsTo x n (rounded x n)
  unfolding rounded
  some_rounds = go (ltb below above) refl (ltb above below) refl
    where
      go : (t : Bool) → ltb below above ≡ t → (u : Bool) → ltb above below ≡ u → RoundsTo x n (cond t (x / n) (cond u (x / n + 1) (x / n + x / n % 2)))
      go true e u f = low_rounds (omega (arith, div-add-mod x n, ltb-true)) (λ half. absurd (omega (arith, div-add-mod x n, ltb-true)))
      go false e true f = next_rounds (omega (arith, div-add-mod x n, ltb-true)) (λ half. absurd (omega (arith, div-add-mod x n, ltb-true)))
      go false e false f = half_rounds (omega (arith, div-add-mod x n, mod-lt x some, ltb-false))

-- ---- `rounded` ----

pub rounded_none : (x : ℕ) → rounded x 0 ≡ 0
unfolding rounded
rounded_none x = rw (div-zero, le-ltb (distance x (0 * 0)) (distance x (0 * (0 + 1))) (omega arith)) refl

-- for every n: where n is 0, all numbers are equally near, and 0 is even
pub rounded_rounds : (x n : ℕ) → RoundsTo x n (rounded x n)
rounded_rounds x zero = rw (rounded_none x) (record { nearest = λ s. omega arith; even = λ s other same. refl })
rounded_rounds x (suc n) = some_rounds x (suc n) (omega arith)

pub only_rounded : {x n r : ℕ} → 0 < n → RoundsTo x n r → r ≡ rounded x n
only_rounded {x} {n} some a = at_most_one some a (rounded_rounds x n)

-- ---- the share ----

-- of one line or more
pub share_exactly : (good n r : ℕ) → 0 < n → RoundsTo (1000 * good) n r ↔ (r ≡ share_of good n)
share_exactly good n r some = (only_rounded some, λ e. rw e (rounded_rounds (1000 * good) n))

-- where no more lines are good than there are: 1000 would be nearer than any larger number
pub share_most : (good n : ℕ) → good ≤ n → share_of good n ≤ 1000
share_most good zero few = rw (rounded_none (1000 * good)) (omega arith)
share_most good (suc n) few = go (ltb 1000 r) refl
  where
    r : ℕ
    r = share_of good (suc n)

    go : (t : Bool) → ltb 1000 r ≡ t → r ≤ 1000
    go true e =
        absurd (omega (arith, (rounded_rounds (1000 * good) (suc n)).nearest 1000, mul-le-mul_left {m = 1001} {n = r} (suc n) (ltb-true 1000 r e)))
    go false e = ltb-false 1000 r e
