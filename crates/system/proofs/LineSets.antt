-- Sets that are made line by line: who is in them, and their digits from a line on.
-- Assumes nothing.
use mathlib.Core.Bool.{Bool, true, false, cond, ◌&&◌, ◌||◌, and-true, and-false, or-false}
use mathlib.Core.Path.{◌≡◌, refl, sym, ◌∙◌, ap}
use Prim.Native.Nat.{ℕ, zero, suc, ◌+◌, ◌*◌, ◌/◌, ◌^◌, ◌≤◌, ◌<◌}
use native.Mathlib.Nat.{div-eq_of_lt, lt_of_le_of_lt, lt_of_lt_of_le}
use native.Mathlib.Numerals.{add-one}
use native.Mathlib.Omega.{arith}
use borrow.Author.Tests.{lt-ltb, le-ltb, eqb-true, eqb-false, ltb-true, ltb-false}
use lib.Dec.{eqb, ltb}
use lib.Pow.{pow_mono, shr-shr, shr_le}
use Rattle.sets.specs.Set.{is_member}
use Rattle.sets.proofs.Membership.{member_join, member_power, member_empty, member_digit}
use Rattle.system.specs.Query.{set_of}
use Rattle.system.proofs.Monotone.{set_below}

-- the set goes by the values of its lines
pub set_same_values : (n : ℕ) (p q : ℕ → Bool) → ((i : ℕ) → i < n → p i ≡ q i) → set_of n p ≡ set_of n q
unfolding set_of
set_same_values zero p q h = refl
set_same_values (suc n) p q h = rw (set_same_values n p q (λ i l. h i (omega arith)), h n (omega arith))

-- its members are the lines of which p holds
pub member_set : (n : ℕ) (p : ℕ → Bool) (i : ℕ) → is_member (set_of n p) i ≡ (ltb i n && p i)
unfolding set_of
member_set zero p i = member_empty i ∙ rw (le-ltb i 0 (omega arith))
member_set (suc n) p i = member_join (set_of n p) (cond (p n) (2 ^ n) 0) i ∙ rw (member_set n p i) (go (eqb i n) refl)
  where
    one : (t : Bool) → is_member (cond t (2 ^ n) 0) i ≡ (t && eqb i n)
    one true = member_power n i
    one false = member_empty i

    before : (t : Bool) → ltb i n ≡ t → (i ≡ n → ⊥) → ltb i (suc n) ≡ t
    before true e ne = lt-ltb i (suc n) (omega (arith, ltb-true i n e))
    before false e ne = le-ltb i (suc n) (omega (arith, ltb-false i n e))

    go : (t : Bool) → eqb i n ≡ t → ((ltb i n && p i) || is_member (cond (p n) (2 ^ n) 0) i) ≡ (ltb i (suc n) && p i)
    go true e =
        let same : i ≡ n = eqb-true i n e in
        rw (one (p n), e, le-ltb i n (omega arith), lt-ltb i (suc n) (omega arith), and-true (p n)) (ap p (sym same))
    go false e = rw (one (p n), e, before (ltb i n) refl (eqb-false i n e), and-false (p n)) (or-false (ltb i n && p i))

-- Its digits from line i on are those from the next line on, and the one of line i. They fit 64 bits.
pub digits_from : (n : ℕ) (p : ℕ → Bool) (i : ℕ) (t : Bool) → i < n → p i ≡ t → set_of n p / 2 ^ i ≡ 2 * (set_of n p / 2 ^ suc i) + cond t 1 0
digits_from n p i t h e =
    omega (arith, rw (add-one i) at (shr-shr (set_of n p) i 1), member_digit (set_of n p) i t (member_set n p i ∙ rw (lt-ltb i n h) e))

pub digits_fit : (n : ℕ) (p : ℕ → Bool) (i : ℕ) → n ≤ 64 → set_of n p / 2 ^ i < 2 ^ 64
digits_fit n p i h = lt_of_le_of_lt (shr_le (set_of n p) i) (lt_of_lt_of_le (set_below n p) (pow_mono h))

pub digits_none : (n : ℕ) (p : ℕ → Bool) → set_of n p / 2 ^ n ≡ 0
digits_none n p = div-eq_of_lt (set_below n p)
