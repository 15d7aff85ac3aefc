-- Who is a member of what the operations on words give: of an intersection, a union, a symmetric difference, the word of one line,
-- all of the lines, and a word without its lowest member; and sets with the same members are equal.
-- Assumes nothing.
use mathlib.Core.Bool.{Bool, true, false, cond, not, ◌&&◌, ◌||◌}
use mathlib.Core.Logic.{◌⊎◌, inl, inr}
use mathlib.Core.Path.{◌≡◌, refl, sym, ◌∙◌, ap}
use Prim.Native.Nat.{ℕ, zero, suc, ◌*◌, ◌-◌, ◌/◌, ◌%◌, ◌^◌, min, max, ◌<◌}
use native.Mathlib.Nat.{one-mul, div-eq_of_lt, mod-eq_of_lt}
use native.Mathlib.Omega.{arith}
use lib.Bits.{bit_xor, differ, xor_shr, xor_step, and_step, and_self}
use lib.Count.{count_trailing_zeros, under}
use lib.Dec.{eqb}
use lib.Pow.{pow-add, pow_pos, pow-lt}
use borrow.Author.Tests.{eqb-true, eqb-false, eq-eqb}
use Rattle.sets.specs.Set.{is_member, full, union, intersection}
use Rattle.sets.proofs.Order.{digit, digit_meet, digit_join, digit_half, digit_le, same_digits}
use Rattle.sets.proofs.Range.{below_full}

-- what a member's test says of its digit
pub member_digit : (x i : ℕ) (t : Bool) → is_member x i ≡ t → digit x i ≡ cond t 1 0
member_digit x i true e = eqb-true (digit x i) 1 e
member_digit x i false e = let ne : digit x i ≡ 1 → ⊥ = eqb-false (digit x i) 1 e in omega arith

-- digits are 0 or 1: what holds of these holds of the digits of any two sets
by_digits : (P : ℕ → ℕ → Type 0) → P 0 0 → P 0 1 → P 1 0 → P 1 1 → (a b i : ℕ) → P (digit a i) (digit b i)
by_digits P none second first both a b i = go (digit a i) (digit b i) (omega arith) (omega arith)
  where
    go : (x y : ℕ) → x < 2 → y < 2 → P x y
    go zero zero h l = none
    go zero (suc zero) h l = second
    go (suc zero) zero h l = first
    go (suc zero) (suc zero) h l = both
    go (suc (suc x)) y h l = absurd (omega arith)
    go zero (suc (suc y)) h l = absurd (omega arith)
    go (suc zero) (suc (suc y)) h l = absurd (omega arith)

pub member_meet : (a b i : ℕ) → is_member (intersection a b) i ≡ (is_member a i && is_member b i)
member_meet a b i = ap (λ (x : ℕ). eqb x 1) (digit_meet a b i) ∙ by_digits (λ x y. eqb (min x y) 1 ≡ (eqb x 1 && eqb y 1)) refl refl refl refl a b i

pub member_join : (a b i : ℕ) → is_member (union a b) i ≡ (is_member a i || is_member b i)
member_join a b i = ap (λ (x : ℕ). eqb x 1) (digit_join a b i) ∙ by_digits (λ x y. eqb (max x y) 1 ≡ (eqb x 1 || eqb y 1)) refl refl refl refl a b i

-- a member of both, and of one or the other
pub in_both : (a b i : ℕ) → is_member a i ≡ true → is_member b i ≡ true → is_member (intersection a b) i ≡ true
in_both a b i h l = member_meet a b i ∙ rw (h, l)

pub in_either : (a b i : ℕ) → is_member (union a b) i ≡ true → (is_member a i ≡ true) ⊎ (is_member b i ≡ true)
in_either a b i h = go (is_member a i) refl
  where
    go : (t : Bool) → is_member a i ≡ t → (is_member a i ≡ true) ⊎ (is_member b i ≡ true)
    go true e = inl e
    go false e = inr (rw (member_join a b i, e) at h)

-- the lines in one of two sets and not in both
pub member_differ : (a b i : ℕ) → is_member (bit_xor a b) i ≡ cond (is_member a i) (not (is_member b i)) (is_member b i)
member_differ a b i =
    let small = by_digits (λ x y. differ x y < 2) (omega arith) (omega arith) (omega arith) (omega arith) a b i in
    let e : digit (bit_xor a b) i ≡ differ (digit a i) (digit b i) = omega (arith, xor_shr a b i, xor_step (a / 2 ^ i) (b / 2 ^ i), small) in
    ap (λ (x : ℕ). eqb x 1) e ∙ by_digits (λ x y. eqb (differ x y) 1 ≡ cond (eqb x 1) (not (eqb y 1)) (eqb y 1)) refl refl refl refl a b i

-- the word of one line

digit_power : (m i : ℕ) → (i ≡ m → digit (2 ^ m) i ≡ 1) × ((i ≡ m → ⊥) → digit (2 ^ m) i ≡ 0)
digit_power zero zero = (λ _. refl, λ ne. absurd (ne refl))
digit_power zero (suc i) = (λ e. absurd (omega arith), λ _. ap (λ (q : ℕ). q % 2) (div-eq_of_lt (pow-lt {i = 0} {j = suc i} (omega arith))))
digit_power (suc m) zero = (λ e. absurd (omega arith), λ _. omega (arith, pow-add 2 1 m))
digit_power (suc m) (suc i) =
    let ih = digit_power m i in
    let half : 2 ^ suc m / 2 ≡ 2 ^ m = omega (arith, pow-add 2 1 m) in
    let e : digit (2 ^ suc m) (suc i) ≡ digit (2 ^ m) i = sym (digit_half (2 ^ suc m) i) ∙ ap (λ (x : ℕ). digit x i) half in
    (λ q. e ∙ ih.0 (omega arith), λ ne. e ∙ ih.1 (λ q. ne (ap suc q)))

-- one, shifted by less than a word's width
pub one_shifted : (i : ℕ) → i < 64 → 1 * 2 ^ i % 2 ^ 64 ≡ 2 ^ i
one_shifted i h = ap (λ (x : ℕ). x % 2 ^ 64) (one-mul (2 ^ i)) ∙ mod-eq_of_lt (pow-lt h)

pub member_power : (m i : ℕ) → is_member (2 ^ m) i ≡ eqb i m
member_power m i = go (eqb i m) refl
  where
    go : (t : Bool) → eqb i m ≡ t → is_member (2 ^ m) i ≡ eqb i m
    go true e = ap (λ (x : ℕ). eqb x 1) ((digit_power m i).0 (eqb-true i m e)) ∙ sym e
    go false e = ap (λ (x : ℕ). eqb x 1) ((digit_power m i).1 (eqb-false i m e)) ∙ sym e

pub member_full : (n i : ℕ) → i < n → is_member (full n) i ≡ true
member_full n i h =
    eq-eqb (digit (full n) i) 1 (omega (arith, (digit_power i i).0 refl, digit_le (2 ^ i) (full n) (below_full n (2 ^ i) (pow-lt h)) i))

pub member_empty : (i : ℕ) → is_member 0 i ≡ false
member_empty i = ap (λ (x : ℕ). eqb (x % 2) 1) (div-eq_of_lt (pow_pos i))

-- sets with the same members are equal
pub same_members : (a b : ℕ) → ((i : ℕ) → is_member a i ≡ is_member b i) → a ≡ b
same_members a b h = same_digits a b λ i. at i (is_member b i) refl
  where
    at : (i : ℕ) (t : Bool) → is_member b i ≡ t → digit a i ≡ digit b i
    at i true e = eqb-true (digit a i) 1 (h i ∙ e) ∙ sym (eqb-true (digit b i) 1 e)
    at i false e = omega (arith, eqb-false (digit a i) 1 (h i ∙ e), eqb-false (digit b i) 1 e)

-- sets that differ nowhere are equal
pub differ_none : (a b : ℕ) → bit_xor a b ≡ 0 → a ≡ b
differ_none a b none = same_members a b (λ i. go (is_member a i) (is_member b i) (sym (member_differ a b i) ∙ ap (λ (x : ℕ). is_member x i) none ∙ member_empty i))
  where
    go : (s t : Bool) → cond s (not t) t ≡ false → s ≡ t
    go true true e = refl
    go true false e = e
    go false t e = sym e

-- t is the lowest member of x, one of k lines, and x - 1 takes it away alone
pub record Lowest (k x t : ℕ) : Type 0 where
  pub low : t < k
  pub is_in : digit x t ≡ 1
  pub taken : digit (intersection x (x - 1)) t ≡ 0
  pub kept : (i : ℕ) → (i ≡ t → ⊥) → digit (intersection x (x - 1)) i ≡ digit x i

pub lowest : (k x : ℕ) → x < 2 ^ k → (x ≡ 0 → ⊥) → Lowest k x (count_trailing_zeros k x)
unfolding count_trailing_zeros
lowest zero x h ne = absurd (ne (omega arith))
lowest (suc k) x h ne = go (x % 2) refl (lowest k (x / 2))
  where
    y : ℕ
    y = intersection x (x - 1)

    go : (r : ℕ) → x % 2 ≡ r → (x / 2 < 2 ^ k → (x / 2 ≡ 0 → ⊥) → Lowest k (x / 2) (count_trailing_zeros k (x / 2)))
        → Lowest (suc k) x (under r (count_trailing_zeros k (x / 2)))
    go zero e below =
        let ih = below (omega (arith, pow-add 2 1 k)) (λ z. ne (omega arith)) in
        let down : (x - 1) / 2 ≡ x / 2 - 1 = omega arith in
        let half : y / 2 ≡ intersection (x / 2) (x / 2 - 1) = rw (← down) (omega (arith, and_step x (x - 1))) in
        let at : (i : ℕ) → digit y (suc i) ≡ digit (intersection (x / 2) (x / 2 - 1)) i = λ i. sym (digit_half y i) ∙ ap (λ (z : ℕ). digit z i) half in
        record {
          low = omega (arith, ih.low);
          is_in = sym (digit_half x (count_trailing_zeros k (x / 2))) ∙ ih.is_in;
          taken = at (count_trailing_zeros k (x / 2)) ∙ ih.taken;
          kept = λ i ni. others at ih.kept i ni;
        }
      where
        others : ((i : ℕ) → digit y (suc i) ≡ digit (intersection (x / 2) (x / 2 - 1)) i)
            → ((i : ℕ) → (i ≡ count_trailing_zeros k (x / 2) → ⊥) → digit (intersection (x / 2) (x / 2 - 1)) i ≡ digit (x / 2) i)
            → (i : ℕ) → (i ≡ suc (count_trailing_zeros k (x / 2)) → ⊥) → digit y i ≡ digit x i
        others at kept zero ni = omega (arith, and_step x (x - 1))
        others at kept (suc i) ni = at i ∙ kept i (λ q. ni (ap suc q)) ∙ digit_half x i
    go (suc r) e below =
        let down : (x - 1) / 2 ≡ x / 2 = omega arith in
        let half : y / 2 ≡ x / 2 = rw (down, and_self) at (halved) in
        record {
          low = omega arith;
          is_in = omega arith;
          taken = omega (arith, and_step x (x - 1));
          kept = λ i ni. others half i ni;
        }
      where
        halved : y / 2 ≡ intersection (x / 2) ((x - 1) / 2)
        halved = omega (arith, and_step x (x - 1))

        others : y / 2 ≡ x / 2 → (i : ℕ) → (i ≡ 0 → ⊥) → digit y i ≡ digit x i
        others half zero ni = absurd (ni refl)
        others half (suc i) ni = sym (digit_half y i) ∙ ap (λ (z : ℕ). digit z i) half ∙ digit_half x i
