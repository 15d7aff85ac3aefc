-- The sets ordered by ⊑, every member of the one a member of the other, are a lattice; and the laws of the bounded step in it.
-- The laws hold digit by digit, where an intersection has the smaller digit and a union the larger.
-- Assumes nothing.
use mathlib.Core.Bool.{Bool, true, false}
use mathlib.Core.Path.{◌≡◌, refl, sym, ap, ◌∙◌}
use Prim.Native.Nat.{ℕ, zero, suc, ◌/◌, ◌%◌, ◌^◌, ◌≤◌, min, max}
use native.Mathlib.Nat.{le-max_left, le-max_right}
use native.Mathlib.Numerals.{one-add}
use native.Mathlib.Omega.{arith}
use lib.Arith.{half_le}
use lib.Pow.{shr-shr}
use lib.Bits.{and_shr, or_shr, and_step, or_step, and_self, and_comm, and_zero_l}
use borrow.Author.Tests.{eqb-true, eqb-false, eq-eqb}
use Rattle.sets.specs.Set.{is_member, union, intersection, bounded_step, is_within}

infix 40 ◌⊑◌
abbrev pub ◌⊑◌ : ℕ → ℕ → Type 0
a ⊑ b = intersection a b ≡ a

-- 1 where line i is in the set x, 0 where it is not
abbrev pub digit : ℕ → ℕ → ℕ
digit x i = x / 2 ^ i % 2

pub digit_meet : (a b i : ℕ) → digit (intersection a b) i ≡ min (digit a i) (digit b i)
digit_meet a b i = omega (arith, and_shr a b i, and_step (a / 2 ^ i) (b / 2 ^ i))

pub digit_join : (a b i : ℕ) → digit (union a b) i ≡ max (digit a i) (digit b i)
digit_join a b i = omega (arith, or_shr a b i, or_step (a / 2 ^ i) (b / 2 ^ i))

pub digit_half : (a i : ℕ) → digit (a / 2) i ≡ digit a (suc i)
digit_half a i = ap (λ (x : ℕ). x % 2) (shr-shr a 1 i) ∙ ap (λ (k : ℕ). digit a k) (one-add i)

-- f bounds how many digits there are
same_digits_to : (f a b : ℕ) → a ≤ f → b ≤ f → ((i : ℕ) → digit a i ≡ digit b i) → a ≡ b
same_digits_to zero a b ha hb h = omega arith
same_digits_to (suc f) a b ha hb h =
    let halves : a / 2 ≡ b / 2 = same_digits_to f (a / 2) (b / 2) (half_le ha) (half_le hb) (λ i. digit_half a i ∙ h (suc i) ∙ sym (digit_half b i)) in
    omega (arith, h 0)

-- sets with the same members are equal
pub same_digits : (a b : ℕ) → ((i : ℕ) → digit a i ≡ digit b i) → a ≡ b
same_digits a b h = same_digits_to (max a b) a b (le-max_left a b) (le-max_right a b) h

pub digit_le : (a b : ℕ) → a ⊑ b → (i : ℕ) → digit a i ≤ digit b i
digit_le a b h i = omega (arith, digit_meet a b i, ap (λ (x : ℕ). digit x i) h)

pub le_digit : (a b : ℕ) → ((i : ℕ) → digit a i ≤ digit b i) → a ⊑ b
le_digit a b h = same_digits (intersection a b) a λ i. omega (arith, digit_meet a b i, h i)

-- a ⊑ b says that every member of a is one of b
pub le_member : (a b : ℕ) → a ⊑ b → (i : ℕ) → is_member a i ≡ true → is_member b i ≡ true
le_member a b h i t = eq-eqb (digit b i) 1 (omega (arith, digit_le a b h i, eqb-true (digit a i) 1 t))

pub member_le : (a b : ℕ) → ((i : ℕ) → is_member a i ≡ true → is_member b i ≡ true) → a ⊑ b
member_le a b h = le_digit a b λ i. at i (is_member a i) refl
  where
    at : (i : ℕ) (t : Bool) → is_member a i ≡ t → digit a i ≤ digit b i
    at i true e = omega (arith, eqb-true (digit b i) 1 (h i e))
    at i false e = omega (arith, eqb-false (digit a i) 1 e)

pub refl⊑ : (a : ℕ) → a ⊑ a
refl⊑ = and_self

pub trans⊑ : (a b c : ℕ) → a ⊑ b → b ⊑ c → a ⊑ c
trans⊑ a b c p q = le_digit a c λ i. omega (arith, digit_le a b p i, digit_le b c q i)

pub antisym⊑ : {a b : ℕ} → a ⊑ b → b ⊑ a → a ≡ b
antisym⊑ {a} {b} p q = cc (and_comm a b)

pub empty_least : (a : ℕ) → 0 ⊑ a
empty_least = and_zero_l

pub meet_left : (a b : ℕ) → intersection a b ⊑ a
meet_left a b = le_digit (intersection a b) a λ i. omega (arith, digit_meet a b i)

pub meet_right : (a b : ℕ) → intersection a b ⊑ b
meet_right a b = le_digit (intersection a b) b λ i. omega (arith, digit_meet a b i)

pub meet_glb : (a b c : ℕ) → c ⊑ a → c ⊑ b → c ⊑ intersection a b
meet_glb a b c p q = le_digit c (intersection a b) λ i. omega (arith, digit_meet a b i, digit_le c a p i, digit_le c b q i)

pub join_left : (a b : ℕ) → a ⊑ union a b
join_left a b = le_digit a (union a b) λ i. omega (arith, digit_join a b i)

pub join_right : (a b : ℕ) → b ⊑ union a b
join_right a b = le_digit b (union a b) λ i. omega (arith, digit_join a b i)

pub join_lub : (a b c : ℕ) → a ⊑ c → b ⊑ c → union a b ⊑ c
join_lub a b c p q = le_digit (union a b) c λ i. omega (arith, digit_join a b i, digit_le a c p i, digit_le b c q i)

pub step_low : (a b x : ℕ) → a ⊑ b → a ⊑ bounded_step a b x
step_low a b x h = join_left a (intersection b x)

pub step_high : (a b x : ℕ) → a ⊑ b → bounded_step a b x ⊑ b
step_high a b x h = join_lub a (intersection b x) b h (meet_left b x)

pub digit_step : (a b x i : ℕ) → digit (bounded_step a b x) i ≡ max (digit a i) (min (digit b i) (digit x i))
digit_step a b x i = omega (arith, digit_join a (intersection b x) i, digit_meet b x i)

pub step_mono : (a a' b b' x x' : ℕ) → a ⊑ a' → b ⊑ b' → x ⊑ x' → bounded_step a b x ⊑ bounded_step a' b' x'
step_mono a a' b b' x x' p q r = le_digit (bounded_step a b x) (bounded_step a' b' x') λ i.
    omega (arith, digit_step a b x i, digit_step a' b' x' i, digit_le a a' p i, digit_le b b' q i, digit_le x x' r i)

-- the step at bounds that lie between the old ones and still enclose its value
pub step_inner : (a b c e x : ℕ) → a ⊑ c → c ⊑ bounded_step a b x → bounded_step a b x ⊑ e → e ⊑ b → bounded_step c e x ≡ bounded_step a b x
step_inner a b c e x p q r s = same_digits (bounded_step c e x) (bounded_step a b x) λ i.
    omega (arith, digit_step a b x i, digit_step c e x i, digit_le a c p i, digit_le c (bounded_step a b x) q i, digit_le (bounded_step a b x) e r i, digit_le e b s i)

pub within_le : (a b : ℕ) → is_within a b ≡ true → a ⊑ b
within_le a b = eqb-true (intersection a b) a

pub le_within : (a b : ℕ) → a ⊑ b → is_within a b ≡ true
le_within a b = eq-eqb (intersection a b) a
