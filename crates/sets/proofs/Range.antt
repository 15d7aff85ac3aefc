-- A set of the lines 0 to n - 1 is a word below 2 ^ n: those are the sets within `full n`, and the operations stay among them.
-- Assumes nothing.
use mathlib.Core.Bool.{Bool, true, false, true≢false}
use mathlib.Core.Path.{◌≡◌, refl, sym, ◌∙◌, ap}
use Prim.Native.Nat.{ℕ, ◌%◌, ◌^◌, ◌≤◌, ◌<◌}
use native.Mathlib.Nat.{mod-eq_of_lt, div-eq_of_lt, lt_of_le_of_lt, lt_of_lt_of_le}
use lib.Pow.{pow_mono}
use lib.Bits.{and_mask, mask_lt, and_le_l, or_lt}
use lib.Dec.{eqb, leb}
use borrow.Author.Tests.{leb-true, leb-false}
use Rattle.sets.specs.Set.{is_member, full, union, intersection, bounded_step}
use Rattle.sets.proofs.Order.{◌⊑◌}

pub below_full : (n a : ℕ) → a < 2 ^ n → a ⊑ full n
below_full n a h = and_mask a n ∙ mod-eq_of_lt h

pub full_below : (n a : ℕ) → a ⊑ full n → a < 2 ^ n
full_below n a h = rw h at (mask_lt a n)

pub union_below : (n a b : ℕ) → a < 2 ^ n → b < 2 ^ n → union a b < 2 ^ n
union_below = or_lt

pub intersection_below : (n a b : ℕ) → a < 2 ^ n → intersection a b < 2 ^ n
intersection_below n a b h = lt_of_le_of_lt (and_le_l a b) h

pub step_below : (n a b x : ℕ) → a < 2 ^ n → b < 2 ^ n → bounded_step a b x < 2 ^ n
step_below n a b x ha hb = union_below n a (intersection b x) ha (intersection_below n b x hb)

-- a set of n lines has no other member
pub member_above : (n x i : ℕ) → x < 2 ^ n → n ≤ i → is_member x i ≡ false
member_above n x i h l = ap (λ (q : ℕ). eqb (q % 2) 1) (div-eq_of_lt (lt_of_lt_of_le h (pow_mono l)))

pub member_below : (n x i : ℕ) → x < 2 ^ n → is_member x i ≡ true → i < n
member_below n x i h e = go (leb n i) refl
  where
    go : (t : Bool) → leb n i ≡ t → i < n
    go true q = absurd (true≢false (sym e ∙ member_above n x i h (leb-true n i q)))
    go false q = leb-false n i q
