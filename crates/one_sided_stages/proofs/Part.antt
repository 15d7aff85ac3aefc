-- A right side of which a part is known: the lines of its bound that are not in the part are those that are left to work out.
-- Assumes nothing.
use mathlib.Core.Bool.{Bool, true, false, cond, not, ◌&&◌, ◌||◌}
use mathlib.Core.Path.{◌≡◌, refl, sym, ◌∙◌, ap}
use Prim.Native.Nat.{ℕ}
use lib.Bits.{bit_xor}
use Rattle.sets.specs.Set.{is_member, union, intersection}
use Rattle.sets.proofs.Order.{le_member}
use Rattle.sets.proofs.Membership.{member_meet, member_join, member_differ, member_empty, same_members}

pub part_and_rest : (bound part x : ℕ) → intersection part (intersection bound x) ≡ part → union part (intersection (intersection bound (bit_xor bound part)) x) ≡ intersection bound x
part_and_rest bound part x within =
    same_members (union part (intersection (intersection bound (bit_xor bound part)) x)) (intersection bound x) (λ i. rw (
      member_join part (intersection (intersection bound (bit_xor bound part)) x) i,
      member_meet (intersection bound (bit_xor bound part)) x i,
      member_meet bound (bit_xor bound part) i,
      member_differ bound part i,
      member_meet bound x i,
    )
    (at (is_member bound i) (is_member part i) (is_member x i) (λ e. sym (member_meet bound x i) ∙ le_member part (intersection bound x) within i e)))
  where
    at : (b p q : Bool) → (p ≡ true → (b && q) ≡ true) → (p || ((b && cond b (not p) p) && q)) ≡ (b && q)
    at b true q h = sym (h refl)
    at true false q h = refl
    at false false q h = refl

-- nothing is left to work out
pub part_alone : (bound part x : ℕ) → intersection part (intersection bound x) ≡ part → intersection bound (bit_xor bound part) ≡ 0 → part ≡ intersection bound x
part_alone bound part x within none =
    same_members part (union part (intersection 0 x)) (λ i. rw (member_join part (intersection 0 x) i, member_meet 0 x i, member_empty i) (at (is_member part i)))
    ∙ ap (λ (rest : ℕ). union part (intersection rest x)) (sym none)
    ∙ part_and_rest bound part x within
  where
    at : (p : Bool) → p ≡ (p || false)
    at true = refl
    at false = refl
