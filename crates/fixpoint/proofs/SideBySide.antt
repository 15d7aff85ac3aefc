-- Sets of n₁ + n₂ lines hold sets of n₁ and of n₂ lines side by side. So the nested fixpoint of a query that goes part by part is the two
-- nested fixpoints, side by side.
-- Assumes nothing.
use mathlib.Core.Bool.{Bool}
use mathlib.Core.List.{List}
use mathlib.Core.Path.{◌≡◌, ◌∙◌, ap₂}
use Prim.Native.Nat.{ℕ, ◌+◌, ◌/◌, ◌%◌, ◌^◌, ◌<◌}
use native.Mathlib.Nat.{add_comm, mod-lt, mod-add-div}
use lib.Pow.{pow_pos, shr_lt}
use Rattle.sets.specs.SideBySide.{side_by_side}
use Rattle.sets.proofs.Order.{empty_least}
use Rattle.sets.proofs.Range.{below_full, full_below}
use Rattle.sets.proofs.SideBySide.{beside_meet, beside_step, beside_low, beside_high, beside_below}
use Rattle.fixpoint.specs.Lawful.{MonotoneQuery, Range}
use Rattle.fixpoint.specs.Nested.{nested}
use Rattle.fixpoint.specs.Sets.{sets}
use Rattle.fixpoint.specs.Pairing.{Valid, Pairing, Beside, none, more, sets_alongside, SetsBeside}
use Rattle.fixpoint.proofs.Sets.{sets_lawful}
use Rattle.fixpoint.proofs.Paired.{nested_both}

-- the sets of n lines are the values between bottom and top
below_valid : (n : ℕ) {x : ℕ} → x < 2 ^ n → Valid (sets n) x
below_valid n {x} h = (empty_least x, below_full n x h)

valid_below : (n : ℕ) {x : ℕ} → Valid (sets n) x → x < 2 ^ n
valid_below n {x} v = full_below n x v.1

module _ (n₁ n₂ : ℕ) where
  abbrev sets_pairing : Pairing (sets n₁) (sets n₂) (sets (n₁ + n₂))
  sets_pairing = record {
    both = side_by_side n₁;
    first = λ z. z % 2 ^ n₁;
    second = λ z. z / 2 ^ n₁;
    both_valid = λ p q. below_valid (n₁ + n₂) (beside_below n₁ n₂ (valid_below n₁ p) (valid_below n₂ q));
    first_valid = λ {z} p. below_valid n₁ (mod-lt z (pow_pos n₁));
    second_valid = λ {z} p. below_valid n₂ (shr_lt n₂ n₁ (rw (add_comm n₁ n₂) at (valid_below (n₁ + n₂) p)));
    first_both = λ {x} {y} p q. beside_low n₁ x y (valid_below n₁ p);
    second_both = λ {x} {y} p q. beside_high n₁ x y (valid_below n₁ p);
    both_parts = λ {z} p. mod-add-div z (2 ^ n₁);
    both_mono = λ {x} {x'} {y} {y'} p p' q q' h k. beside_meet n₁ x x' y y' (valid_below n₁ p) (valid_below n₁ p') ∙ ap₂ (side_by_side n₁) h k;
    both_step = λ {a} {b} {x} {c} {e} {y} p q r s t u. beside_step n₁ a b x c e y (valid_below n₁ p) (valid_below n₁ q) (valid_below n₁ r);
  }

  valid_beside : {xs ys : List ℕ} → SetsBeside n₁ n₂ xs ys → Beside (Valid (sets n₁)) (Valid (sets n₂)) xs ys
  valid_beside none = none
  valid_beside (more p q w) = more (below_valid n₁ p) (below_valid n₂ q) (valid_beside w)

  beside_valid : {xs ys : List ℕ} → Beside (Valid (sets n₁)) (Valid (sets n₂)) xs ys → SetsBeside n₁ n₂ xs ys
  beside_valid none = none
  beside_valid (more p q w) = more (valid_below n₁ p) (valid_below n₂ q) (beside_valid w)

  module _ (sign : ℕ → Bool) (f₁ f₂ f : List ℕ → ℕ)
      (mono₁ : MonotoneQuery (sets n₁) f₁) (mono₂ : MonotoneQuery (sets n₂) f₂) (mono : MonotoneQuery (sets (n₁ + n₂)) f)
      (below₁ : (xs : List ℕ) → f₁ xs < 2 ^ n₁) (below₂ : (ys : List ℕ) → f₂ ys < 2 ^ n₂)
      (splits : (xs ys : List ℕ) → SetsBeside n₁ n₂ xs ys → f (sets_alongside n₁ xs ys) ≡ side_by_side n₁ (f₁ xs) (f₂ ys)) where
    pub nested_beside : (k : ℕ) {xs ys : List ℕ} {a₁ b₁ a₂ b₂ : ℕ} → SetsBeside n₁ n₂ xs ys → Range (sets n₁) a₁ b₁ → Range (sets n₂) a₂ b₂
        → nested (sets (n₁ + n₂)) sign f k (sets_alongside n₁ xs ys) (side_by_side n₁ a₁ a₂) (side_by_side n₁ b₁ b₂)
        ≡ side_by_side n₁ (nested (sets n₁) sign f₁ k xs a₁ b₁) (nested (sets n₂) sign f₂ k ys a₂ b₂)
    nested_beside k w r s =
        nested_both (sets n₁) (sets n₂) (sets (n₁ + n₂)) (sets_lawful n₁) (sets_lawful n₂) (sets_lawful (n₁ + n₂)) sets_pairing
        sign f₁ f₂ f mono₁ mono₂ mono (λ xs. below_valid n₁ (below₁ xs)) (λ ys. below_valid n₂ (below₂ ys))
        (λ xs ys v. splits xs ys (beside_valid v)) k (valid_beside w) r s
