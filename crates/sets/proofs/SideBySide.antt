-- Sets side by side in one word: their operations go part by part, each part can be read back, and a set that is moved up has as many members.
-- Assumes nothing.
use mathlib.Core.Path.{◌≡◌, sym, ◌∙◌, ap, ap₂}
use Prim.Native.Nat.{ℕ, suc, ◌+◌, ◌-◌, ◌*◌, ◌/◌, ◌%◌, ◌^◌, ◌<◌}
use native.Mathlib.Nat.{mul-le-mul_left, zero-add, add-zero, add_comm, mul_comm, mul_assoc, mod-eq_of_lt, div-eq_of_lt, add-mul-mod_self_left, add-mul-div_left}
use native.Mathlib.Omega.{arith}
use lib.Bits.{and_block, or_block}
use lib.Count.{ones_cat}
use lib.Dec.{eqb}
use lib.Pow.{pow_pos, pow-add, ones_split, shr-shr}
use Rattle.sets.specs.Set.{is_member, full, union, intersection, bounded_step, members}
use Rattle.sets.specs.SideBySide.{moved_up, side_by_side}
use Rattle.sets.proofs.Range.{intersection_below}
use Rattle.sets.proofs.Members.{members_empty}

module _ (n : ℕ) where
  -- the form in which the library has the laws of words in two parts
  beside_block : (x y : ℕ) → side_by_side n x y ≡ y * 2 ^ n + x
  beside_block x y = add_comm x (2 ^ n * y) ∙ ap (λ (z : ℕ). z + x) (mul_comm (2 ^ n) y)

  pub beside_meet : (x x' y y' : ℕ) → x < 2 ^ n → x' < 2 ^ n
      → intersection (side_by_side n x y) (side_by_side n x' y') ≡ side_by_side n (intersection x x') (intersection y y')
  beside_meet x x' y y' h h' =
      ap₂ intersection (beside_block x y) (beside_block x' y') ∙ and_block n y y' x x' h h' ∙ sym (beside_block (intersection x x') (intersection y y'))

  pub beside_join : (x x' y y' : ℕ) → x < 2 ^ n → x' < 2 ^ n → union (side_by_side n x y) (side_by_side n x' y') ≡ side_by_side n (union x x') (union y y')
  beside_join x x' y y' h h' =
      ap₂ union (beside_block x y) (beside_block x' y') ∙ or_block n y y' x x' h h' ∙ sym (beside_block (union x x') (union y y'))

  pub beside_step : (a b x c e y : ℕ) → a < 2 ^ n → b < 2 ^ n → x < 2 ^ n
      → bounded_step (side_by_side n a c) (side_by_side n b e) (side_by_side n x y) ≡ side_by_side n (bounded_step a b x) (bounded_step c e y)
  beside_step a b x c e y ha hb hx =
      ap (union (side_by_side n a c)) (beside_meet b x e y hb hx) ∙ beside_join a (intersection b x) c (intersection e y) ha (intersection_below n b x hb)

  -- the two parts
  pub beside_low : (x y : ℕ) → x < 2 ^ n → side_by_side n x y % 2 ^ n ≡ x
  beside_low x y h = add-mul-mod_self_left x (2 ^ n) y ∙ mod-eq_of_lt h

  pub beside_high : (x y : ℕ) → x < 2 ^ n → side_by_side n x y / 2 ^ n ≡ y
  beside_high x y h = add-mul-div_left x y (pow_pos n) ∙ ap (λ (z : ℕ). z + y) (div-eq_of_lt h) ∙ zero-add y

  -- below n the members are the first set's, from n on the second's
  pub member_first : (x y i : ℕ) → i < n → is_member (side_by_side n x y) i ≡ is_member x i
  member_first x y i h = ap (λ (d : ℕ). eqb d 1) digits
    where
      rest : ℕ
      rest = 2 ^ (n - suc i)

      power : 2 ^ n ≡ 2 ^ i * (2 * rest)
      power =
          let e : n ≡ i + suc (n - suc i) = omega arith in
          ap (λ (k : ℕ). 2 ^ k) e ∙ pow-add 2 i (suc (n - suc i)) ∙ ap (λ (k : ℕ). 2 ^ i * k) (omega arith)

      split : side_by_side n x y ≡ x + 2 ^ i * (2 * (rest * y))
      split = ap (λ (z : ℕ). x + z) (ap (λ (z : ℕ). z * y) power ∙ mul_assoc (2 ^ i) (2 * rest) y ∙ ap (λ (z : ℕ). 2 ^ i * z) (mul_assoc 2 rest y))

      digits : side_by_side n x y / 2 ^ i % 2 ≡ x / 2 ^ i % 2
      digits = ap (λ (z : ℕ). z / 2 ^ i % 2) split ∙ ap (λ (z : ℕ). z % 2) (add-mul-div_left x (2 * (rest * y)) (pow_pos i)) ∙ omega arith

  pub member_second : (x y j : ℕ) → x < 2 ^ n → is_member (side_by_side n x y) (n + j) ≡ is_member y j
  member_second x y j h =
      ap (λ (z : ℕ). eqb (z % 2) 1) (sym (shr-shr (side_by_side n x y) n j) ∙ ap (λ (z : ℕ). z / 2 ^ j) (beside_high x y h))

-- all lines of both
pub beside_full : (n₁ n₂ : ℕ) → full (n₁ + n₂) ≡ side_by_side n₁ (full n₁) (full n₂)
beside_full n₁ n₂ = ap full (add_comm n₁ n₂) ∙ ones_split n₂ n₁ ∙ sym (beside_block n₁ (full n₁) (full n₂))

-- a set of n₁ lines and one of n₂, side by side, are a set of n₁ + n₂
pub beside_below : (n₁ n₂ : ℕ) {x y : ℕ} → x < 2 ^ n₁ → y < 2 ^ n₂ → side_by_side n₁ x y < 2 ^ (n₁ + n₂)
beside_below n₁ n₂ {x} {y} h k = omega (arith, pow-add 2 n₁ n₂, mul-le-mul_left (2 ^ n₁) k)

pub members_moved : (n w : ℕ) → members (moved_up n w) ≡ members w
members_moved n w =
    ap members (mul_comm (2 ^ n) w ∙ sym (add-zero (w * 2 ^ n))) ∙ ones_cat n w 0 (pow_pos n) ∙ omega (arith, members_empty)
