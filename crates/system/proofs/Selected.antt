-- The bits that a word selects from two sets side by side: a word of the first lines selects what it selects from the first set, and a word that is
-- moved up what it selects from the second, in the same order.
-- Assumes nothing.
use mathlib.Core.Bool.{Bool, true, false, cond, true≢false}
use mathlib.Core.List.{List, [], ◌∷◌, ◌++◌, map}
use mathlib.Core.Path.{◌≡◌, refl, sym, ◌∙◌, ap, ap₂}
use Prim.Native.Nat.{ℕ, zero, suc, ◌+◌, ◌-◌, ◌^◌, ◌≤◌, ◌<◌}
use native.Mathlib.Decide.{dec_lt}
use native.Mathlib.Nat.{add-suc, add-zero, zero-add}
use native.Mathlib.Omega.{arith}
use lib.Pow.{pow_pos}
use Rattle.lists.specs.Below.{AllBelow, none, more}
use Rattle.sets.specs.Set.{is_member}
use Rattle.sets.specs.SideBySide.{moved_up, side_by_side}
use Rattle.sets.proofs.Range.{member_above}
use Rattle.sets.proofs.Membership.{member_empty}
use Rattle.sets.proofs.SideBySide.{member_first, member_second}
use Rattle.fixpoint.specs.Pairing.{Beside, sets_alongside, SetsBeside}
use Rattle.system.specs.Query.{selected, operands}

-- a word of n lines selects none of the lines from n on
selected_few : (n w x k : ℕ) → w < 2 ^ n → selected (n + k) w x ≡ selected n w x
unfolding selected
selected_few n w x zero h = ap (λ (m : ℕ). selected m w x) (add-zero n)
selected_few n w x (suc k) h =
    ap (λ (m : ℕ). selected m w x) (add-suc n k)
    ∙ ap (λ (t : Bool). cond t (is_member x (n + k) ∷ selected (n + k) w x) (selected (n + k) w x)) (member_above n w (n + k) h (omega arith))
    ∙ selected_few n w x k h

-- a word of the first n lines selects from the first set
selected_first : (n w x y m : ℕ) → w < 2 ^ n → selected m w (side_by_side n x y) ≡ selected m w x
unfolding selected
selected_first n w x y zero h = refl
selected_first n w x y (suc m) h = go (is_member w m) refl (selected_first n w x y m h)
  where
    z : ℕ
    z = side_by_side n x y

    same : is_member w m ≡ true → Dec (m < n) → is_member z m ≡ is_member x m
    same e (yes l) = member_first n x y m l
    same e (no l) = absurd (true≢false (sym e ∙ member_above n w m h (omega arith)))

    go : (t : Bool) → is_member w m ≡ t → selected m w z ≡ selected m w x
        → cond t (is_member z m ∷ selected m w z) (selected m w z) ≡ cond t (is_member x m ∷ selected m w x) (selected m w x)
    go true e ih = ap₂ (λ (b : Bool) (bs : List Bool). b ∷ bs) (same e (dec_lt m n)) ih
    go false e ih = ih

-- a word that is moved up by n selects none of the first n lines
selected_below : (n w z k : ℕ) → k ≤ n → selected k (side_by_side n 0 w) z ≡ []
unfolding selected
selected_below n w z zero h = refl
selected_below n w z (suc k) h =
    ap (λ (t : Bool). cond t (is_member z k ∷ selected k (side_by_side n 0 w) z) (selected k (side_by_side n 0 w) z)) (member_first n 0 w k h ∙ member_empty k)
    ∙ selected_below n w z k (omega arith)

-- and from n on it selects from the second set
selected_second : (n w x y m : ℕ) → x < 2 ^ n → selected (n + m) (side_by_side n 0 w) (side_by_side n x y) ≡ selected m w y
unfolding selected
selected_second n w x y zero h =
    ap (λ (m : ℕ). selected m (side_by_side n 0 w) (side_by_side n x y)) (add-zero n) ∙ selected_below n w (side_by_side n x y) n (omega arith)
selected_second n w x y (suc m) h =
    ap (λ (k : ℕ). selected k (side_by_side n 0 w) (side_by_side n x y)) (add-suc n m)
    ∙ rw (member_second n 0 w m (pow_pos n), member_second n x y m h, selected_second n w x y m h)

-- the operands of a line of the first, and of a line of the second, where the lines of both are no more than a query looks at
module _ (n₁ n₂ : ℕ) where
  pub operands_first : {ws xs ys : List ℕ} → AllBelow (2 ^ n₁) ws → SetsBeside n₁ n₂ xs ys → operands ws (sets_alongside n₁ xs ys) ≡ operands ws xs
  unfolding operands
  operands_first none b = refl
  operands_first (more h hs) Beside.none = refl
  operands_first (more {x = w} h hs) (Beside.more {x} {y} p q b) = ap₂ ◌++◌ (selected_first n₁ w x y 64 h) (operands_first hs b)

  module _ (few : n₁ + n₂ ≤ 64) where
    selected_moved : (w x y : ℕ) → w < 2 ^ n₂ → x < 2 ^ n₁ → selected 64 (moved_up n₁ w) (side_by_side n₁ x y) ≡ selected 64 w y
    selected_moved w x y hw hx =
        let k : ℕ = 64 - (n₁ + n₂) in
        let from_first : 64 ≡ n₁ + (n₂ + k) = omega arith in
        let from_second : 64 ≡ n₂ + (n₁ + k) = omega arith in
        ap₂ (λ (m v : ℕ). selected m v (side_by_side n₁ x y)) from_first (sym (zero-add (moved_up n₁ w)))
        ∙ selected_second n₁ w x y (n₂ + k) hx
        ∙ selected_few n₂ w y k hw
        ∙ sym (selected_few n₂ w y (n₁ + k) hw)
        ∙ ap (λ (m : ℕ). selected m w y) (sym from_second)

    pub operands_second : {ws xs ys : List ℕ} → AllBelow (2 ^ n₂) ws → SetsBeside n₁ n₂ xs ys
        → operands (map (moved_up n₁) ws) (sets_alongside n₁ xs ys) ≡ operands ws ys
    unfolding operands
    operands_second none b = refl
    operands_second (more h hs) Beside.none = refl
    operands_second (more {x = w} h hs) (Beside.more {x} {y} p q b) = ap₂ ◌++◌ (selected_moved w x y h p) (operands_second hs b)
