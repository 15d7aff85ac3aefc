-- Searches: `some_below` over the numbers below a bound, and `some` over a list, which is `some_below` over its indices.
-- A loop that searches keeps that p holds of no index passed; the laws here turn that into the answer, and the answer into that.
-- Assumes nothing.
use mathlib.Core.Bool.{Bool, true, false, true≢false, ◌||◌, or-true, or_assoc}
use mathlib.Core.List.{List, [], ◌∷◌, ◌++◌}
use mathlib.Core.Path.{◌≡◌, refl, sym, ◌∙◌}
use Prim.Native.Nat.{ℕ, zero, suc, ◌≤◌, ◌<◌}
use native.Mathlib.Decide.{dec_lt}
use native.Mathlib.Nat.{le_of_lt}
use native.Mathlib.Omega.{arith}
use lib.ListN.{length, get_or}
use Rattle.model.specs.Checks.{some, some_below}

-- p holds of no number below n
abbrev pub NoneBelow : ℕ → (ℕ → Bool) → Type 0
NoneBelow n p = (i : ℕ) → i < n → p i ≡ false

module _ (p : ℕ → Bool) where
  pub below_true : (n i : ℕ) → i < n → p i ≡ true → some_below n p ≡ true
  below_true zero i h t = absurd (omega arith)
  below_true (suc n) i h t =
      elim (dec_lt i n) [
        | yes l ↦ rw (below_true n i l t) (or-true (p n))
        | no g ↦ let e : n ≡ i = omega arith in rw (e, t)
      ]

  pub below_false : (n : ℕ) {i : ℕ} → n ≤ i → NoneBelow i p → some_below n p ≡ false
  below_false zero l h = refl
  below_false (suc n) l h = rw (h n l, below_false n (le_of_lt l) h)

  pub false_below : (n : ℕ) → some_below n p ≡ false → NoneBelow n p
  false_below n h i l = at (p i) refl
    where
      at : (b : Bool) → p i ≡ b → b ≡ false
      at true t = absurd (true≢false (sym (below_true n i l t) ∙ h))
      at false t = refl

pub below_same : (p q : ℕ → Bool) (n : ℕ) → ((i : ℕ) → i < n → p i ≡ q i) → some_below n p ≡ some_below n q
below_same p q zero h = refl
below_same p q (suc n) h = rw (h n (omega arith), below_same p q n (λ i l. h i (omega arith)))

or_swap : (a b c : Bool) → a || (b || c) ≡ b || (a || c)
or_swap true b c = sym (or-true b)
or_swap false b c = refl

-- the least number first
below_front : (p : ℕ → Bool) (n : ℕ) → some_below (suc n) p ≡ p 0 || some_below n (λ i. p (suc i))
below_front p zero = refl
below_front p (suc n) = rw (below_front p n) (or_swap (p (suc n)) (p 0) (some_below n (λ i. p (suc i))))

module _ (p : ℕ → Bool) where
  pub some_index : (xs : List ℕ) → some p xs ≡ some_below (length xs) (λ i. p (get_or xs i 0))
  some_index [] = refl
  some_index (x ∷ xs) = rw (some_index xs) (sym (below_front (λ i. p (get_or (x ∷ xs) i 0)) (length xs)))

  pub some_append : (xs ys : List ℕ) → some p (xs ++ ys) ≡ some p xs || some p ys
  some_append [] ys = refl
  some_append (x ∷ xs) ys = rw (some_append xs ys) (sym (or_assoc (p x) (some p xs) (some p ys)))

  pub some_true : (xs : List ℕ) (i : ℕ) → i < length xs → p (get_or xs i 0) ≡ true → some p xs ≡ true
  some_true xs i h t = some_index xs ∙ below_true (λ j. p (get_or xs j 0)) (length xs) i h t

  pub some_false : (xs : List ℕ) {i : ℕ} → length xs ≤ i → NoneBelow i (λ j. p (get_or xs j 0)) → some p xs ≡ false
  some_false xs l h = some_index xs ∙ below_false (λ j. p (get_or xs j 0)) (length xs) l h

  pub false_some : (xs : List ℕ) → some p xs ≡ false → NoneBelow (length xs) (λ i. p (get_or xs i 0))
  false_some xs h = false_below (λ j. p (get_or xs j 0)) (length xs) (sym (some_index xs) ∙ h)
