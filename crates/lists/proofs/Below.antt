-- Lists whose entries are all below a bound: from what is known of each entry, of their parts, and of lists made of them.
-- Assumes nothing.
use mathlib.Core.List.{List, [], ◌∷◌, ◌++◌, map}
use Prim.Native.Nat.{ℕ, zero, suc, ◌≤◌, ◌<◌}
use native.Mathlib.Nat.{lt_of_lt_of_le}
use native.Mathlib.Omega.{arith}
use lib.ListN.{length, get_or, take, drop}
use Rattle.lists.specs.Below.{AllBelow, none, more}

module _ {b : ℕ} where
  -- what is known of each entry of a slice
  pub below_entries : (xs : List ℕ) → ((i : ℕ) → get_or xs i 0 < b) → AllBelow b xs
  below_entries [] h = none
  below_entries (x ∷ xs) h = more (h 0) (below_entries xs (λ i. h (suc i)))

  pub below_at : {xs : List ℕ} → AllBelow b xs → (i : ℕ) → i < length xs → get_or xs i 0 < b
  below_at none i l = absurd (omega arith)
  below_at (more p h) zero l = p
  below_at (more p h) (suc i) l = below_at h i (omega arith)

  pub below_take : (n : ℕ) {xs : List ℕ} → AllBelow b xs → AllBelow b (take n xs)
  below_take zero h = none
  below_take (suc n) none = none
  below_take (suc n) (more p h) = more p (below_take n h)

  pub below_drop : (n : ℕ) {xs : List ℕ} → AllBelow b xs → AllBelow b (drop n xs)
  below_drop zero h = h
  below_drop (suc n) none = none
  below_drop (suc n) (more p h) = below_drop n h

  pub below_append : {xs ys : List ℕ} → AllBelow b xs → AllBelow b ys → AllBelow b (xs ++ ys)
  below_append none k = k
  below_append (more p h) k = more p (below_append h k)

-- from the bound a to the bound b
module _ {a b : ℕ} where
  pub below_wider : {xs : List ℕ} → a ≤ b → AllBelow a xs → AllBelow b xs
  below_wider w none = none
  below_wider w (more p h) = more (lt_of_lt_of_le p w) (below_wider w h)

  pub below_map : (f : ℕ → ℕ) {xs : List ℕ} → ((x : ℕ) → x < a → f x < b) → AllBelow a xs → AllBelow b (map f xs)
  below_map f w none = none
  below_map f w (more {x} p h) = more (w x p) (below_map f w h)
