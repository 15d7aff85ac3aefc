-- Knaster and Tarski: the intersection of the sets that a monotone function maps inside themselves is its least fixed point, and the dual.
-- The argument is made once, for a direction of the order; the least fixed point takes ⊑ with intersections, the greatest its reverse with unions.
-- Assumes nothing.
use mathlib.Core.Bool.{Bool, true, false, true≢false}
use mathlib.Core.Logic.{◌⊎◌, inl, inr}
use mathlib.Core.Path.{◌≡◌, refl, sym, ◌∙◌}
use Prim.Native.Nat.{ℕ, zero, suc, ◌^◌, ◌<◌}
use native.Mathlib.Nat.{not-suc-le-zero, le_of_suc-le-suc, eq-or-lt_of_le}
use Rattle.sets.specs.Set.{full, union, intersection, is_within}
use Rattle.sets.specs.Extreme.{meet_pre_fixed, join_post_fixed, least_fixed, greatest_fixed}
use Rattle.sets.proofs.Order.{◌⊑◌, refl⊑, trans⊑, antisym⊑, meet_left, meet_right, meet_glb, join_left, join_right, join_lub, empty_least, within_le, le_within}
use Rattle.sets.proofs.Range.{full_below}

-- an order of the sets, a test of it, and the greatest set below two
record Direction : Type 1 where
  Le : ℕ → ℕ → Type 0
  trans : (a b c : ℕ) → Le a b → Le b c → Le a c
  antisym : (a b : ℕ) → Le a b → Le b a → a ≡ b
  test : ℕ → ℕ → Bool
  test_le : (a b : ℕ) → test a b ≡ true → Le a b
  le_test : (a b : ℕ) → Le a b → test a b ≡ true
  both : ℕ → ℕ → ℕ
  both_left : (a b : ℕ) → Le (both a b) a
  both_right : (a b : ℕ) → Le (both a b) b
  both_greatest : (a b c : ℕ) → Le c a → Le c b → Le c (both a b)

abbrev inward : Direction
inward = record {
  Le = ◌⊑◌;
  trans = trans⊑;
  antisym = λ a b. antisym⊑;
  test = is_within;
  test_le = within_le;
  le_test = le_within;
  both = intersection;
  both_left = meet_left;
  both_right = meet_right;
  both_greatest = meet_glb;
}

abbrev outward : Direction
outward = record {
  Le = λ a b. b ⊑ a;
  trans = λ a b c p q. trans⊑ c b a q p;
  antisym = λ a b p q. antisym⊑ q p;
  test = λ a b. is_within b a;
  test_le = λ a b. within_le b a;
  le_test = λ a b. le_within b a;
  both = union;
  both_left = join_left;
  both_right = join_right;
  both_greatest = join_lub;
}

-- a choice as the definitions write it
abbrev pick : Bool → ℕ → ℕ → ℕ
pick t x y = elim t [ true ↦ x | false ↦ y ]

-- F m is `both` of the sets below m that g maps below themselves
module _ (𝓓 : Direction) (g F : ℕ → ℕ) (next : (m : ℕ) → F (suc m) ≡ pick (𝓓.test (g m) m) (𝓓.both m (F m)) (F m)) where
  open 𝓓 use {Le, trans, antisym, test, test_le, le_test, both, both_left, both_right, both_greatest}

  below_at : (m y : ℕ) (t : Bool) → test (g m) m ≡ t → Le (g y) y → (y ≡ m) ⊎ (y < m) → (y < m → Le (F m) y) → Le (pick t (both m (F m)) (F m)) y
  below_at m y true e c (inl q) ih = rw q (both_left m (F m))
  below_at m y true e c (inr l) ih = trans (both m (F m)) (F m) y (both_right m (F m)) (ih l)
  below_at m y false e c (inl q) ih = absurd (true≢false (sym (le_test (g m) m (rw q at c)) ∙ e))
  below_at m y false e c (inr l) ih = ih l

  -- it is below each of them
  below_each : (m y : ℕ) → y < m → Le (g y) y → Le (F m) y
  below_each zero y h c = absurd (not-suc-le-zero h)
  below_each (suc m) y h c =
      rw (next m) (below_at m y (test (g m) m) refl c (eq-or-lt_of_le (le_of_suc-le-suc h)) (λ l. below_each m y l c))

  above_at : (m z : ℕ) (t : Bool) → test (g m) m ≡ t → (Le (g m) m → Le z m) → Le z (F m) → Le z (pick t (both m (F m)) (F m))
  above_at m z true e h ih = both_greatest m (F m) z (h (test_le (g m) m e)) ih
  above_at m z false e h ih = ih

  -- and above what is below all of them
  above_all : (m z : ℕ) → Le z (F 0) → ((y : ℕ) → Le (g y) y → Le z y) → Le z (F m)
  above_all zero z s h = s
  above_all (suc m) z s h = rw (next m) (above_at m z (test (g m) m) refl (h m) (above_all m z s h))

  -- the sets below N are enough: below each set that g maps below itself lies one of those
  module _ (N : ℕ) (monotone : (x y : ℕ) → Le x y → Le (g x) (g y)) (start : (x : ℕ) → Le (g x) (F 0))
      (cut : (y : ℕ) → Le (g y) y → (x : ℕ) × (x < N) × Le (g x) x × Le x y) where
    extreme_below : (y : ℕ) → Le (g y) y → Le (F N) y
    extreme_below y c = let (x, l, d, h) = cut y c in trans (F N) x y (below_each N x l d) h

    image_below : Le (g (F N)) (F N)
    image_below = above_all N (g (F N)) (start (F N)) (λ y c. trans (g (F N)) (g y) y (monotone (F N) y (extreme_below y c)) c)

    extreme_fixed : g (F N) ≡ F N
    extreme_fixed = antisym (g (F N)) (F N) image_below (extreme_below (g (F N)) (monotone (g (F N)) (F N) image_below))

module _ (n : ℕ) (g : ℕ → ℕ) (monotone : (x y : ℕ) → x ⊑ y → g x ⊑ g y) (bounded : (x : ℕ) → g x ⊑ full n) where
  -- a closed set is cut to n lines, and an open one has no others
  closed_cut : (y : ℕ) → g y ⊑ y → (x : ℕ) × (x < 2 ^ n) × (g x ⊑ x) × (x ⊑ y)
  closed_cut y c =
      let x : ℕ = intersection y (full n) in
      let l : x ⊑ y = meet_left y (full n) in
      (x, full_below n x (meet_right y (full n)), meet_glb y (full n) (g x) (trans⊑ (g x) (g y) y (monotone x y l) c) (bounded x), l)

  open_cut : (y : ℕ) → y ⊑ g y → (x : ℕ) × (x < 2 ^ n) × (x ⊑ g x) × (y ⊑ x)
  open_cut y c = (y, full_below n y (trans⊑ y (g y) (full n) c (bounded y)), c, refl⊑ y)

  pub least_fixed_lem : g (least_fixed n g) ≡ least_fixed n g
  unfolding meet_pre_fixed
  least_fixed_lem = extreme_fixed inward g (meet_pre_fixed n g) (λ m. refl) (2 ^ n) monotone bounded closed_cut

  pub least_least : (y : ℕ) → g y ⊑ y → least_fixed n g ⊑ y
  unfolding meet_pre_fixed
  least_least = extreme_below inward g (meet_pre_fixed n g) (λ m. refl) (2 ^ n) monotone bounded closed_cut

  pub greatest_fixed_lem : g (greatest_fixed n g) ≡ greatest_fixed n g
  unfolding join_post_fixed
  greatest_fixed_lem = extreme_fixed outward g (join_post_fixed n g) (λ m. refl) (2 ^ n) (λ x y. monotone y x) (λ x. empty_least (g x)) open_cut

  pub greatest_greatest : (y : ℕ) → y ⊑ g y → y ⊑ greatest_fixed n g
  unfolding join_post_fixed
  greatest_greatest = extreme_below outward g (join_post_fixed n g) (λ m. refl) (2 ^ n) (λ x y. monotone y x) (λ x. empty_least (g x)) open_cut
