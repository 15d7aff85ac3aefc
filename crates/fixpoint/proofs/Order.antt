-- What follows from the laws of values alone: equal values are below each other, ranges narrow, what lies in a range is bounded,
-- and the rank is monotone.
-- Assumes nothing.
use mathlib.Core.List.{List, [], ◌∷◌}
use mathlib.Core.Path.{◌≡◌, ap, subst}
use Prim.Native.Nat.{◌≤◌, ◌<◌}
use native.Mathlib.Omega.{arith}
use Rattle.fixpoint.specs.Values.{Values}
use Rattle.fixpoint.specs.Lawful.{Lawful, Below, nil⊑, cons⊑, Range, Between}

module _ (𝓥 : Values) (𝓛 : Lawful 𝓥) where
  open 𝓥 use {C, ◌⊑◌, bot, top, rank}
  open 𝓛 use {refl⊑, trans⊑, decide}

  infix 40 ◌⊑◌
  pub eq_le : {a b : C} → a ≡ b → a ⊑ b
  eq_le {a} e = subst (λ (z : C). a ⊑ z) e (refl⊑ a)

  pub below_refl : (xs : List C) → Below 𝓥 xs xs
  below_refl [] = nil⊑
  below_refl (x ∷ xs) = cons⊑ (refl⊑ x) (below_refl xs)

  pub range_up : {a x b : C} → Range 𝓥 a b → Between 𝓥 a x b → Range 𝓥 x b
  range_up r w = record { low = trans⊑ r.low w.above; mid = w.below; high = r.high }

  pub range_down : {a x b : C} → Range 𝓥 a b → Between 𝓥 a x b → Range 𝓥 a x
  range_down r w = record { low = r.low; mid = w.above; high = trans⊑ w.below r.high }

  pub between_bounded : {a x b : C} → Range 𝓥 a b → Between 𝓥 a x b → (bot ⊑ x) × (x ⊑ top)
  between_bounded r w = (trans⊑ r.low w.above, trans⊑ w.below r.high)

  pub rank_mono : {x y : C} → bot ⊑ x → x ⊑ y → y ⊑ top → rank x ≤ rank y
  rank_mono {x} {y} l m h = go (decide x y)
    where
      go : Dec (x ≡ y) → rank x ≤ rank y
      go (yes q) = omega (arith, ap rank q)
      go (no q) = let p : rank x < rank y = 𝓛.rank_strict l m h q in omega arith
