-- The nested fixpoint is monotone in its arguments and bounds, lies between its bounds, and is a fixed point of each level
-- (document 001, Proposition 2.2).
-- Assumes nothing.
use mathlib.Core.Bool.{Bool, true, false}
use mathlib.Core.List.{List, ◌∷◌}
use mathlib.Core.Path.{◌≡◌, subst}
use Prim.Native.Nat.{ℕ, zero, suc}
use Rattle.fixpoint.specs.Values.{Values}
use Rattle.fixpoint.specs.Lawful.{Lawful, Monotone, Bounded, MonotoneQuery, Below, cons⊑, Range, Between}
use Rattle.fixpoint.specs.Nested.{nested, extreme}
use Rattle.fixpoint.proofs.Order.{eq_le, below_refl, between_bounded}
use Rattle.fixpoint.proofs.Dual.{dual, dual_lawful, dual_monotone, dual_bounded}

-- a larger function has a larger least fixed point
lfp_mono : (𝓥 : Values) → Lawful 𝓥 → (g h : 𝓥.C → 𝓥.C) → Monotone 𝓥 g → Bounded 𝓥 g → Monotone 𝓥 h → Bounded 𝓥 h
    → ((x : 𝓥.C) → 𝓥.◌⊑◌ (g x) (h x)) → 𝓥.◌⊑◌ (𝓥.lfp g) (𝓥.lfp h)
lfp_mono 𝓥 𝓛 g h mg bg mh bh le = 𝓛.lfp_least g mg bg (𝓥.lfp h) (𝓛.trans⊑ (le (𝓥.lfp h)) (eq_le 𝓥 𝓛 (𝓛.lfp_fixed h mh bh)))

module _ (𝓥 : Values) (𝓛 : Lawful 𝓥) where
  open 𝓥 use {C, ◌⊑◌}
  open 𝓛 use {refl⊑}

  infix 40 ◌⊑◌
  pub extreme_fixed : (s : Bool) (g : C → C) → Monotone 𝓥 g → Bounded 𝓥 g → g (extreme 𝓥 s g) ≡ extreme 𝓥 s g
  unfolding extreme
  extreme_fixed true g m b = 𝓛.gfp_fixed g m b
  extreme_fixed false g m b = 𝓛.lfp_fixed g m b

  extreme_mono : (s : Bool) (g h : C → C) → Monotone 𝓥 g → Bounded 𝓥 g → Monotone 𝓥 h → Bounded 𝓥 h → ((x : C) → g x ⊑ h x) → extreme 𝓥 s g ⊑ extreme 𝓥 s h
  unfolding extreme
  extreme_mono true g h mg bg mh bh le =
      lfp_mono (dual 𝓥) (dual_lawful 𝓥 𝓛) h g (dual_monotone 𝓥 mh) (dual_bounded 𝓥 bh) (dual_monotone 𝓥 mg) (dual_bounded 𝓥 bg) le
  extreme_mono false g h mg bg mh bh le = lfp_mono 𝓥 𝓛 g h mg bg mh bh le

  module _ (sign : ℕ → Bool) (f : List C → C) (f-mono : MonotoneQuery 𝓥 f) where
    abbrev val : ℕ → List C → C → C → C
    val = nested 𝓥 sign f

    pub record NestedLaws (k : ℕ) : Type 0 where
      pub mono : {xs ys : List C} {a a' b b' : C} → Range 𝓥 a b → Range 𝓥 a' b' → Below 𝓥 xs ys → a ⊑ a' → b ⊑ b' → nested 𝓥 sign f k xs a b ⊑ nested 𝓥 sign f k ys a' b'
      pub between : (xs : List C) {a b : C} → Range 𝓥 a b → Between 𝓥 a (nested 𝓥 sign f k xs a b) b

    module _ (k : ℕ) (L : NestedLaws k) (xs : List C) {a b : C} (r : Range 𝓥 a b) where
      mono_at : Monotone 𝓥 (λ x. val k (x ∷ xs) a b)
      mono_at x y h = L.mono r r (cons⊑ h (below_refl 𝓥 𝓛 xs)) (refl⊑ a) (refl⊑ b)

      bounded_at : Bounded 𝓥 (λ x. val k (x ∷ xs) a b)
      bounded_at x = between_bounded 𝓥 𝓛 r (L.between (x ∷ xs) r)

    pub nested_laws : (k : ℕ) → NestedLaws k
    unfolding nested
    nested_laws zero = record {
      mono = λ {xs} {ys} r r' p ha hb. 𝓛.step_mono ha hb (f-mono xs ys p);
      between = λ xs r. record { above = 𝓛.step_low (f xs) r.mid; below = 𝓛.step_high (f xs) r.mid };
    }
    nested_laws (suc k) = record {
      mono = λ {xs} {ys} {a} {a'} {b} {b'} r r' p ha hb.
          extreme_mono (sign k) (λ x. val k (x ∷ xs) a b) (λ x. val k (x ∷ ys) a' b')
          (mono_at k (nested_laws k) xs r) (bounded_at k (nested_laws k) xs r)
          (mono_at k (nested_laws k) ys r') (bounded_at k (nested_laws k) ys r')
          (λ x. (nested_laws k).mono r r' (cons⊑ (refl⊑ x) p) ha hb);
      between = λ xs {a} {b} r.
          let e : val k (extreme 𝓥 (sign k) (λ x. val k (x ∷ xs) a b) ∷ xs) a b ≡ extreme 𝓥 (sign k) (λ x. val k (x ∷ xs) a b)
          = extreme_fixed (sign k) (λ x. val k (x ∷ xs) a b) (mono_at k (nested_laws k) xs r) (bounded_at k (nested_laws k) xs r) in
          subst (λ (z : C). Between 𝓥 a z b) e ((nested_laws k).between (extreme 𝓥 (sign k) (λ x. val k (x ∷ xs) a b) ∷ xs) r);
    }

    -- one level as a function of its argument
    module _ (k : ℕ) (xs : List C) {a b : C} (r : Range 𝓥 a b) where
      pub level_mono : Monotone 𝓥 (λ x. nested 𝓥 sign f k (x ∷ xs) a b)
      level_mono = mono_at k (nested_laws k) xs r

      pub level_bounded : Bounded 𝓥 (λ x. nested 𝓥 sign f k (x ∷ xs) a b)
      level_bounded = bounded_at k (nested_laws k) xs r

      pub level_fixed : nested 𝓥 sign f k (nested 𝓥 sign f (suc k) xs a b ∷ xs) a b ≡ nested 𝓥 sign f (suc k) xs a b
      unfolding nested
      level_fixed = extreme_fixed (sign k) (λ x. val k (x ∷ xs) a b) level_mono level_bounded
