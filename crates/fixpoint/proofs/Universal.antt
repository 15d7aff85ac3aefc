-- Demand 3: over two universal trees the restricted value is the nested fixpoint, for every monotone query, every argument list
-- and every lower bound within its upper bound (document 001, Lemma 3.1). One half is `reach`, the other is `reach` upside down.
-- Assumes nothing.
use mathlib.Core.Bool.{Bool, true, false, not}
use mathlib.Core.List.{List, ◌∷◌}
use mathlib.Core.Path.{◌≡◌, refl, sym, ◌∙◌, ap, subst₂, fun_ext}
use Prim.Native.Nat.{ℕ, zero, suc, ◌+◌, ◌≤◌}
use native.Mathlib.Omega.{arith}
use Rattle.trees.specs.Tree.{children}
use Rattle.trees.specs.Fit.{Universal}
use Rattle.fixpoint.specs.Values.{Values}
use Rattle.fixpoint.specs.Lawful.{Lawful, MonotoneQuery, Range}
use Rattle.fixpoint.specs.Levels.{least_among, greatest_among}
use Rattle.fixpoint.specs.Nested.{nested, extreme}
use Rattle.fixpoint.specs.Restricted.{restricted, level}
use Rattle.fixpoint.proofs.Dual.{dual, dual_lawful, dual_range, below_dual, flip, least_flip, greatest_flip}
use Rattle.fixpoint.proofs.Restricted.{turn, fall_is_rise}
use Rattle.fixpoint.proofs.Reach.{reach}

module _ (𝓥 : Values) (sign : ℕ → Bool) (f : List 𝓥.C → 𝓥.C) where
  open 𝓥 use {C}

  extreme_dual : (s : Bool) (g h : C → C) → g ≡ h → extreme (dual 𝓥) (not s) g ≡ extreme 𝓥 s h
  unfolding extreme
  extreme_dual true g h e = ap 𝓥.gfp e
  extreme_dual false g h e = ap 𝓥.lfp e

  nested_dual : (k : ℕ) (xs : List C) (a b : C) → nested (dual 𝓥) (flip sign) f k xs b a ≡ nested 𝓥 sign f k xs a b
  unfolding nested
  nested_dual zero xs a b = refl
  nested_dual (suc k) xs a b =
      extreme_dual (sign k) (λ x. nested (dual 𝓥) (flip sign) f k (x ∷ xs) b a) (λ x. nested 𝓥 sign f k (x ∷ xs) a b) (fun_ext (λ x. nested_dual k (x ∷ xs) a b))

  -- one level upside down
  level_turn : (p : C → C → C → List ℕ → List ℕ → C) (s : Bool) (hu hv : ℕ) (a b : C) (u v : List ℕ) → level (turn p) (not s) hv hu b a v u ≡ level p s hu hv a b u v
  unfolding level
  level_turn p true hu hv a b u v = sym (fall_is_rise p a u b (children hv v))
  level_turn p false hu hv a b u v = fall_is_rise (turn p) b v a (children hu u)

  restricted_dual : (k : ℕ) (xs : List C) (a b : C) (u v : List ℕ) → restricted (dual 𝓥) (flip sign) f k xs b a v u ≡ restricted 𝓥 sign f k xs a b u v
  unfolding restricted
  restricted_dual zero xs a b u v = refl
  restricted_dual (suc k) xs a b u v =
      rw (least_flip sign (suc k), greatest_flip sign (suc k))
      (ap (λ (p : C → C → C → List ℕ → List ℕ → C). level p (not (sign k)) (greatest_among sign (suc k)) (least_among sign (suc k)) b a v u)
      (fun_ext (λ c. fun_ext (λ b. fun_ext (λ a. fun_ext (λ v. fun_ext (λ u. restricted_dual k (c ∷ xs) a b u v))))))
      ∙ level_turn (λ c. restricted 𝓥 sign f k (c ∷ xs)) (sign k) (least_among sign (suc k)) (greatest_among sign (suc k)) a b u v)

module _ (𝓥 : Values) (𝓛 : Lawful 𝓥) (sign : ℕ → Bool) (f : List 𝓥.C → 𝓥.C) (f-mono : MonotoneQuery 𝓥 f) where
  open 𝓥 use {C, ◌⊑◌, bot, top, rank}

  infix 40 ◌⊑◌
  pub universal_exact : (n k : ℕ) → rank top ≤ rank bot + n → (xs : List C) (a b : C) → Range 𝓥 a b → (u v : List ℕ)
      → Universal n (least_among sign k) u → Universal n (greatest_among sign k) v
      → restricted 𝓥 sign f k xs a b u v ≡ nested 𝓥 sign f k xs a b
  universal_exact n k span xs a b r u v pu pv = 𝓛.antisym⊑ high (reach 𝓥 𝓛 sign f f-mono n k span xs a b r u v pu)
    where
      upside : 𝓥.◌⊑◌ (restricted (dual 𝓥) (flip sign) f k xs b a v u) (nested (dual 𝓥) (flip sign) f k xs b a)
      upside =
          reach (dual 𝓥) (dual_lawful 𝓥 𝓛) (flip sign) f (λ xs ys p. f-mono ys xs (below_dual 𝓥 p)) n k (omega arith) xs b a
          (dual_range 𝓥 r) v u (rw (least_flip sign k) pv)

      high : restricted 𝓥 sign f k xs a b u v ⊑ nested 𝓥 sign f k xs a b
      high = subst₂ ◌⊑◌ (restricted_dual 𝓥 sign f k xs a b u v) (nested_dual 𝓥 sign f k xs a b) upside
