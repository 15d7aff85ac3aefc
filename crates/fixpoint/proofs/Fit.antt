-- A least-level tree that fits in another gives a restricted value that is below the other's (document 001, Lemma 4.8).
-- Assumes nothing.
use mathlib.Core.Bool.{Bool, true, false}
use mathlib.Core.List.{List, [], ◌∷◌}
use mathlib.Core.Path.{◌≡◌, refl, subst}
use Prim.Native.Nat.{ℕ, zero, suc}
use Rattle.trees.specs.Tree.{children}
use Rattle.trees.specs.Fit.{FitsIn, Placed, done, here, skip}
use Rattle.fixpoint.specs.Values.{Values}
use Rattle.fixpoint.specs.Lawful.{Lawful, MonotoneQuery, Range, Between}
use Rattle.fixpoint.specs.Levels.{least_among, greatest_among}
use Rattle.fixpoint.specs.Restricted.{restricted, level, rise, fall}
use Rattle.fixpoint.proofs.Order.{below_refl, range_up, range_down}
use Rattle.fixpoint.proofs.Levels.{least_at_least, least_at_greatest}
use Rattle.fixpoint.proofs.Restricted.{Keeps, Under, rise_between, level_keeps, level_below}

module _ (𝓥 : Values) (𝓛 : Lawful 𝓥) where
  open 𝓥 use {C, ◌⊑◌, step}
  open 𝓛 use {refl⊑, trans⊑}

  infix 40 ◌⊑◌
  -- one level over levels below that obey the law at the height h
  module _ (p : C → C → C → List ℕ → List ℕ → C) (P : Keeps 𝓥 p) (M : Under 𝓥 p p)
      (h : ℕ) (fit : (c a b : C) (t u v : List ℕ) → Range 𝓥 a b → FitsIn h t u → p c a b t v ⊑ p c a b u v) where
    rise_fit : (v : List ℕ) {a a' b : C} {ts us : List (List ℕ)} → Range 𝓥 a b → Range 𝓥 a' b → a ⊑ a' → Placed (FitsIn h) ts us → rise p b v a ts ⊑ rise p b v a' us
    unfolding rise
    rise_fit v {a} {a'} {b} r r' e (done {us}) = trans⊑ e (rise_between 𝓥 𝓛 p P v us r').above
    rise_fit v {a} {a'} {b} r r' e (here {t} {u} q s) =
        rise_fit v {a = p a a b t v} {a' = p a' a' b u v} {b = b} (range_up 𝓥 𝓛 r (P.at a t v r)) (range_up 𝓥 𝓛 r' (P.at a' u v r'))
        (trans⊑ (M.at t v r r' e e (refl⊑ b)) (fit a' a' b t u v r' q)) s
    rise_fit v {a} {a'} {b} r r' e (skip {u} s) =
        let w : Between 𝓥 a' (p a' a' b u v) b = P.at a' u v r' in
        rise_fit v {a = a} {a' = p a' a' b u v} {b = b} r (range_up 𝓥 𝓛 r' w) (trans⊑ e w.above) s

    fall_fit : {a b b' : C} (t u : List ℕ) (vs : List (List ℕ)) → Range 𝓥 a b → Range 𝓥 a b' → b ⊑ b' → FitsIn h t u → fall p a t b vs ⊑ fall p a u b' vs
    unfolding fall
    fall_fit t u [] r r' e q = e
    fall_fit {a = a} {b = b} {b' = b'} t u (v ∷ vs) r r' e q =
        fall_fit {a = a} {b = p b a b t v} {b' = p b' a b' u v} t u vs (range_down 𝓥 𝓛 r (P.at b t v r)) (range_down 𝓥 𝓛 r' (P.at b' u v r'))
        (trans⊑ (M.at t v r r' e (refl⊑ a) e) (fit b' a b' t u v r' q)) q

  module _ (sign : ℕ → Bool) (f : List C → C) (f-mono : MonotoneQuery 𝓥 f) where
    abbrev res : ℕ → List C → C → C → List ℕ → List ℕ → C
    res = restricted 𝓥 sign f

    abbrev FitLaw : ℕ → Type 0
    FitLaw k = (xs : List C) (a b : C) (t u v : List ℕ) → Range 𝓥 a b → FitsIn (least_among sign k) t u → res k xs a b t v ⊑ res k xs a b u v

    module _ (k : ℕ) (ih : FitLaw k) (xs : List C) where
      abbrev below : C → C → C → List ℕ → List ℕ → C
      below c = res k (c ∷ xs)

      keeps : Keeps 𝓥 below
      keeps = level_keeps 𝓥 𝓛 sign f f-mono k xs

      under : Under 𝓥 below below
      under = level_below 𝓥 𝓛 sign f f-mono k (below_refl 𝓥 𝓛 xs)

      level_fit : (s : Bool) → sign k ≡ s → (hu hv : ℕ) → hu ≡ least_among sign (suc k) → (a b : C) (t u v : List ℕ) → Range 𝓥 a b → FitsIn (least_among sign (suc k)) t u
          → level below s hu hv a b t v ⊑ level below s hu hv a b u v
      unfolding level FitsIn
      level_fit true e hu hv w a b t u v r q =
          fall_fit below keeps under (least_among sign k) (λ c. ih (c ∷ xs)) t u (children hv v) r r (refl⊑ b) (subst (λ (h : ℕ). FitsIn h t u) (least_at_greatest sign k e) q)
      level_fit false e hu hv w a b t u v r q =
          rw (w, least_at_least sign k e)
          (rise_fit below keeps under (least_among sign k) (λ c. ih (c ∷ xs)) v r r (refl⊑ a) (subst (λ (h : ℕ). FitsIn h t u) (least_at_least sign k e) q))

    pub fit_law : (k : ℕ) (xs : List C) (a b : C) (t u v : List ℕ) → Range 𝓥 a b → FitsIn (least_among sign k) t u
        → restricted 𝓥 sign f k xs a b t v ⊑ restricted 𝓥 sign f k xs a b u v
    unfolding restricted
    fit_law zero xs a b t u v r q = refl⊑ (step a b (f xs))
    fit_law (suc k) xs a b t u v r q = level_fit k (fit_law k) xs (sign k) refl (least_among sign (suc k)) (greatest_among sign (suc k)) refl a b t u v r q
