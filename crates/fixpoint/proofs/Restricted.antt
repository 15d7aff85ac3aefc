-- The restricted value is monotone in its arguments and bounds and lies between its bounds, over any two trees (document 001, Lemma 4.6).
-- What a greatest level does down its tree is what a least level does up its tree, upside down.
-- Assumes nothing.
use mathlib.Core.Bool.{Bool, true, false}
use mathlib.Core.List.{List, [], ◌∷◌}
use mathlib.Core.Path.{◌≡◌, refl, sym, subst, subst₂}
use Prim.Native.Nat.{ℕ, zero, suc}
use Rattle.trees.specs.Tree.{children}
use Rattle.fixpoint.specs.Values.{Values}
use Rattle.fixpoint.specs.Lawful.{Lawful, MonotoneQuery, Below, cons⊑, Range, Between}
use Rattle.fixpoint.specs.Levels.{least_among, greatest_among}
use Rattle.fixpoint.specs.Restricted.{restricted, level, rise, fall}
use Rattle.fixpoint.proofs.Order.{range_up}
use Rattle.fixpoint.proofs.Dual.{dual, dual_lawful, dual_range, range_dual, dual_between, between_dual}

-- the levels below, with the two bounds and the two trees exchanged
abbrev pub turn : {C : Type 0} → (C → C → C → List ℕ → List ℕ → C) → C → C → C → List ℕ → List ℕ → C
turn p c b a v u = p c a b u v

pub fall_is_rise : {C : Type 0} (p : C → C → C → List ℕ → List ℕ → C) (a : C) (u : List ℕ) (b : C) (vs : List (List ℕ)) → fall p a u b vs ≡ rise (turn p) a u b vs
unfolding rise fall
fall_is_rise p a u b [] = refl
fall_is_rise p a u b (v ∷ vs) = fall_is_rise p a u (p b a b u v) vs

module _ (𝓥 : Values) where
  open 𝓥 use {C, ◌⊑◌}

  infix 40 ◌⊑◌
  -- the levels below stay between their bounds
  pub record Keeps (p : C → C → C → List ℕ → List ℕ → C) : Type 0 where
    pub at : (x : C) {a b : C} (u v : List ℕ) → Range 𝓥 a b → Between 𝓥 a (p x a b u v) b

  -- they are below others, at larger arguments and bounds
  pub record Under (p q : C → C → C → List ℕ → List ℕ → C) : Type 0 where
    pub at : {x y a a' b b' : C} (u v : List ℕ) → Range 𝓥 a b → Range 𝓥 a' b' → x ⊑ y → a ⊑ a' → b ⊑ b' → p x a b u v ⊑ q y a' b' u v

module _ (𝓥 : Values) (𝓛 : Lawful 𝓥) where
  open 𝓥 use {C, ◌⊑◌}
  open 𝓛 use {refl⊑, trans⊑}

  infix 40 ◌⊑◌
  module _ (p : C → C → C → List ℕ → List ℕ → C) (P : Keeps 𝓥 p) where
    pub rise_between : (v : List ℕ) {a b : C} (us : List (List ℕ)) → Range 𝓥 a b → Between 𝓥 a (rise p b v a us) b
    unfolding rise
    rise_between v {a} {b} [] r = record { above = refl⊑ a; below = r.mid }
    rise_between v {a} {b} (u ∷ us) r =
        let w : Between 𝓥 a (p a a b u v) b = P.at a u v r in
        let z : Between 𝓥 (p a a b u v) (rise p b v (p a a b u v) us) b = rise_between v {a = p a a b u v} {b = b} us (range_up 𝓥 𝓛 r w) in
        record { above = trans⊑ w.above z.above; below = z.below }

    module _ (q : C → C → C → List ℕ → List ℕ → C) (Q : Keeps 𝓥 q) (M : Under 𝓥 p q) where
      pub rise_mono : {a a' b b' : C} (v : List ℕ) (us : List (List ℕ)) → Range 𝓥 a b → Range 𝓥 a' b' → a ⊑ a' → b ⊑ b' → rise p b v a us ⊑ rise q b' v a' us
      unfolding rise
      rise_mono v [] r r' ha hb = ha
      rise_mono {a = a} {a' = a'} {b = b} {b' = b'} v (u ∷ us) r r' ha hb =
          rise_mono {a = p a a b u v} {a' = q a' a' b' u v} {b = b} {b' = b'} v us (range_up 𝓥 𝓛 r (P.at a u v r)) (range_up 𝓥 𝓛 r' (Q.at a' u v r')) (M.at u v r r' ha ha hb) hb

turn_keeps : (𝓥 : Values) (p : 𝓥.C → 𝓥.C → 𝓥.C → List ℕ → List ℕ → 𝓥.C) → Keeps 𝓥 p → Keeps (dual 𝓥) (turn p)
turn_keeps 𝓥 p P = record { at = λ x v u r. dual_between 𝓥 (P.at x u v (range_dual 𝓥 r)) }

module _ (𝓥 : Values) (𝓛 : Lawful 𝓥) where
  open 𝓥 use {C, ◌⊑◌}

  infix 40 ◌⊑◌
  module _ (p : C → C → C → List ℕ → List ℕ → C) (P : Keeps 𝓥 p) where
    pub fall_between : (u : List ℕ) {a b : C} (vs : List (List ℕ)) → Range 𝓥 a b → Between 𝓥 a (fall p a u b vs) b
    fall_between u {a} {b} vs r =
        subst (λ (z : C). Between 𝓥 a z b) (sym (fall_is_rise p a u b vs))
        (between_dual 𝓥 (rise_between (dual 𝓥) (dual_lawful 𝓥 𝓛) (turn p) (turn_keeps 𝓥 p P) u vs (dual_range 𝓥 r)))

    pub level_between : (s : Bool) (hu hv : ℕ) {a b : C} (u v : List ℕ) → Range 𝓥 a b → Between 𝓥 a (level p s hu hv a b u v) b
    unfolding level
    level_between true hu hv u v r = fall_between u (children hv v) r
    level_between false hu hv u v r = rise_between 𝓥 𝓛 p P v (children hu u) r

    module _ (q : C → C → C → List ℕ → List ℕ → C) (Q : Keeps 𝓥 q) (M : Under 𝓥 p q) where
      pub fall_mono : {a a' b b' : C} (u : List ℕ) (vs : List (List ℕ)) → Range 𝓥 a b → Range 𝓥 a' b' → a ⊑ a' → b ⊑ b' → fall p a u b vs ⊑ fall q a' u b' vs
      fall_mono {a} {a'} {b} {b'} u vs r r' ha hb =
          subst₂ ◌⊑◌ (sym (fall_is_rise p a u b vs)) (sym (fall_is_rise q a' u b' vs))
          (rise_mono (dual 𝓥) (dual_lawful 𝓥 𝓛) (turn q) (turn_keeps 𝓥 q Q) (turn p) (turn_keeps 𝓥 p P)
          (record { at = λ v u r r' h ha hb. M.at u v (range_dual 𝓥 r') (range_dual 𝓥 r) h hb ha }) u vs (dual_range 𝓥 r') (dual_range 𝓥 r) hb ha)

      pub level_under : (s : Bool) (hu hv : ℕ) {a a' b b' : C} (u v : List ℕ) → Range 𝓥 a b → Range 𝓥 a' b' → a ⊑ a' → b ⊑ b' → level p s hu hv a b u v ⊑ level q s hu hv a' b' u v
      unfolding level
      level_under true hu hv u v r r' ha hb = fall_mono u (children hv v) r r' ha hb
      level_under false hu hv u v r r' ha hb = rise_mono 𝓥 𝓛 p P q Q M v (children hu u) r r' ha hb

  module _ (sign : ℕ → Bool) (f : List C → C) (f-mono : MonotoneQuery 𝓥 f) where
    abbrev res : ℕ → List C → C → C → List ℕ → List ℕ → C
    res = restricted 𝓥 sign f

    pub record RestrictedLaws (k : ℕ) : Type 0 where
      pub mono : {xs ys : List C} {a a' b b' : C} (u v : List ℕ) → Range 𝓥 a b → Range 𝓥 a' b' → Below 𝓥 xs ys → a ⊑ a' → b ⊑ b' → restricted 𝓥 sign f k xs a b u v ⊑ restricted 𝓥 sign f k ys a' b' u v
      pub between : (xs : List C) {a b : C} (u v : List ℕ) → Range 𝓥 a b → Between 𝓥 a (restricted 𝓥 sign f k xs a b u v) b

    keeps : (k : ℕ) → RestrictedLaws k → (xs : List C) → Keeps 𝓥 (λ c. res k (c ∷ xs))
    keeps k L xs = record { at = λ c. L.between (c ∷ xs) }

    under : (k : ℕ) → RestrictedLaws k → {xs ys : List C} → Below 𝓥 xs ys → Under 𝓥 (λ c. res k (c ∷ xs)) (λ c. res k (c ∷ ys))
    under k L p = record { at = λ u v r r' h ha hb. L.mono u v r r' (cons⊑ h p) ha hb }

    pub restricted_laws : (k : ℕ) → RestrictedLaws k
    unfolding restricted
    restricted_laws zero = record {
      mono = λ {xs} {ys} u v r r' p ha hb. 𝓛.step_mono ha hb (f-mono xs ys p);
      between = λ xs u v r. record { above = 𝓛.step_low (f xs) r.mid; below = 𝓛.step_high (f xs) r.mid };
    }
    restricted_laws (suc k) = record {
      mono = λ {xs} {ys} u v r r' p ha hb.
          level_under (λ c. res k (c ∷ xs)) (keeps k (restricted_laws k) xs) (λ c. res k (c ∷ ys)) (keeps k (restricted_laws k) ys) (under k (restricted_laws k) p)
          (sign k) (least_among sign (suc k)) (greatest_among sign (suc k)) u v r r' ha hb;
      between = λ xs u v r.
          level_between (λ c. res k (c ∷ xs)) (keeps k (restricted_laws k) xs) (sign k) (least_among sign (suc k)) (greatest_among sign (suc k)) u v r;
    }

    -- the same of one level's function of its argument
    pub level_keeps : (k : ℕ) (xs : List C) → Keeps 𝓥 (λ c. restricted 𝓥 sign f k (c ∷ xs))
    level_keeps k = keeps k (restricted_laws k)

    pub level_below : (k : ℕ) {xs ys : List C} → Below 𝓥 xs ys → Under 𝓥 (λ c. restricted 𝓥 sign f k (c ∷ xs)) (λ c. restricted 𝓥 sign f k (c ∷ ys))
    level_below k = under k (restricted_laws k)
