-- Bounds that enclose a nested fixpoint do not change it (document 001, Proposition 2.3): a meet with the lower bound brings
-- the level below to bear at a least level, and a greatest level is a least level upside down.
-- Assumes nothing.
use mathlib.Core.Bool.{Bool, true, false}
use mathlib.Core.List.{List, ◌∷◌}
use mathlib.Core.Path.{◌≡◌, sym, ◌∙◌, subst}
use Prim.Native.Nat.{ℕ, zero, suc}
use Rattle.fixpoint.specs.Values.{Values}
use Rattle.fixpoint.specs.Lawful.{Lawful, Monotone, Bounded, MonotoneQuery, cons⊑, Range, Between}
use Rattle.fixpoint.specs.Nested.{nested, extreme}
use Rattle.fixpoint.proofs.Order.{eq_le, below_refl, between_bounded}
use Rattle.fixpoint.proofs.Dual.{dual, dual_lawful, dual_between, dual_range, range_dual}
use Rattle.fixpoint.proofs.Nested.{nested_laws}

-- bounds c, e inside a, b that still enclose the value v
pub record Inside (𝓥 : Values) (a b c e v : 𝓥.C) : Type 0 where
  pub outer : Range 𝓥 a b
  pub ac : 𝓥.◌⊑◌ a c
  pub cv : 𝓥.◌⊑◌ c v
  pub ve : 𝓥.◌⊑◌ v e
  pub eb : 𝓥.◌⊑◌ e b

inside_dual : (𝓥 : Values) {a b c e v : 𝓥.C} → Inside (dual 𝓥) b a e c v → Inside 𝓥 a b c e v
inside_dual 𝓥 i = record { outer = range_dual 𝓥 i.outer; ac = i.eb; cv = i.ve; ve = i.cv; eb = i.ac }

dual_inside : (𝓥 : Values) {a b c e v : 𝓥.C} → Inside 𝓥 a b c e v → Inside (dual 𝓥) b a e c v
dual_inside 𝓥 i = record { outer = dual_range 𝓥 i.outer; ac = i.eb; cv = i.ve; ve = i.cv; eb = i.ac }

-- what one level is asked: `v a b x` is the value of the levels below, between a and b, at the argument x
record Level (𝓥 : Values) (v : 𝓥.C → 𝓥.C → 𝓥.C → 𝓥.C) : Type 0 where
  mono : {a a' b b' x y : 𝓥.C} → Range 𝓥 a b → Range 𝓥 a' b' → 𝓥.◌⊑◌ a a' → 𝓥.◌⊑◌ b b' → 𝓥.◌⊑◌ x y → 𝓥.◌⊑◌ (v a b x) (v a' b' y)
  between : {a b : 𝓥.C} (x : 𝓥.C) → Range 𝓥 a b → Between 𝓥 a (v a b x) b
  narrow : (x a b c e : 𝓥.C) → Inside 𝓥 a b c e (v a b x) → v c e x ≡ v a b x

-- a least level
module _ (𝓥 : Values) (𝓛 : Lawful 𝓥) (v : 𝓥.C → 𝓥.C → 𝓥.C → 𝓥.C) (L : Level 𝓥 v) where
  open 𝓥 use {C, ◌⊑◌, meet, lfp}
  open 𝓛 use {refl⊑, trans⊑, antisym⊑}

  infix 40 ◌⊑◌
  mono_at : {a b : C} → Range 𝓥 a b → Monotone 𝓥 (v a b)
  mono_at {a} {b} r x y = L.mono r r (refl⊑ a) (refl⊑ b)

  bounded_at : {a b : C} → Range 𝓥 a b → Bounded 𝓥 (v a b)
  bounded_at r x = between_bounded 𝓥 𝓛 r (L.between x r)

  narrow_least : (a b c e : C) → Inside 𝓥 a b c e (lfp (v a b)) → lfp (v c e) ≡ lfp (v a b)
  narrow_least a b c e i =
      let r : Range 𝓥 a b = i.outer in
      let r' : Range 𝓥 c e = record { low = trans⊑ r.low i.ac; mid = trans⊑ i.cv i.ve; high = trans⊑ i.eb r.high } in
      let wide : C = lfp (v a b) in
      let thin : C = lfp (v c e) in
      let fixed : v a b wide ≡ wide = 𝓛.lfp_fixed (v a b) (mono_at r) (bounded_at r) in
      let fixed' : v c e wide ≡ wide = L.narrow wide a b c e (subst (λ (z : C). Inside 𝓥 a b c e z) (sym fixed) i) ∙ fixed in
      let down : thin ⊑ wide = 𝓛.lfp_least (v c e) (mono_at r') (bounded_at r') wide (eq_le 𝓥 𝓛 fixed') in
      let y : C = v a b thin in
      let w : Between 𝓥 a y b = L.between thin r in
      let ye : y ⊑ e = trans⊑ (mono_at r thin wide down) (trans⊑ (eq_le 𝓥 𝓛 fixed) i.ve) in
      let m : Inside 𝓥 a b (meet c y) e y = record { outer = r; ac = 𝓛.meet_glb i.ac w.above; cv = 𝓛.meet_right c y; ve = ye; eb = i.eb } in
      let rm : Range 𝓥 (meet c y) e = record { low = trans⊑ r.low m.ac; mid = trans⊑ m.cv ye; high = r'.high } in
      let q : v (meet c y) e thin ≡ y = L.narrow thin a b (meet c y) e m in
      let up : y ⊑ v c e thin = trans⊑ (eq_le 𝓥 𝓛 (sym q)) (L.mono rm r' (𝓛.meet_left c y) (refl⊑ e) (refl⊑ thin)) in
      antisym⊑ down (𝓛.lfp_least (v a b) (mono_at r) (bounded_at r) thin (trans⊑ up (eq_le 𝓥 𝓛 (𝓛.lfp_fixed (v c e) (mono_at r') (bounded_at r')))))

dual_level : (𝓥 : Values) (v : 𝓥.C → 𝓥.C → 𝓥.C → 𝓥.C) → Level 𝓥 v → Level (dual 𝓥) (λ b a. v a b)
dual_level 𝓥 v L = record {
  mono = λ r r' ha hb h. L.mono (range_dual 𝓥 r') (range_dual 𝓥 r) hb ha h;
  between = λ x r. dual_between 𝓥 (L.between x (range_dual 𝓥 r));
  narrow = λ x b a e c i. L.narrow x a b c e (inside_dual 𝓥 i);
}

module _ (𝓥 : Values) (𝓛 : Lawful 𝓥) where
  open 𝓥 use {C}

  narrow_level : (s : Bool) (v : C → C → C → C) → Level 𝓥 v → (a b c e : C) → Inside 𝓥 a b c e (extreme 𝓥 s (v a b)) → extreme 𝓥 s (v c e) ≡ extreme 𝓥 s (v a b)
  unfolding extreme
  narrow_level true v L a b c e i = narrow_least (dual 𝓥) (dual_lawful 𝓥 𝓛) (λ b a. v a b) (dual_level 𝓥 v L) b a e c (dual_inside 𝓥 i)
  narrow_level false v L a b c e i = narrow_least 𝓥 𝓛 v L a b c e i

  pub narrow : (sign : ℕ → Bool) (f : List C → C) → MonotoneQuery 𝓥 f → (k : ℕ) (xs : List C) (a b c e : C)
      → Inside 𝓥 a b c e (nested 𝓥 sign f k xs a b) → nested 𝓥 sign f k xs c e ≡ nested 𝓥 sign f k xs a b
  unfolding nested
  narrow sign f f-mono zero xs a b c e i = 𝓛.step_inner (f xs) i.ac i.cv i.ve i.eb
  narrow sign f f-mono (suc k) xs a b c e i =
      narrow_level (sign k) (λ a b x. nested 𝓥 sign f k (x ∷ xs) a b)
      (record {
        mono = λ r r' ha hb h. (nested_laws 𝓥 𝓛 sign f f-mono k).mono r r' (cons⊑ h (below_refl 𝓥 𝓛 xs)) ha hb;
        between = λ x r. (nested_laws 𝓥 𝓛 sign f f-mono k).between (x ∷ xs) r;
        narrow = λ x. narrow sign f f-mono k (x ∷ xs);
      })
      a b c e i
