-- The extreme fixed points, and with them the nested fixpoint, of values that hold two others side by side are those of the two, side by side.
-- Each value between bottom and top is made of two parts, so the parts of a fixed point are fixed points. A greatest fixed point is a least one upside down.
-- Assumes nothing.
use mathlib.Core.Bool.{Bool, true, false}
use mathlib.Core.List.{List, ◌∷◌}
use mathlib.Core.Path.{◌≡◌, sym, ◌∙◌, ap, ap₂, subst}
use mathlib.Mathlib.Logic.Function.Defs.Prod.{swap}
use Prim.Native.Nat.{ℕ, zero, suc}
use Rattle.fixpoint.specs.Values.{Values}
use Rattle.fixpoint.specs.Lawful.{Lawful, Monotone, Bounded, MonotoneQuery, Range}
use Rattle.fixpoint.specs.Nested.{nested, extreme}
use Rattle.fixpoint.specs.Pairing.{Valid, Pairing, alongside, Beside, more}
use Rattle.fixpoint.proofs.Order.{eq_le}
use Rattle.fixpoint.proofs.Dual.{dual, dual_lawful, dual_monotone, dual_bounded}
use Rattle.fixpoint.proofs.Nested.{level_mono, level_bounded}

-- a monotone and bounded function, as one premise
record MonotoneBounded (𝓥 : Values) (g : 𝓥.C → 𝓥.C) : Type 0 where
  monotone : Monotone 𝓥 g
  bounded : Bounded 𝓥 g

-- g and h side by side are G
abbrev Parts : {𝓥₁ 𝓥₂ 𝓥 : Values} → Pairing 𝓥₁ 𝓥₂ 𝓥 → (𝓥₁.C → 𝓥₁.C) → (𝓥₂.C → 𝓥₂.C) → (𝓥.C → 𝓥.C) → Type 0
Parts {𝓥₁} {𝓥₂} {𝓥} 𝓟 g h G = (x : 𝓥₁.C) (y : 𝓥₂.C) → Valid 𝓥₁ x → Valid 𝓥₂ y → G (𝓟.both x y) ≡ 𝓟.both (g x) (h y)

module _ (𝓥 : Values) (𝓛 : Lawful 𝓥) (g : 𝓥.C → 𝓥.C) (s : MonotoneBounded 𝓥 g) where
  lfp_valid : Valid 𝓥 (𝓥.lfp g)
  lfp_valid = subst (Valid 𝓥) (𝓛.lfp_fixed g s.monotone s.bounded) (s.bounded (𝓥.lfp g))

module _ (𝓥₁ 𝓥₂ 𝓥 : Values) (𝓛₁ : Lawful 𝓥₁) (𝓛₂ : Lawful 𝓥₂) (𝓛 : Lawful 𝓥) (𝓟 : Pairing 𝓥₁ 𝓥₂ 𝓥) where
  open 𝓥 use {C, ◌⊑◌}
  open 𝓟 use {both, first, second}

  infix 40 ◌⊑◌
  -- The two least fixed points side by side are fixed by G, so its least is below them. The parts of its least are fixed by g and h, so they are above.
  lfp_both : (g : 𝓥₁.C → 𝓥₁.C) (h : 𝓥₂.C → 𝓥₂.C) (G : C → C) → MonotoneBounded 𝓥₁ g → MonotoneBounded 𝓥₂ h → MonotoneBounded 𝓥 G → Parts 𝓟 g h G
      → 𝓥.lfp G ≡ both (𝓥₁.lfp g) (𝓥₂.lfp h)
  lfp_both g h G sg sh sG parts =
      let p : 𝓥₁.C = 𝓥₁.lfp g in
      let q : 𝓥₂.C = 𝓥₂.lfp h in
      let vp : Valid 𝓥₁ p = lfp_valid 𝓥₁ 𝓛₁ g sg in
      let vq : Valid 𝓥₂ q = lfp_valid 𝓥₂ 𝓛₂ h sh in
      let fixed : G (both p q) ≡ both p q
      = parts p q vp vq ∙ ap₂ both (𝓛₁.lfp_fixed g sg.monotone sg.bounded) (𝓛₂.lfp_fixed h sh.monotone sh.bounded) in
      let down : 𝓥.lfp G ⊑ both p q = 𝓛.lfp_least G sG.monotone sG.bounded (both p q) (eq_le 𝓥 𝓛 fixed) in
      let z : C = 𝓥.lfp G in
      let vz : Valid 𝓥 z = lfp_valid 𝓥 𝓛 G sG in
      let vx : Valid 𝓥₁ (first z) = 𝓟.first_valid vz in
      let vy : Valid 𝓥₂ (second z) = 𝓟.second_valid vz in
      let whole : both (first z) (second z) ≡ z = 𝓟.both_parts vz in
      let split : both (g (first z)) (h (second z)) ≡ z = sym (parts (first z) (second z) vx vy) ∙ ap G whole ∙ 𝓛.lfp_fixed G sG.monotone sG.bounded in
      let fixed₁ : g (first z) ≡ first z = sym (𝓟.first_both (sg.bounded (first z)) (sh.bounded (second z))) ∙ ap first split in
      let fixed₂ : h (second z) ≡ second z = sym (𝓟.second_both (sg.bounded (first z)) (sh.bounded (second z))) ∙ ap second split in
      let up₁ : 𝓥₁.◌⊑◌ p (first z) = 𝓛₁.lfp_least g sg.monotone sg.bounded (first z) (eq_le 𝓥₁ 𝓛₁ fixed₁) in
      let up₂ : 𝓥₂.◌⊑◌ q (second z) = 𝓛₂.lfp_least h sh.monotone sh.bounded (second z) (eq_le 𝓥₂ 𝓛₂ fixed₂) in
      𝓛.antisym⊑ down (𝓛.trans⊑ (𝓟.both_mono vp vx vq vy up₁ up₂) (eq_le 𝓥 𝓛 whole))

-- upside down
dual_premise : (𝓥 : Values) {g : 𝓥.C → 𝓥.C} → MonotoneBounded 𝓥 g → MonotoneBounded (dual 𝓥) g
dual_premise 𝓥 s = record { monotone = dual_monotone 𝓥 s.monotone; bounded = dual_bounded 𝓥 s.bounded }

dual_pairing : (𝓥₁ 𝓥₂ 𝓥 : Values) → Pairing 𝓥₁ 𝓥₂ 𝓥 → Pairing (dual 𝓥₁) (dual 𝓥₂) (dual 𝓥)
dual_pairing 𝓥₁ 𝓥₂ 𝓥 𝓟 = record {
  both = 𝓟.both;
  first = 𝓟.first;
  second = 𝓟.second;
  both_valid = λ p q. swap (𝓟.both_valid (swap p) (swap q));
  first_valid = λ p. swap (𝓟.first_valid (swap p));
  second_valid = λ p. swap (𝓟.second_valid (swap p));
  first_both = λ p q. 𝓟.first_both (swap p) (swap q);
  second_both = λ p q. 𝓟.second_both (swap p) (swap q);
  both_parts = λ p. 𝓟.both_parts (swap p);
  both_mono = λ p p' q q' h k. 𝓟.both_mono (swap p') (swap p) (swap q') (swap q) h k;
  both_step = λ a b x c e y. 𝓟.both_step (swap b) (swap a) (swap x) (swap e) (swap c) (swap y);
}

module _ (𝓥₁ 𝓥₂ 𝓥 : Values) (𝓛₁ : Lawful 𝓥₁) (𝓛₂ : Lawful 𝓥₂) (𝓛 : Lawful 𝓥) (𝓟 : Pairing 𝓥₁ 𝓥₂ 𝓥) where
  open 𝓥 use {C}
  open 𝓟 use {both}

  extreme_both : (s : Bool) (g : 𝓥₁.C → 𝓥₁.C) (h : 𝓥₂.C → 𝓥₂.C) (G : C → C) → MonotoneBounded 𝓥₁ g → MonotoneBounded 𝓥₂ h → MonotoneBounded 𝓥 G → Parts 𝓟 g h G
      → extreme 𝓥 s G ≡ both (extreme 𝓥₁ s g) (extreme 𝓥₂ s h)
  unfolding extreme dual_pairing
  extreme_both true g h G sg sh sG parts =
      lfp_both (dual 𝓥₁) (dual 𝓥₂) (dual 𝓥) (dual_lawful 𝓥₁ 𝓛₁) (dual_lawful 𝓥₂ 𝓛₂) (dual_lawful 𝓥 𝓛) (dual_pairing 𝓥₁ 𝓥₂ 𝓥 𝓟) g h G
      (dual_premise 𝓥₁ sg) (dual_premise 𝓥₂ sh) (dual_premise 𝓥 sG) (λ x y p q. parts x y (swap p) (swap q))
  extreme_both false g h G sg sh sG parts = lfp_both 𝓥₁ 𝓥₂ 𝓥 𝓛₁ 𝓛₂ 𝓛 𝓟 g h G sg sh sG parts

-- one level of a nested fixpoint
level_premise : (𝓥 : Values) → Lawful 𝓥 → (sign : ℕ → Bool) (f : List 𝓥.C → 𝓥.C) → MonotoneQuery 𝓥 f → (k : ℕ) (xs : List 𝓥.C) {a b : 𝓥.C} → Range 𝓥 a b
    → MonotoneBounded 𝓥 (λ x. nested 𝓥 sign f k (x ∷ xs) a b)
level_premise 𝓥 𝓛 sign f f-mono k xs r = record { monotone = level_mono 𝓥 𝓛 sign f f-mono k xs r; bounded = level_bounded 𝓥 𝓛 sign f f-mono k xs r }

module _ (𝓥 : Values) (𝓛 : Lawful 𝓥) {a b : 𝓥.C} (r : Range 𝓥 a b) where
  low_valid : Valid 𝓥 a
  low_valid = (r.low, 𝓛.trans⊑ r.mid r.high)

  high_valid : Valid 𝓥 b
  high_valid = (𝓛.trans⊑ r.low r.mid, r.high)

module _ (𝓥₁ 𝓥₂ 𝓥 : Values) (𝓛₁ : Lawful 𝓥₁) (𝓛₂ : Lawful 𝓥₂) (𝓛 : Lawful 𝓥) (𝓟 : Pairing 𝓥₁ 𝓥₂ 𝓥) where
  open 𝓥 use {C}
  open 𝓟 use {both}

  -- bounds side by side
  range_both : {a b : 𝓥₁.C} {c e : 𝓥₂.C} → Range 𝓥₁ a b → Range 𝓥₂ c e → Range 𝓥 (both a c) (both b e)
  range_both r s =
      let va = low_valid 𝓥₁ 𝓛₁ r in
      let vb = high_valid 𝓥₁ 𝓛₁ r in
      let vc = low_valid 𝓥₂ 𝓛₂ s in
      let ve = high_valid 𝓥₂ 𝓛₂ s in
      record { low = (𝓟.both_valid va vc).0; mid = 𝓟.both_mono va vb vc ve r.mid s.mid; high = (𝓟.both_valid vb ve).1 }

  -- a query whose value at arguments side by side is the values of f₁ and f₂, side by side
  module _ (sign : ℕ → Bool) (f₁ : List 𝓥₁.C → 𝓥₁.C) (f₂ : List 𝓥₂.C → 𝓥₂.C) (f : List C → C)
      (mono₁ : MonotoneQuery 𝓥₁ f₁) (mono₂ : MonotoneQuery 𝓥₂ f₂) (mono : MonotoneQuery 𝓥 f)
      (valid₁ : (xs : List 𝓥₁.C) → Valid 𝓥₁ (f₁ xs)) (valid₂ : (ys : List 𝓥₂.C) → Valid 𝓥₂ (f₂ ys))
      (splits : (xs : List 𝓥₁.C) (ys : List 𝓥₂.C) → Beside (Valid 𝓥₁) (Valid 𝓥₂) xs ys → f (alongside both xs ys) ≡ both (f₁ xs) (f₂ ys)) where
    pub nested_both : (k : ℕ) {xs : List 𝓥₁.C} {ys : List 𝓥₂.C} {a b : 𝓥₁.C} {c e : 𝓥₂.C} → Beside (Valid 𝓥₁) (Valid 𝓥₂) xs ys → Range 𝓥₁ a b → Range 𝓥₂ c e
        → nested 𝓥 sign f k (alongside both xs ys) (both a c) (both b e) ≡ both (nested 𝓥₁ sign f₁ k xs a b) (nested 𝓥₂ sign f₂ k ys c e)
    unfolding nested
    nested_both zero {xs} {ys} {a} {b} {c} {e} w r s =
        ap (𝓥.step (both a c) (both b e)) (splits xs ys w)
        ∙ 𝓟.both_step (low_valid 𝓥₁ 𝓛₁ r) (high_valid 𝓥₁ 𝓛₁ r) (valid₁ xs) (low_valid 𝓥₂ 𝓛₂ s) (high_valid 𝓥₂ 𝓛₂ s) (valid₂ ys)
    nested_both (suc k) {xs} {ys} {a} {b} {c} {e} w r s =
        extreme_both 𝓥₁ 𝓥₂ 𝓥 𝓛₁ 𝓛₂ 𝓛 𝓟 (sign k)
        (λ x. nested 𝓥₁ sign f₁ k (x ∷ xs) a b) (λ y. nested 𝓥₂ sign f₂ k (y ∷ ys) c e) (λ z. nested 𝓥 sign f k (z ∷ alongside both xs ys) (both a c) (both b e))
        (level_premise 𝓥₁ 𝓛₁ sign f₁ mono₁ k xs r) (level_premise 𝓥₂ 𝓛₂ sign f₂ mono₂ k ys s) (level_premise 𝓥 𝓛 sign f mono k (alongside both xs ys) (range_both r s))
        (λ x y p q. nested_both k (more p q w) r s)
