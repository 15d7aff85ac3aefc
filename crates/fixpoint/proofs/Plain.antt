-- A plain run settles within n + 1 rounds a level, where n is what the rank spans: its value is the nested fixpoint, and a larger bound
-- on the rounds changes neither value nor queries. Each level's rounds are a chain from its start; a greatest level's is one upside down.
-- Assumes nothing.
use mathlib.Core.Bool.{Bool, true, false, cond, true≢false}
use mathlib.Core.List.{List, ◌∷◌}
use mathlib.Core.Path.{◌≡◌, refl, sym, ◌∙◌, ap, subst, fun_ext}
use Prim.Native.Nat.{ℕ, zero, suc, ◌+◌, ◌≤◌, ◌<◌}
use native.Mathlib.Omega.{arith}
use Rattle.fixpoint.specs.Values.{Values}
use Rattle.fixpoint.specs.Lawful.{Lawful, Monotone, Bounded, MonotoneQuery, Range, Between}
use Rattle.fixpoint.specs.Nested.{nested, extreme}
use Rattle.fixpoint.specs.Plain.{Run, then_rounds, settle, plain}
use Rattle.fixpoint.proofs.Order.{eq_le, between_bounded, rank_mono}
use Rattle.fixpoint.proofs.Dual.{dual, dual_lawful, dual_monotone, dual_range, dual_between}
use Rattle.fixpoint.proofs.Nested.{nested_laws, level_mono}

-- a test that tells equal values
pub record Tells {C : Type 0} (same : C → C → Bool) : Type 0 where
  pub sound : {x y : C} → same x y ≡ true → x ≡ y
  pub complete : (x : C) → same x x ≡ true

-- a run makes at least one query
then_positive : {C : Type 0} (t : Bool) (r u : Run C) → 1 ≤ r.queries → 1 ≤ (then_rounds t r u).queries
unfolding then_rounds
then_positive true r u h = h
then_positive false r u h = omega arith

pub plain_positive : (𝓥 : Values) (same : 𝓥.C → 𝓥.C → Bool) (m : ℕ) (sign : ℕ → Bool) (f : List 𝓥.C → 𝓥.C) (a b : 𝓥.C) → 1 ≤ m
    → (k : ℕ) (xs : List 𝓥.C) → 1 ≤ (plain 𝓥 same m sign f a b k xs).queries
unfolding plain settle
plain_positive 𝓥 same zero sign f a b h k xs = absurd (omega arith)
plain_positive 𝓥 same (suc m) sign f a b h zero xs = omega arith
plain_positive 𝓥 same (suc m) sign f a b h (suc k) xs =
    then_positive (same (plain 𝓥 same (suc m) sign f a b k (cond (sign k) b a ∷ xs)).value (cond (sign k) b a)) (plain 𝓥 same (suc m) sign f a b k (cond (sign k) b a ∷ xs)) _
    (plain_positive 𝓥 same (suc m) sign f a b h k (cond (sign k) b a ∷ xs))

-- a value on the way up, with m rounds left, which are more than the rank has room for
record Rising (𝓥 : Values) (g : 𝓥.C → 𝓥.C) (m : ℕ) (x : 𝓥.C) : Type 0 where
  low : 𝓥.◌⊑◌ 𝓥.bot x
  rises : 𝓥.◌⊑◌ x (g x)
  room : 𝓥.rank 𝓥.top < 𝓥.rank x + m

-- one least level, from its start
module _ (𝓥 : Values) (𝓛 : Lawful 𝓥) (same : 𝓥.C → 𝓥.C → Bool) (tells : Tells same) (n : ℕ) (span : 𝓥.rank 𝓥.top ≤ 𝓥.rank 𝓥.bot + n)
    (a b : 𝓥.C) (range : Range 𝓥 a b) (g : 𝓥.C → 𝓥.C) (g-mono : Monotone 𝓥 g) (g-between : (x : 𝓥.C) → Between 𝓥 a (g x) b)
    (round : 𝓥.C → Run 𝓥.C) (round-value : (x : 𝓥.C) → (round x).value ≡ g x) where
  open 𝓥 use {C, ◌⊑◌, bot, top, lfp, rank}
  open 𝓛 use {refl⊑, trans⊑, antisym⊑}

  infix 40 ◌⊑◌
  g_bounded : Bounded 𝓥 g
  g_bounded x = between_bounded 𝓥 𝓛 range (g-between x)

  no_room : {x : C} → Rising 𝓥 g zero x → ⊥
  no_room {x} r =
      let p : rank x ≤ rank top = rank_mono 𝓥 𝓛 r.low (trans⊑ r.rises (g_bounded x).1) (refl⊑ top) in
      omega (arith, r.room)

  -- a round that changes something goes up
  next : {m : ℕ} {x : C} → Rising 𝓥 g (suc m) x → same (round x).value x ≡ false → Rising 𝓥 g m (round x).value
  next {m} {x} r e =
      rw (round-value x)
      (let up : rank x < rank (g x) = 𝓛.rank_strict r.low r.rises (g_bounded x).1 (λ q. true≢false (sym (tells.complete x) ∙ ap (λ (z : C). same z x) (q ∙ sym (round-value x)) ∙ e)) in
      record { low = (g_bounded x).0; rises = g-mono x (g x) r.rises; room = omega (arith, r.room) })

  settle_value : (m : ℕ) (x : C) → Rising 𝓥 g m x → x ⊑ lfp g → (settle same round m x).value ≡ lfp g
  unfolding settle then_rounds
  settle_value zero x r h = absurd (no_room r)
  settle_value (suc m) x r h = go (same (round x).value x) refl (settle_value m (round x).value)
    where
      go : (t : Bool) → same (round x).value x ≡ t → (Rising 𝓥 g m (round x).value → (round x).value ⊑ lfp g → (settle same round m (round x).value).value ≡ lfp g)
          → (then_rounds (same (round x).value x) (round x) (settle same round m (round x).value)).value ≡ lfp g
      go true e ih =
          let q : (round x).value ≡ x = tells.sound e in
          rw e (q ∙ antisym⊑ h (𝓛.lfp_least g g-mono g_bounded x (eq_le 𝓥 𝓛 (sym (round-value x) ∙ q))))
      go false e ih =
          rw e (ih (next r e) (subst (λ (z : C). z ⊑ lfp g) (sym (round-value x)) (trans⊑ (g-mono x (lfp g) h) (eq_le 𝓥 𝓛 (𝓛.lfp_fixed g g-mono g_bounded)))))

  settle_bound : (m m' : ℕ) (x : C) → Rising 𝓥 g m x → Rising 𝓥 g m' x → settle same round m x ≡ settle same round m' x
  unfolding settle then_rounds
  settle_bound zero m' x r r' = absurd (no_room r)
  settle_bound (suc m) zero x r r' = absurd (no_room r')
  settle_bound (suc m) (suc m') x r r' = go (same (round x).value x) refl (settle_bound m m' (round x).value)
    where
      go : (t : Bool) → same (round x).value x ≡ t
          → (Rising 𝓥 g m (round x).value → Rising 𝓥 g m' (round x).value → settle same round m (round x).value ≡ settle same round m' (round x).value)
          → then_rounds (same (round x).value x) (round x) (settle same round m (round x).value) ≡ then_rounds (same (round x).value x) (round x) (settle same round m' (round x).value)
      go true e ih = rw e
      go false e ih = rw (e, ih (next r e) (next r' e))

  from_low : (m : ℕ) → n < m → Rising 𝓥 g m a
  from_low m h =
      let low : rank bot ≤ rank a = rank_mono 𝓥 𝓛 (refl⊑ bot) range.low (trans⊑ range.mid range.high) in
      record { low = range.low; rises = (g-between a).above; room = omega arith }

  least_value : (m : ℕ) → n < m → (settle same round m a).value ≡ lfp g
  least_value m h = settle_value m a (from_low m h) (trans⊑ (g-between (lfp g)).above (eq_le 𝓥 𝓛 (𝓛.lfp_fixed g g-mono g_bounded)))

  least_bound : (m m' : ℕ) → n < m → n < m' → settle same round m a ≡ settle same round m' a
  least_bound m m' h h' = settle_bound m m' a (from_low m h) (from_low m' h')

-- one level, by its sign, from its own start: a greatest level is a least one upside down
module _ (𝓥 : Values) (𝓛 : Lawful 𝓥) (same : 𝓥.C → 𝓥.C → Bool) (tells : Tells same) (n : ℕ) (span : 𝓥.rank 𝓥.top ≤ 𝓥.rank 𝓥.bot + n)
    (a b : 𝓥.C) (r : Range 𝓥 a b) where
  open 𝓥 use {C}

  module _ (g : C → C) (g-mono : Monotone 𝓥 g) (g-between : (x : C) → Between 𝓥 a (g x) b) (round : C → Run C) (round-value : (x : C) → (round x).value ≡ g x) where
    level_value : (s : Bool) (m : ℕ) → n < m → (settle same round m (cond s b a)).value ≡ extreme 𝓥 s g
    unfolding extreme
    level_value true =
        least_value (dual 𝓥) (dual_lawful 𝓥 𝓛) same tells n (omega arith) b a (dual_range 𝓥 r) g (dual_monotone 𝓥 g-mono) (λ x. dual_between 𝓥 (g-between x)) round round-value
    level_value false = least_value 𝓥 𝓛 same tells n span a b r g g-mono g-between round round-value

    level_bound : (s : Bool) (m m' : ℕ) → n < m → n < m' → settle same round m (cond s b a) ≡ settle same round m' (cond s b a)
    level_bound true =
        least_bound (dual 𝓥) (dual_lawful 𝓥 𝓛) same tells n (omega arith) b a (dual_range 𝓥 r) g (dual_monotone 𝓥 g-mono) (λ x. dual_between 𝓥 (g-between x)) round round-value
    level_bound false = least_bound 𝓥 𝓛 same tells n span a b r g g-mono g-between round round-value

  module _ (sign : ℕ → Bool) (f : List C → C) (f-mono : MonotoneQuery 𝓥 f) where
    mono_at : (k : ℕ) (xs : List C) → Monotone 𝓥 (λ x. nested 𝓥 sign f k (x ∷ xs) a b)
    mono_at k xs = level_mono 𝓥 𝓛 sign f f-mono k xs r

    between_at : (k : ℕ) (xs : List C) (x : C) → Between 𝓥 a (nested 𝓥 sign f k (x ∷ xs) a b) b
    between_at k xs x = (nested_laws 𝓥 𝓛 sign f f-mono k).between (x ∷ xs) r

    pub plain_value : (m : ℕ) → n < m → (k : ℕ) (xs : List C) → (plain 𝓥 same m sign f a b k xs).value ≡ nested 𝓥 sign f k xs a b
    unfolding plain nested
    plain_value m h zero xs = refl
    plain_value m h (suc k) xs =
        level_value (λ x. nested 𝓥 sign f k (x ∷ xs) a b) (mono_at k xs) (between_at k xs)
        (λ x. plain 𝓥 same m sign f a b k (x ∷ xs)) (λ x. plain_value m h k (x ∷ xs)) (sign k) m h

    pub plain_bound : (m m' : ℕ) → n < m → n < m' → (k : ℕ) (xs : List C) → plain 𝓥 same m sign f a b k xs ≡ plain 𝓥 same m' sign f a b k xs
    unfolding plain
    plain_bound m m' h h' zero xs = refl
    plain_bound m m' h h' (suc k) xs =
        level_bound (λ x. nested 𝓥 sign f k (x ∷ xs) a b) (mono_at k xs) (between_at k xs)
        (λ x. plain 𝓥 same m sign f a b k (x ∷ xs)) (λ x. plain_value m h k (x ∷ xs)) (sign k) m m' h h'
        ∙ ap (λ (round : C → Run C). settle same round m' (cond (sign k) b a)) (fun_ext (λ x. plain_bound m m' h h' k (x ∷ xs)))
