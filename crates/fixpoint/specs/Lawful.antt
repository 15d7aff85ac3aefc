-- The laws that the theorems ask of values, and the premises that they name: monotone queries, bounds, arguments below arguments.
-- Assumes nothing.
use Rattle.std.specs.Prelude.{List, [], ◌∷◌, ◌≡◌, ◌<◌}
use Rattle.fixpoint.specs.Values.{Values}

module _ (𝓥 : Values) where
  open 𝓥 use {C, ◌⊑◌, bot, top, meet, join, step, lfp, gfp, rank}

  infix 40 ◌⊑◌
  abbrev pub Monotone : (C → C) → Type 0
  Monotone g = (x y : C) → x ⊑ y → g x ⊑ g y

  abbrev pub Bounded : (C → C) → Type 0
  Bounded g = (x : C) → (bot ⊑ g x) × (g x ⊑ top)

  pub record Lawful : Type 0 where
    pub refl⊑ : (a : C) → a ⊑ a
    pub trans⊑ : {a b c : C} → a ⊑ b → b ⊑ c → a ⊑ c
    pub antisym⊑ : {a b : C} → a ⊑ b → b ⊑ a → a ≡ b
    pub decide : (a b : C) → Dec (a ≡ b)
    pub meet_left : (a b : C) → meet a b ⊑ a
    pub meet_right : (a b : C) → meet a b ⊑ b
    pub meet_glb : {a b c : C} → c ⊑ a → c ⊑ b → c ⊑ meet a b
    pub join_left : (a b : C) → a ⊑ join a b
    pub join_right : (a b : C) → b ⊑ join a b
    pub join_lub : {a b c : C} → a ⊑ c → b ⊑ c → join a b ⊑ c
    pub step_low : {a b : C} (x : C) → a ⊑ b → a ⊑ step a b x
    pub step_high : {a b : C} (x : C) → a ⊑ b → step a b x ⊑ b
    pub step_mono : {a a' b b' x x' : C} → a ⊑ a' → b ⊑ b' → x ⊑ x' → step a b x ⊑ step a' b' x'
    -- narrower bounds that still enclose a step do not change it
    pub step_inner : {a b c e : C} (x : C) → a ⊑ c → c ⊑ step a b x → step a b x ⊑ e → e ⊑ b → step c e x ≡ step a b x
    pub lfp_fixed : (g : C → C) → Monotone g → Bounded g → g (lfp g) ≡ lfp g
    pub lfp_least : (g : C → C) → Monotone g → Bounded g → (y : C) → g y ⊑ y → lfp g ⊑ y
    pub gfp_fixed : (g : C → C) → Monotone g → Bounded g → g (gfp g) ≡ gfp g
    pub gfp_greatest : (g : C → C) → Monotone g → Bounded g → (y : C) → y ⊑ g y → y ⊑ gfp g
    pub rank_strict : {a b : C} → bot ⊑ a → a ⊑ b → b ⊑ top → (a ≡ b → ⊥) → rank a < rank b

  -- arguments, each below its partner
  pub data Below : List C → List C → Type 0 where
    nil⊑ : Below [] []
    cons⊑ : {x y : C} {xs ys : List C} → x ⊑ y → Below xs ys → Below (x ∷ xs) (y ∷ ys)

  -- a query that is monotone in every argument
  abbrev pub MonotoneQuery : (List C → C) → Type 0
  MonotoneQuery f = (xs ys : List C) → Below xs ys → f xs ⊑ f ys

  -- a lower bound within its upper bound
  pub record Range (a b : C) : Type 0 where
    pub low : bot ⊑ a
    pub mid : a ⊑ b
    pub high : b ⊑ top

  pub record Between (a x b : C) : Type 0 where
    pub above : a ⊑ x
    pub below : x ⊑ b
