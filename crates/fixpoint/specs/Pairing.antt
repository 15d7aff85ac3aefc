-- Values that hold two others side by side: what the theorem on them asks (proofs/Paired.antt). All is asked of values between bottom and top alone,
-- and nothing prefers the one to the other, so that it can be turned upside down.
-- Assumes nothing.
use Rattle.std.specs.Prelude.{List, [], ◌∷◌, ◌≡◌, ℕ, ◌^◌, ◌<◌}
use Rattle.sets.specs.SideBySide.{side_by_side}
use Rattle.fixpoint.specs.Values.{Values}

-- a value between bottom and top
abbrev pub Valid : (𝓥 : Values) → 𝓥.C → Type 0
Valid 𝓥 x = (𝓥.◌⊑◌ 𝓥.bot x) × (𝓥.◌⊑◌ x 𝓥.top)

pub record Pairing (𝓥₁ 𝓥₂ 𝓥 : Values) : Type 0 where
  -- two values side by side, and the two parts of a value
  pub both : 𝓥₁.C → 𝓥₂.C → 𝓥.C
  pub first : 𝓥.C → 𝓥₁.C
  pub second : 𝓥.C → 𝓥₂.C
  -- what is between bottom and top stays there, and taking apart undoes putting side by side
  pub both_valid : {x : 𝓥₁.C} {y : 𝓥₂.C} → Valid 𝓥₁ x → Valid 𝓥₂ y → Valid 𝓥 (both x y)
  pub first_valid : {z : 𝓥.C} → Valid 𝓥 z → Valid 𝓥₁ (first z)
  pub second_valid : {z : 𝓥.C} → Valid 𝓥 z → Valid 𝓥₂ (second z)
  pub first_both : {x : 𝓥₁.C} {y : 𝓥₂.C} → Valid 𝓥₁ x → Valid 𝓥₂ y → first (both x y) ≡ x
  pub second_both : {x : 𝓥₁.C} {y : 𝓥₂.C} → Valid 𝓥₁ x → Valid 𝓥₂ y → second (both x y) ≡ y
  pub both_parts : {z : 𝓥.C} → Valid 𝓥 z → both (first z) (second z) ≡ z
  -- the order and the bounded step go part by part
  pub both_mono : {x x' : 𝓥₁.C} {y y' : 𝓥₂.C} → Valid 𝓥₁ x → Valid 𝓥₁ x' → Valid 𝓥₂ y → Valid 𝓥₂ y'
      → 𝓥₁.◌⊑◌ x x' → 𝓥₂.◌⊑◌ y y' → 𝓥.◌⊑◌ (both x y) (both x' y')
  pub both_step : {a b x : 𝓥₁.C} {c e y : 𝓥₂.C} → Valid 𝓥₁ a → Valid 𝓥₁ b → Valid 𝓥₁ x → Valid 𝓥₂ c → Valid 𝓥₂ e → Valid 𝓥₂ y
      → 𝓥.step (both a c) (both b e) (both x y) ≡ both (𝓥₁.step a b x) (𝓥₂.step c e y)

-- two lists element by element, as long as the shorter
abbrev pub alongside : {A B C : Type 0} → (A → B → C) → List A → List B → List C
alongside p [] ys = []
alongside p (x ∷ xs) [] = []
alongside p (x ∷ xs) (y ∷ ys) = p x y ∷ alongside p xs ys

-- two lists of equal length, with P of each element of the first and Q of each of the second
pub data Beside {A B : Type 0} (P : A → Type 0) (Q : B → Type 0) : List A → List B → Type 0 where
  none : Beside P Q [] []
  more : {x : A} {y : B} {xs : List A} {ys : List B} → P x → Q y → Beside P Q xs ys → Beside P Q (x ∷ xs) (y ∷ ys)

-- arguments that are sets, each with its partner of the other list behind its n lines
abbrev pub sets_alongside : ℕ → List ℕ → List ℕ → List ℕ
sets_alongside n xs ys = alongside (side_by_side n) xs ys

-- as many sets of n₁ lines as of n₂
abbrev pub SetsBeside : ℕ → ℕ → List ℕ → List ℕ → Type 0
SetsBeside n₁ n₂ = Beside (λ x. x < 2 ^ n₁) (λ y. y < 2 ^ n₂)
