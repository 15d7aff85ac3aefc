-- The nested fixpoint of a query between two bounds (document 01, "Bounds").
-- Assumes nothing.
use Rattle.std.specs.Prelude.{Bool, true, false, List, ◌∷◌, ℕ, zero, suc}
use Rattle.fixpoint.specs.Values.{Values}

-- the extreme fixed point that a sign names
unfoldable pub extreme : (𝓥 : Values) → Bool → (𝓥.C → 𝓥.C) → 𝓥.C
extreme 𝓥 true g = 𝓥.gfp g
extreme 𝓥 false g = 𝓥.lfp g

module _ (𝓥 : Values) (sign : ℕ → Bool) (f : List 𝓥.C → 𝓥.C) where
  open 𝓥 use {C, step}

  -- The nested fixpoint of the levels k, .., 1. The arguments of the levels outside are xs, innermost first,
  -- so that with no level left xs is the whole list of arguments, level 1 first.
  unfoldable pub nested : ℕ → List C → C → C → C
  nested zero xs a b = step a b (f xs)
  nested (suc k) xs a b = extreme 𝓥 (sign k) (λ x. nested k (x ∷ xs) a b)
