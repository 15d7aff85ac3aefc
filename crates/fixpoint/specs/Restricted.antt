-- The restricted value over two trees, and the queries that it makes (document 01, "Trees", its restricted set).
-- Assumes nothing.
use Rattle.std.specs.Prelude.{Bool, true, false, List, [], ◌∷◌, ℕ, zero, suc, ◌+◌}
use Rattle.trees.specs.Tree.{children}
use Rattle.fixpoint.specs.Values.{Values}
use Rattle.fixpoint.specs.Levels.{least_among, greatest_among}

module _ {C : Type 0} (below : C → C → C → List ℕ → List ℕ → C) where
  -- `below c a b u v` is the level below with this level's argument c, between a and b, over the trees u and v.

  -- A least level over the children of its tree: each moves the value, and with it the lower bound, up from a.
  unfoldable pub rise : C → List ℕ → C → List (List ℕ) → C
  rise b v a [] = a
  rise b v a (u ∷ us) = rise b v (below a a b u v) us

  -- A greatest level over the children of its tree: each moves the value, and with it the upper bound, down from b.
  unfoldable pub fall : C → List ℕ → C → List (List ℕ) → C
  fall a u b [] = b
  fall a u b (v ∷ vs) = fall a u (below b a b u v) vs

  -- one level, by its sign, over trees of the heights hu and hv
  unfoldable pub level : Bool → ℕ → ℕ → C → C → List ℕ → List ℕ → C
  level true hu hv a b u v = fall a u b (children hv v)
  level false hu hv a b u v = rise b v a (children hu u)

module _ (𝓥 : Values) (sign : ℕ → Bool) (f : List 𝓥.C → 𝓥.C) where
  open 𝓥 use {C, step}

  -- the restricted value of the levels k, .., 1; the arguments of the levels outside are xs, innermost first
  unfoldable pub restricted : ℕ → List C → C → C → List ℕ → List ℕ → C
  restricted zero xs a b u v = step a b (f xs)
  restricted (suc k) xs a b u v =
      level (λ c. restricted k (c ∷ xs)) (sign k) (least_among sign (suc k)) (greatest_among sign (suc k)) a b u v

-- the sum of what `count` gives for each of some trees
unfoldable pub sum_over : (List ℕ → ℕ) → List (List ℕ) → ℕ
sum_over count [] = 0
sum_over count (t ∷ ts) = count t + sum_over count ts

-- the queries of one level, by its sign: those of the levels below, for each child of its tree
unfoldable pub level_queries : (List ℕ → List ℕ → ℕ) → Bool → ℕ → ℕ → List ℕ → List ℕ → ℕ
level_queries below true hu hv u v = sum_over (λ w. below u w) (children hv v)
level_queries below false hu hv u v = sum_over (λ w. below w v) (children hu u)

-- the queries that the restricted value of the levels k, .., 1 makes
unfoldable pub restricted_queries : (ℕ → Bool) → ℕ → List ℕ → List ℕ → ℕ
restricted_queries sign zero u v = 1
restricted_queries sign (suc k) u v =
    level_queries (restricted_queries sign k) (sign k) (least_among sign (suc k)) (greatest_among sign (suc k)) u v
