-- When one tree fits in another, and universal trees (document 01, "Trees").
-- Assumes nothing.
use Rattle.std.specs.Prelude.{List, [], ◌∷◌, ℕ, zero, suc, ◌≤◌}
use Rattle.trees.specs.Tree.{IsTree, leaves, children}

-- the first trees stand, in order and each under R, in different places of the second
pub data Placed (R : List ℕ → List ℕ → Type 0) : List (List ℕ) → List (List ℕ) → Type 0 where
  done : {us : List (List ℕ)} → Placed R [] us
  here : {t u : List ℕ} {ts us : List (List ℕ)} → R t u → Placed R ts us → Placed R (t ∷ ts) (u ∷ us)
  skip : {u : List ℕ} {ts us : List (List ℕ)} → Placed R ts us → Placed R ts (u ∷ us)

-- t fits in u, both of height h
unfoldable pub FitsIn : ℕ → List ℕ → List ℕ → Type 0
FitsIn zero t u = Unit {0}
FitsIn (suc h) t u = Placed (FitsIn h) (children (suc h) t) (children (suc h) u)

-- u, of height h, is universal for n: every tree of its height with 1 to n leaves fits in it
unfoldable pub Universal : ℕ → ℕ → List ℕ → Type 0
Universal n h u = (t : List ℕ) → IsTree h t → leaves t ≤ n → FitsIn h t u
