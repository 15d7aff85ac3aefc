-- The built-in trees S(n, h) and their leaf counts L(n, h) (document 01, "Trees").
-- Assumes nothing.
use Rattle.std.specs.Prelude.{List, [], ◌∷◌, ◌++◌, ℕ, zero, suc, ◌/◌}
use Rattle.trees.specs.Tree.{leaves, grow}

-- The children of S(n, h), where `below m` is S(m, h - 1): those of S(n/2, h), then S(n, h - 1), then those of S((n - 1)/2, h).
-- The first number only bounds how often n is halved; n itself is enough, and then the bound shows nowhere (proofs/Built.antt).
unfoldable pub halved_children : ℕ → (ℕ → List ℕ) → ℕ → List (List ℕ)
halved_children zero below n = []
halved_children (suc m) below zero = []
halved_children (suc m) below (suc n) =
    halved_children m below (suc n / 2) ++ below (suc n) ∷ halved_children m below (n / 2)

-- S(n, h), for n of 1 or more
unfoldable pub built : ℕ → ℕ → List ℕ
built n zero = []
built n (suc h) = grow (suc h) (halved_children n (λ m. built m h) n)

-- the children of S(n, h + 1); S(0, h + 1) has none
abbrev pub built_children : ℕ → ℕ → List (List ℕ)
built_children n h = halved_children n (λ m. built m h) n

-- L(n, h)
unfoldable pub leaf_count : ℕ → ℕ → ℕ
leaf_count zero h = 0
leaf_count (suc n) h = leaves (built (suc n) h)
