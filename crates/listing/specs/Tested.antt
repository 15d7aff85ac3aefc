-- The test whether a tree fits in another, by placing children as early as they can be; the test whether a tree is universal, by the trees with exactly n leaves;
-- and the first of these that does not fit (request W10). That the tests decide `FitsIn` and `Universal` is proved (proofs/Tested, proofs/Universal).
-- Assumes nothing.
use Rattle.std.specs.Prelude.{Bool, true, false, cond, List, [], ◌∷◌, ℕ, zero, suc}
use Rattle.trees.specs.Tree.{children}
use Rattle.listing.specs.Listed.{trees_of}

-- Over the places us in order: the first tree that has none yet takes a place where it passes the test. Whether none is left over.
unfoldable pub place_all : (List ℕ → List ℕ → Bool) → List (List ℕ) → List (List ℕ) → Bool
place_all test [] [] = true
place_all test (t ∷ ts) [] = false
place_all test [] (u ∷ us) = true
place_all test (t ∷ ts) (u ∷ us) = place_all test (cond (test t u) ts (t ∷ ts)) us

-- whether t fits in u, both of height h
unfoldable pub fits : ℕ → List ℕ → List ℕ → Bool
fits zero t u = true
fits (suc h) t u = place_all (fits h) (children (suc h) t) (children (suc h) u)

-- whether all of some trees pass a test
unfoldable pub all_pass : (List ℕ → Bool) → List (List ℕ) → Bool
all_pass test [] = true
all_pass test (t ∷ ts) = cond (test t) (all_pass test ts) false

-- whether u, of height h, is universal for n: the trees with exactly n leaves are enough
unfoldable pub is_universal : ℕ → ℕ → List ℕ → Bool
is_universal n h u = all_pass (λ t. fits h t u) (trees_of h n)

-- the first of some trees that fails a test; where none does, the tree of one leaf
unfoldable pub first_failing : (List ℕ → Bool) → List (List ℕ) → List ℕ
first_failing test [] = []
first_failing test (t ∷ ts) = cond (test t) (first_failing test ts) t

-- the first tree of height h with n leaves, in dictionary order, that does not fit in u
unfoldable pub first_misfit : ℕ → ℕ → List ℕ → List ℕ
first_misfit n h u = first_failing (λ t. fits h t u) (trees_of h n)
