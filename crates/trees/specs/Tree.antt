-- Ordered trees whose leaves are equally deep, as gap lists (document 01, "Trees"): a tree with w leaves is w - 1 gaps,
-- and a gap says how many edges up two neighbouring leaves first meet.
-- Assumes nothing.
use Rattle.std.specs.Prelude.{cond, List, [], ◌∷◌, ◌++◌, ℕ, ◌+◌, ◌≤◌, eqb, length}

abbrev pub leaves : List ℕ → ℕ
leaves gaps = length gaps + 1

-- a gap list of height h: every gap is from 1 to h
pub data IsTree (h : ℕ) : List ℕ → Type 0 where
  leaf : IsTree h []
  gap : {g : ℕ} {gs : List ℕ} → 1 ≤ g → g ≤ h → IsTree h gs → IsTree h (g ∷ gs)

-- g in front of the first of some gap lists
abbrev pub onto_first : ℕ → List (List ℕ) → List (List ℕ)
onto_first g [] = (g ∷ []) ∷ []
onto_first g (p ∷ ps) = (g ∷ p) ∷ ps

-- the root's children, for a tree of height h: the parts between gaps equal to h
unfoldable pub children : ℕ → List ℕ → List (List ℕ)
children h [] = [] ∷ []
children h (g ∷ gs) = cond (eqb g h) ([] ∷ children h gs) (onto_first g (children h gs))

-- the tree of height h with these children
unfoldable pub grow : ℕ → List (List ℕ) → List ℕ
grow h [] = []
grow h (p ∷ []) = p
grow h (p ∷ q ∷ ps) = p ++ h ∷ grow h (q ∷ ps)
