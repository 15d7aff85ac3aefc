-- Which variables the equation of a leaf has, and which leaves' equations have a variable: what the code finds from the gaps.
-- Assumes nothing.
use Rattle.std.specs.Prelude.{List, [], ◌∷◌, ◌⊎◌, ◌≡◌, ℕ, suc, ◌≤◌, ◌<◌, length, get_or}
use Rattle.trees.specs.Tree.{leaves}
use Rattle.system.specs.System.{sign}
use Rattle.model.specs.declared.layout.Model.{Model}
use Rattle.model.specs.Held.{system_in}
use Rattle.one_sided.specs.Explicit.{last_over, last_leaf, arguments_of}

-- The place of gap j + 1 holds the largest number up to j that is 0 or whose gap is over it, for the first `to` gaps.
abbrev pub Starts : List ℕ → List ℕ → ℕ → Type 0
Starts v before to = (j : ℕ) → j < to → get_or before (suc j) 0 ≡ last_over (get_or v j 0) v j

-- The place of each gap from `from` on holds the place of the next gap that is over it, or the number of the gaps.
abbrev pub Ends : List ℕ → List ℕ → ℕ → Type 0
Ends v over from = (j : ℕ) → from ≤ j → j < length v → suc (get_or over j 0) ≡ last_leaf (get_or v j 0) v (suc j)

-- every gap has both links
pub record Linked (v before over : List ℕ) : Type 0 where
  pub few : length v ≤ 1023
  pub starts : Starts v before (length v)
  pub ends : Ends v over 0

-- the arguments of the equation of leaf i + 1, and all its variables
abbrev pub arguments_in : List ℕ → Model → List ℕ → ℕ → List ℕ
arguments_in file m v i = arguments_of (sign (system_in file m)) v i m.levels []

abbrev pub variables_in : List ℕ → Model → List ℕ → ℕ → List ℕ
variables_in file m v i = i ∷ arguments_in file m v i

-- one of the first n entries is x
pub record Entry (xs : List ℕ) (n x : ℕ) : Type 0 where
  pub place : ℕ
  pub inside : place < n
  pub is : get_or xs place 0 ≡ x

-- the equation of leaf i + 1 has the variable y
abbrev pub Reads : List ℕ → Model → List ℕ → ℕ → ℕ → Type 0
Reads file m v i y = Entry (variables_in file m v i) (suc m.levels) y

-- Leaf i + 1 reads the variable y exactly if i is at least `from` of y and below `to` of y.
pub record Spans (file : List ℕ) (m : Model) (v from to : List ℕ) : Type 0 where
  pub within : (y : ℕ) → y ≤ leaves v → get_or to y 0 ≤ leaves v
  pub has : (i y : ℕ) → i < leaves v → Reads file m v i y → (get_or from y 0 ≤ i) × (i < get_or to y 0)
  pub only : (i y : ℕ) → y ≤ leaves v → get_or from y 0 ≤ i → i < get_or to y 0 → Reads file m v i y

-- the spans of the first d arguments, widened by the leaf i + 1
pub record Widened (args : List ℕ) (d i : ℕ) (from to from' to' : List ℕ) : Type 0 where
  pub lower : (y : ℕ) → get_or from' y 0 ≤ get_or from y 0
  pub higher : (y : ℕ) → get_or to y 0 ≤ get_or to' y 0
  pub has : (k : ℕ) → k < d → (get_or from' (get_or args k 0) 0 ≤ i) × (i < get_or to' (get_or args k 0) 0)
  pub starts : (y : ℕ) → (get_or from' y 0 ≡ get_or from y 0) ⊎ ((get_or from' y 0 ≡ i) × Entry args d y)
  pub stops : (y : ℕ) → (get_or to' y 0 ≡ get_or to y 0) ⊎ ((get_or to' y 0 ≡ suc i) × Entry args d y)
