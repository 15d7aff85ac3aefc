-- What the code of the one-sided route computes on the way. A state stands in a list from the variable 0 on: variable 0, then those of the leaves.
-- Assumes nothing.
use Rattle.std.specs.Prelude.{Bool, true, false, cond, List, map, ◌≡◌, ℕ, zero, suc, ◌+◌, ◌^◌, ◌≤◌, ◌<◌, get_or}
use Rattle.sets.specs.Set.{intersection}
use Rattle.trees.specs.Tree.{leaves}
use Rattle.system.specs.Query.{query}
use Rattle.model.specs.declared.layout.Model.{Model}
use Rattle.model.specs.Held.{system_in}
use Rattle.one_sided_leaves.specs.Leaves.{arguments_in, Entry}

-- the values of some variables
abbrev pub readings : List ℕ → List ℕ → List ℕ
readings state ys = map (λ y. get_or state y 0) ys

-- a right side by the variable i as its bound and the arguments ys
abbrev pub bounded_query : List ℕ → Model → List ℕ → ℕ → List ℕ → ℕ
bounded_query file m state i ys = intersection (get_or state i 0) (query (system_in file m) (readings state ys))

-- the right side of leaf i + 1 at the values of a state
abbrev pub right_side_at : List ℕ → Model → List ℕ → List ℕ → ℕ → ℕ
right_side_at file m v state i = bounded_query file m state i (arguments_in file m v i)

-- a stage from this state takes no line away: each variable holds lines of the model, and is within the right side of its equation
abbrev pub Grows : List ℕ → Model → List ℕ → List ℕ → Type 0
Grows file m v state =
    (i : ℕ) → i < leaves v → (get_or state i 0 < 2 ^ m.lines) × (intersection (get_or state (i + 1) 0) (right_side_at file m v state i) ≡ get_or state (i + 1) 0)

-- how many of the first w flags are set
unfoldable pub flag_count : List Bool → ℕ → ℕ
flag_count flags zero = 0
flag_count flags (suc w) = cond (get_or flags w false) (suc (flag_count flags w)) (flag_count flags w)

-- of w leaves the first `number` entries of a queue are those that are flagged, each once
pub record Queued (w : ℕ) (flags : List Bool) (queue : List ℕ) (number : ℕ) : Type 0 where
  pub inside : (p : ℕ) → p < number → get_or queue p 0 < w
  pub flagged : (p : ℕ) → p < number → get_or flags (get_or queue p 0) false ≡ true
  pub all : (i : ℕ) → i < w → get_or flags i false ≡ true → Entry queue number i
  pub counted : number ≡ flag_count flags w

-- none of w leaves is flagged
abbrev pub NoneFlagged : ℕ → List Bool → Type 0
NoneFlagged w flags = (i : ℕ) → i < w → get_or flags i false ≡ false

-- what is not flagged is in the words as in the state, and so is variable 0
pub record Carried (w : ℕ) (flags : List Bool) (state words : List ℕ) : Type 0 where
  pub first : get_or state 0 0 ≡ get_or words 0 0
  pub others : (i : ℕ) → i < w → get_or flags i false ≡ false → get_or state (i + 1) 0 ≡ get_or words (i + 1) 0

-- the right sides of the flagged leaves in the words, at the values of a state; all else in the words is as it was
pub record Evaluated (file : List ℕ) (m : Model) (v : List ℕ) (flags : List Bool) (state words words' : List ℕ) : Type 0 where
  pub due : (i : ℕ) → i < leaves v → get_or flags i false ≡ true → get_or words' (i + 1) 0 ≡ right_side_at file m v state i
  pub kept : (i : ℕ) → i < leaves v → get_or flags i false ≡ false → get_or words' (i + 1) 0 ≡ get_or words (i + 1) 0
  pub first : get_or words' 0 0 ≡ get_or words 0 0
  pub beyond : (k : ℕ) → leaves v < k → get_or words' k 0 ≡ get_or words k 0

-- The first `number` entries of a list are variables of the leaves whose value in the words is another than in the state, and all of them.
pub record Listed (w : ℕ) (state words changed : List ℕ) (number : ℕ) : Type 0 where
  pub few : number ≤ w
  pub inside : (p : ℕ) → p < number → get_or changed p 0 ≤ w
  pub other : (p : ℕ) → p < number → get_or state (get_or changed p 0) 0 ≡ get_or words (get_or changed p 0) 0 → ⊥
  pub all : (y : ℕ) → y ≤ w → (get_or state y 0 ≡ get_or words y 0 → ⊥) → Entry changed number y

-- a span more is flagged
pub record Flagged (from to : ℕ) (flags flags' : List Bool) : Type 0 where
  pub span : (i : ℕ) → from ≤ i → i < to → get_or flags' i false ≡ true
  pub kept : (i : ℕ) → get_or flags i false ≡ true → get_or flags' i false ≡ true
  pub only : (i : ℕ) → get_or flags' i false ≡ true → get_or flags i false ≡ false → (from ≤ i) × (i < to)

-- why leaf i + 1 is due: a variable whose value in the words is another than in the state has it in its span
pub record Cause (w : ℕ) (state words from to : List ℕ) (i : ℕ) : Type 0 where
  pub variable : ℕ
  pub few : variable ≤ w
  pub other : get_or state variable 0 ≡ get_or words variable 0 → ⊥
  pub after : get_or from variable 0 ≤ i
  pub up_to : i < get_or to variable 0

-- the leaves in the spans of those variables are flagged, and no others
pub record FlaggedFor (w : ℕ) (state words from to : List ℕ) (flags : List Bool) : Type 0 where
  pub all : (i : ℕ) → Cause w state words from to i → get_or flags i false ≡ true
  pub only : (i : ℕ) → i < w → get_or flags i false ≡ true → Cause w state words from to i
