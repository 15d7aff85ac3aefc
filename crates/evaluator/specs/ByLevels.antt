-- A query worked out level by level, from the outermost inwards: what the arguments of the levels above level k decide, line by line, which
-- lines the levels below still decide, and how many of its operands must still be set for a line that is not.
-- Assumes nothing.
use Rattle.std.specs.Prelude.{Bool, true, false, cond, not, ◌&&◌, List, [], ◌∷◌, ◌≡◌, ℕ, zero, suc, ◌-◌, ◌^◌, ◌<◌, eqb, leb, get_or, drop}
use Rattle.std.specs.Bool.{beq}
use Rattle.sets.specs.Set.{is_member}
use Rattle.system.specs.System.{System}
use Rattle.system.specs.Query.{any, count_set, line_value, selected, operands, words_of, set_of}
use Rattle.evaluator.specs.declared.Pending.{Pending}
use Rattle.evaluator.specs.declared.Decision.{Decision}

-- the value of line i without operands, and the set of the lines that have it set
abbrev pub initial_value : System → ℕ → Bool
initial_value s i = line_value s i []

unfoldable pub initial_set : System → ℕ
initial_set s = set_of s.lines (initial_value s)

-- whether line i selects, at level k + 1, a line that is in x, and how many of those lines are in x
abbrev pub selects : System → ℕ → ℕ → ℕ → Bool
selects s k x i = any (selected 64 (get_or (words_of s i) k 0) x)

abbrev pub set_at : System → ℕ → ℕ → ℕ → ℕ
set_at s k x i = count_set (selected 64 (get_or (words_of s i) k 0) x)

-- whether those operands are all of what needs has for line i, or a part of it
abbrev pub is_met : System → ℕ → ℕ → List ℕ → ℕ → Bool
is_met s k x needs i = not (eqb (set_at s k x i) 0) && leb (get_or needs i 0) (set_at s k x i)

abbrev pub is_lowered : System → ℕ → ℕ → List ℕ → ℕ → Bool
is_lowered s k x needs i = not (eqb (set_at s k x i) 0) && not (leb (get_or needs i 0) (set_at s k x i))

-- how many of its operands must be set for a line of this kind and threshold, if it is not set without operands: one, or as many as a vote asks for
abbrev pub needed : ℕ → ℕ → ℕ
needed zero t = 1
needed (suc zero) t = 1
needed (suc (suc k)) t = t

abbrev pub line_needs : System → ℕ → ℕ
line_needs s i = needed (get_or s.kinds i 0) (get_or s.thresholds i 0)

module _ (s : System) (k : ℕ) (ys : List ℕ) where
  -- the value of line i from its operands above level k alone, at the arguments ys of those levels, innermost first
  abbrev pub outer_value : ℕ → Bool
  outer_value i = line_value s i (operands (drop k (words_of s i)) ys)

  -- whether line i is open: as it is without operands, so that the levels below decide it
  abbrev pub is_open : ℕ → Bool
  is_open i = beq (outer_value i) (initial_value s i)

  unfoldable pub outer_set : ℕ
  outer_set = set_of s.lines outer_value

  unfoldable pub open_set : ℕ
  open_set = set_of s.lines is_open

  -- what line i needs of the levels below: what it needs less its operands above that are set
  abbrev pub still_needs : ℕ → ℕ
  still_needs i = line_needs s i - count_set (operands (drop k (words_of s i)) ys)

-- w is what the arguments ys of the levels above level k decide, of the lines that a step between a and b can change: those of b that are not of a.
-- It has their values, and which of them are open.
pub record Decided (s : System) (k : ℕ) (ys : List ℕ) (a b : ℕ) (w : Pending) : Type 0 where
  pub value : (i : ℕ) → is_member b i ≡ true → is_member a i ≡ false → is_member w.set i ≡ is_member (outer_set s k ys) i
  pub still : (i : ℕ) → is_member b i ≡ true → is_member a i ≡ false → is_member w.undecided i ≡ is_member (open_set s k ys) i
  pub lines : w.undecided < 2 ^ s.lines

-- needs has what those of them that are open and not set still need
abbrev pub Needs : System → ℕ → List ℕ → ℕ → ℕ → List ℕ → Type 0
Needs s k ys a b needs =
    (i : ℕ) → is_member b i ≡ true → is_member a i ≡ false → is_member (open_set s k ys) i ≡ true → is_member (outer_set s k ys) i ≡ false
    → get_or needs i 0 ≡ still_needs s k ys i

-- both: what is carried from a level to the one below
abbrev pub Carried : System → ℕ → List ℕ → ℕ → ℕ → Pending → List ℕ → Type 0
Carried s k ys a b w needs = Decided s k ys a b w × Needs s k ys a b needs

-- w and needs are what some arguments come to
abbrev pub SomeCarry : System → ℕ → ℕ → ℕ → Pending → List ℕ → Type 0
SomeCarry s k a b w needs = (ys : List ℕ) × Carried s k ys a b w needs

-- row is needs, less the operands at level k + 1 that are in x for each of the given lines
abbrev pub Lowered : System → ℕ → ℕ → ℕ → List ℕ → List ℕ → Type 0
Lowered s k x lines needs row = (i : ℕ) → get_or row i 0 ≡ get_or needs i 0 - cond (is_member lines i) (set_at s k x i) 0

-- r is what the argument x of level k + 1 decides beside ys; its lowered lines need less than before
pub record Next (s : System) (k x : ℕ) (ys : List ℕ) (a b : ℕ) (needs : List ℕ) (r : Decision) : Type 0 where
  pub decided : Decided s k (x ∷ ys) a b r.pending
  pub still_needs_lem : (row : List ℕ) → Lowered s k x r.lowered needs row → Needs s k (x ∷ ys) a b row
