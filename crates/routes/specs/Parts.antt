-- What the evaluators compute on the way: the definitions of Routes.antt with some levels left.
-- Assumes nothing.
use Rattle.std.specs.Prelude.{Bool, true, false, List, ◌∷◌, ◌≡◌, ℕ, ◌≤◌, eqb, length}
use Rattle.system.specs.System.{System, sign}
use Rattle.system.specs.Query.{query}
use Rattle.trees.specs.Tree.{IsTree}
use Rattle.fixpoint.specs.Levels.{least_among, greatest_among}
use Rattle.fixpoint.specs.Restricted.{restricted, restricted_queries, rise, fall, sum_over}
use Rattle.fixpoint.specs.Plain.{Run, plain}
use Rattle.fixpoint.specs.Sets.{sets}
use Rattle.evaluator.specs.declared.Bounds.{Bounds}
use Rattle.routes.specs.declared.shared.Found.{Found}

-- the numbers of least and of greatest levels among the first k
abbrev pub least_of : System → ℕ → ℕ
least_of s k = least_among (sign s) k

abbrev pub greatest_of : System → ℕ → ℕ
greatest_of s k = greatest_among (sign s) k

-- the plain rounds of the levels k, .., 1, with at most `rounds` rounds a level
abbrev pub plain_from : ℕ → System → ℕ → ℕ → ℕ → List ℕ → Run ℕ
plain_from rounds s a b k xs = plain (sets s.lines) eqb rounds (sign s) (query s) a b k xs

-- the restricted set of the levels k, .., 1, and its queries
abbrev pub restricted_from : System → ℕ → List ℕ → ℕ → ℕ → List ℕ → List ℕ → ℕ
restricted_from s k xs a b u v = restricted (sets s.lines) (sign s) (query s) k xs a b u v

abbrev pub queries_from : System → ℕ → List ℕ → List ℕ → ℕ
queries_from s k u v = restricted_queries (sign s) k u v

-- A least level over the children us of its tree, and a greatest level over the children vs of its own, with `below` levels below:
-- its value and its queries (fixpoint's Restricted.antt).
abbrev pub rise_from : System → ℕ → List ℕ → ℕ → ℕ → List (List ℕ) → List ℕ → ℕ
rise_from s below xs a b us v = rise (λ c. restricted_from s below (c ∷ xs)) b v a us

abbrev pub rise_queries : System → ℕ → List (List ℕ) → List ℕ → ℕ
rise_queries s below us v = sum_over (λ w. queries_from s below w v) us

abbrev pub fall_from : System → ℕ → List ℕ → ℕ → ℕ → List ℕ → List (List ℕ) → ℕ
fall_from s below xs a b u vs = fall (λ c. restricted_from s below (c ∷ xs)) a u b vs

abbrev pub fall_queries : System → ℕ → List ℕ → List (List ℕ) → ℕ
fall_queries s below u vs = sum_over (λ w. queries_from s below u w) vs

-- a level by its sign, over the children ts of its tree: of v for a greatest level, and of u for a least one
abbrev pub level_from : Bool → System → ℕ → List ℕ → Bounds → List (List ℕ) → List ℕ → List ℕ → ℕ
level_from true s below xs bounds ts u v = fall_from s below xs bounds.low bounds.high u ts
level_from false s below xs bounds ts u v = rise_from s below xs bounds.low bounds.high ts v

abbrev pub level_queries : Bool → System → ℕ → List (List ℕ) → List ℕ → List ℕ → ℕ
level_queries true s below ts u v = fall_queries s below u ts
level_queries false s below ts u v = rise_queries s below ts v

-- a set with its queries is this set with these
pub record Gives (r : Found) (set count : ℕ) : Type 0 where
  pub value : r.set ≡ set
  pub queries : r.count ≡ count

-- numbers of lines that a built-in tree may be asked for
abbrev pub LineCount : ℕ → Type 0
LineCount n = (1 ≤ n) × (n ≤ 64)

-- gaps of a tree of height h, as many as may be lent
pub record Lent (h : ℕ) (gaps : List ℕ) : Type 0 where
  pub tree : IsTree h gaps
  pub few : length gaps ≤ 1023
