-- What each route gives for a model between a lower bound a and an upper bound b (document 01, "Bounds", "Plain route", "Trees").
-- Assumes nothing.
use Rattle.std.specs.Prelude.{List, [], ℕ, suc, eqb}
use Rattle.system.specs.System.{System, sign}
use Rattle.system.specs.Query.{query}
use Rattle.trees.specs.Built.{built}
use Rattle.fixpoint.specs.Levels.{least_among, greatest_among}
use Rattle.fixpoint.specs.Nested.{nested}
use Rattle.fixpoint.specs.Restricted.{restricted, restricted_queries}
use Rattle.fixpoint.specs.Plain.{Run, plain}
use Rattle.fixpoint.specs.Sets.{sets}

-- the numbers of least and of greatest levels: the heights of the trees U and V
abbrev pub least_levels : System → ℕ
least_levels m = least_among (sign m) m.levels

abbrev pub greatest_levels : System → ℕ
greatest_levels m = greatest_among (sign m) m.levels

-- the built-in trees for p lines of the least levels' height and for q lines of the greatest levels'
abbrev pub built_least : System → ℕ → List ℕ
built_least s p = built p (least_levels s)

abbrev pub built_greatest : System → ℕ → List ℕ
built_greatest s q = built q (greatest_levels s)

-- the nested fixpoint
abbrev pub nested_set : System → ℕ → ℕ → ℕ
nested_set m a b = nested (sets m.lines) (sign m) (query m) m.levels [] a b

-- the plain route: its set and its queries; n + 1 rounds a level are always enough (fixpoint's proofs/Plain.antt)
abbrev pub plain_run : System → ℕ → ℕ → Run ℕ
plain_run m a b = plain (sets m.lines) eqb (suc m.lines) (sign m) (query m) a b m.levels []

-- the restricted set over the trees u and v, and its queries
abbrev pub restricted_set : System → ℕ → ℕ → List ℕ → List ℕ → ℕ
restricted_set m a b u v = restricted (sets m.lines) (sign m) (query m) m.levels [] a b u v

abbrev pub restricted_count : System → List ℕ → List ℕ → ℕ
restricted_count m u v = restricted_queries (sign m) m.levels u v
