-- What every judging turns down first, in document 01's order, what is wrong with a lent tree, and what judging by built-in trees is forecast to count.
-- Assumes nothing.
use Rattle.std.specs.Prelude.{Bool, not, ◌||◌, List, [], ◌∷◌, ◌++◌, ℕ, ◌*◌, ltb, length}
use Rattle.answers.specs.Check.{Check, ◌if◌, first_of, outside}
use Rattle.sets.specs.Set.{is_within}
use Rattle.trees.specs.Built.{leaf_count}
use Rattle.system.specs.System.{System}
use Rattle.model.specs.File.{lines_in}
use Rattle.model.specs.Checks.{some, strays}
use Rattle.checker.specs.Checks.{file_checks}
use Rattle.routes.specs.Routes.{least_levels, greatest_levels}

-- bounds of which one has a line of n or more, or the lower is not within the upper
abbrev pub misplaced : ℕ → ℕ → ℕ → Bool
misplaced n a b = strays n a || (strays n b || not (is_within a b))

-- 1 to 7 and 14, then 9: what every judging turns down
abbrev pub bound_checks : List ℕ → ℕ → ℕ → List Check
bound_checks file a b = file_checks file ++ (9 if misplaced (lines_in file) a b ∷ [])

-- the number with which a file and its bounds are turned down, or 0
unfoldable pub bound_number : List ℕ → ℕ → ℕ → ℕ
bound_number file a b = first_of (bound_checks file a b)

-- over 1,023 gaps, or one that is 0 or above the height
abbrev pub bad_tree : ℕ → List ℕ → Bool
bad_tree h gaps = ltb 1023 (length gaps) || some (outside h) gaps

-- the forecast of judging by built-in trees (request W8): the leaves of the two trees for the system's lines, multiplied
abbrev pub forecast : System → ℕ
forecast s = leaf_count s.lines (least_levels s) * leaf_count s.lines (greatest_levels s)
