-- What one query and each judging turn down, in document 01's order.
-- Assumes nothing.
use Rattle.std.specs.Prelude.{not, List, [], ◌∷◌, ◌++◌, ℕ, eqb, ltb, length}
use Rattle.answers.specs.Check.{Check, ◌if◌, first_of}
use Rattle.model.specs.File.{lines_in, levels_in, decode}
use Rattle.model.specs.Checks.{some, strays}
use Rattle.checker.specs.Checks.{file_checks}
use Rattle.admission.specs.Checks.{bad_tree, bound_checks, forecast}
use Rattle.routes.specs.Routes.{least_levels, greatest_levels, plain_run}

-- 13: not as many arguments as levels; 9: an argument with a line of n or more
abbrev pub argument_checks : List ℕ → List ℕ → List Check
argument_checks file xs = 13 if not (eqb (length xs) (levels_in file)) ∷ 9 if some (strays (lines_in file)) xs ∷ []

-- the number with which one query refuses, or 0
unfoldable pub query_number : List ℕ → List ℕ → ℕ
query_number file xs = first_of (file_checks file ++ argument_checks file xs)

-- judging plainly: what every judging turns down, then 10, exactly where the full run's count exceeds the ceiling
unfoldable pub plain_number : List ℕ → ℕ → ℕ → ℕ → ℕ
plain_number file a b ceiling = first_of (bound_checks file a b ++ (10 if ltb ceiling (plain_run (decode file) a b).queries ∷ []))

-- judging by built-in trees: then 10, where the forecast is over the ceiling (request W8)
abbrev pub forecast_checks : List ℕ → ℕ → List Check
forecast_checks file ceiling = 10 if ltb ceiling (forecast (decode file)) ∷ []

abbrev pub built_checks : List ℕ → ℕ → ℕ → ℕ → List Check
built_checks file a b ceiling = bound_checks file a b ++ forecast_checks file ceiling

unfoldable pub built_number : List ℕ → ℕ → ℕ → ℕ → ℕ
built_number file a b ceiling = first_of (built_checks file a b ceiling)

-- judging by lent trees: then 11
abbrev pub tree_checks : List ℕ → List ℕ → List ℕ → List Check
tree_checks file u v = 11 if bad_tree (least_levels (decode file)) u ∷ 11 if bad_tree (greatest_levels (decode file)) v ∷ []

unfoldable pub lent_number : List ℕ → ℕ → ℕ → List ℕ → List ℕ → ℕ
lent_number file a b u v = first_of (bound_checks file a b ++ tree_checks file u v)

-- the ceiling that the judging program and the bench page pass
abbrev pub program_ceiling : ℕ
program_ceiling = 1000000
