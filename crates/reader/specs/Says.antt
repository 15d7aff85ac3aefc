-- Reading: what it turns down besides what checking does, what it answers, and what it leaves in the lent slices.
-- Assumes nothing.
use Rattle.std.specs.Prelude.{List, [], ◌∷◌, ◌++◌, ◌≡◌, ℕ, ◌*◌, ltb, length, Result}
use Rattle.answers.specs.Answer.{Answer}
use Rattle.answers.specs.declared.Refusal.{Refusal}
use Rattle.answers.specs.Check.{Check, ◌if◌, first_of, unless}
use Rattle.model.specs.File.{lines_in, levels_in, decode}
use Rattle.model.specs.Says.{sized, reading_answer, filled}
use Rattle.model.specs.declared.layout.Model.{Model}
use Rattle.checker.specs.Checks.{file_checks}

-- 12, for slices of these lengths that are to hold the signs, kinds, thresholds and words of a file
abbrev pub room_checks : List ℕ → ℕ → ℕ → ℕ → ℕ → List Check
room_checks file s k t w =
    12 if ltb s (levels_in file) ∷
    12 if ltb k (lines_in file) ∷
    12 if ltb t (lines_in file) ∷
    12 if ltb w (lines_in file * levels_in file) ∷
    []

-- the number with which reading into slices of these lengths refuses, or 0
unfoldable pub read_number : List ℕ → ℕ → ℕ → ℕ → ℕ → ℕ
read_number file s k t w = first_of (file_checks file ++ room_checks file s k t w)

-- reading a file into four lists of these lengths
abbrev pub read_answer : List ℕ → ℕ → ℕ → ℕ → ℕ → Answer
read_answer file signs kinds thresholds words = unless (read_number file signs kinds thresholds words) (sized (lines_in file) (levels_in file))

-- what it leaves in them
pub record ReadLeaves (file signs kinds thresholds words signs' kinds' thresholds' words' : List ℕ) : Type 0 where
  pub signs_left : signs' ≡ filled (read_number file (length signs) (length kinds) (length thresholds) (length words)) (decode file).signs signs
  pub kinds_left : kinds' ≡ filled (read_number file (length signs) (length kinds) (length thresholds) (length words)) (decode file).kinds kinds
  pub thresholds_left : thresholds' ≡ filled (read_number file (length signs) (length kinds) (length thresholds) (length words)) (decode file).thresholds thresholds
  pub words_left : words' ≡ filled (read_number file (length signs) (length kinds) (length thresholds) (length words)) (decode file).words words

pub record ReadSays (file signs kinds thresholds words : List ℕ) (r : Result Model Refusal) (signs' kinds' thresholds' words' : List ℕ) : Type 0 where
  pub answer : reading_answer r ≡ read_answer file (length signs) (length kinds) (length thresholds) (length words)
  pub left : ReadLeaves file signs kinds thresholds words signs' kinds' thresholds' words'
