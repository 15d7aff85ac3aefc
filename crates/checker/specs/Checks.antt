-- What a file is turned down for, in document 01's order (with request W4), and what checking answers.
-- Assumes nothing.
use Rattle.std.specs.Prelude.{not, ◌||◌, List, [], ◌∷◌, ◌++◌, ◌≡◌, ℕ, ◌+◌, ◌*◌, eqb, ltb, length}
use Rattle.answers.specs.Answer.{Answer}
use Rattle.answers.specs.Check.{Check, ◌if◌, first_of, unless}
use Rattle.numbers.specs.Numbers.{number_at}
use Rattle.model.specs.File.{signs_at, kinds_at, words_at, old_words_at, lines_in, levels_in, words_in, is_old, highest_kind, decode}
use Rattle.model.specs.Checks.{count_checks, content_checks}
use Rattle.model.specs.Says.{sized}

-- 4 and 5: a wrong offset, a wrong length. The third offset is a new file's or an old one's, and the length goes by it.
abbrev pub layout_checks : List ℕ → List Check
layout_checks file =
    4 if not (eqb (number_at file 4 4) signs_at) ∷
    4 if not (eqb (number_at file 8 4) (kinds_at (levels_in file))) ∷
    4 if not (eqb (words_in file) (words_at (lines_in file) (levels_in file)) || eqb (words_in file) (old_words_at (lines_in file) (levels_in file))) ∷
    5 if not (eqb (length file) (words_in file + 8 * (lines_in file * levels_in file))) ∷
    []

-- 1 to 5: too short for a header, the counts, the layout
abbrev pub header_checks : List ℕ → List Check
header_checks file = 1 if ltb (length file) 16 ∷ (count_checks (lines_in file) (levels_in file) ++ layout_checks file)

-- 6, 7 and 14: the contents; an old file has no votes
abbrev pub section_checks : List ℕ → List Check
section_checks file = content_checks (highest_kind (is_old (lines_in file) (levels_in file) file)) (decode file)

-- 1 to 7 and 14: what a file is turned down for, whatever it is to be used for
abbrev pub file_checks : List ℕ → List Check
file_checks file = header_checks file ++ section_checks file

-- the number with which checking refuses, or 0
unfoldable pub file_number : List ℕ → ℕ
file_number file = first_of (file_checks file)

-- the answer of checking
abbrev pub check_answer : List ℕ → Answer
check_answer file = unless (file_number file) (sized (lines_in file) (levels_in file))

-- a model in use (document 01): checking accepts the file, with these two counts
abbrev pub InUse : List ℕ → ℕ → ℕ → Type 0
InUse file n d = check_answer file ≡ sized n d
