-- The text that the judging program writes for an input (document 01, "The judging program").
-- Assumes nothing.
use Rattle.std.specs.Prelude.{cond, List, [], ◌∷◌, ◌++◌, ℕ, eqb, ltb, length}
use Rattle.answers.specs.Answer.{Answer}
use Rattle.sets.specs.Set.{full}
use Rattle.system.specs.System.{System}
use Rattle.model.specs.File.{decode}
use Rattle.met_lines.specs.MetLines.{met_share}
use Rattle.checker.specs.Checks.{file_number}
use Rattle.solver.specs.Checks.{program_ceiling}
use Rattle.solver.specs.Says.{plain_answer, built_answer}
use Rattle.text.specs.Text.{hex, number_line, text_or_refused}

-- the words of the output, in ASCII, each with a blank behind it
abbrev pub plain_word : List ℕ
plain_word = 112 ∷ 108 ∷ 97 ∷ 105 ∷ 110 ∷ 32 ∷ []

abbrev pub tree_word : List ℕ
tree_word = 116 ∷ 114 ∷ 101 ∷ 101 ∷ 32 ∷ []

abbrev pub share_word : List ℕ
share_word = 115 ∷ 104 ∷ 97 ∷ 114 ∷ 101 ∷ 32 ∷ []

-- the set as 16 hexadecimal digits, a blank and the decimal count
abbrev pub found_line : ℕ → ℕ → List ℕ
found_line set count = hex set ++ number_line (32 ∷ []) count

-- what follows the word of a route
abbrev pub answer_line : Answer → List ℕ
answer_line x = text_or_refused x.number x.count (found_line x.set x.count)

-- `none`, and the line's end
abbrev pub none_end : List ℕ
none_end = 110 ∷ 111 ∷ 110 ∷ 101 ∷ 10 ∷ []

-- the line of a model's share: of the lines that can be met (request W7), those that the judgement found; where it is refused there is none (request W8)
abbrev pub share_line : System → Answer → List ℕ
share_line m x = cond (eqb x.number 0) (number_line share_word (met_share m x.set)) (share_word ++ none_end)

-- the three lines for a file: both judgings from no line to all, each under a ceiling of 1,000,000
abbrev pub three_lines : List ℕ → List ℕ
three_lines file =
    let m = decode file in
    let plain = plain_answer file 0 (full m.lines) program_ceiling in
    let tree = built_answer file 0 (full m.lines) program_ceiling in
    plain_word ++ (answer_line plain ++ (tree_word ++ (answer_line tree ++ share_line m tree)))

unfoldable pub report_text : List ℕ → List ℕ
report_text file = text_or_refused (file_number file) 0 (three_lines file)

-- making the text in a lent buffer; a buffer under 144 bytes is left as it was, and no text is made
abbrev pub made_text : List ℕ → List ℕ → List ℕ
made_text file out = cond (ltb (length out) 144) [] (report_text file)
