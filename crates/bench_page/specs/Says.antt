-- Making the bench page: what it turns down, in the order of requests W1 and W8, what it answers, and what it leaves in the lent buffer.
-- Assumes nothing.
use Rattle.std.specs.Prelude.{List, [], ◌∷◌, ◌++◌, ◌≡◌, ℕ, ltb, length, Result, Ok, Err}
use Rattle.answers.specs.Answer.{Answer}
use Rattle.answers.specs.Check.{Check, ◌if◌, first_of, unless_over}
use Rattle.sets.specs.Set.{full}
use Rattle.model.specs.File.{lines_in, decode}
use Rattle.model.specs.Says.{made, filled}
use Rattle.admission.specs.Checks.{forecast}
use Rattle.solver.specs.Checks.{built_checks, program_ceiling}
use Rattle.solver.specs.Says.{unjudged_answer, built_answer}
use Rattle.solver.specs.declared.Unjudged.{Unjudged}
use Rattle.page_layout.specs.Page.{page}

-- the judgement that a page shows: by built-in trees, from no line to all lines, under the programs' ceiling
abbrev pub shown_answer : List ℕ → Answer
shown_answer file = built_answer file 0 (full (lines_in file)) program_ceiling

-- the page of a file
unfoldable pub page_of : List ℕ → List ℕ
page_of file = page (decode file) (shown_answer file).set

-- 12: a buffer shorter than the page
abbrev pub room_checks : List ℕ → ℕ → List Check
room_checks file room = 12 if ltb room (length (page_of file)) ∷ []

-- the checks of that judgement, then 12
abbrev pub page_checks : List ℕ → ℕ → List Check
page_checks file room = built_checks file 0 (full (lines_in file)) program_ceiling ++ room_checks file room

-- the number with which making the page in a buffer of this length refuses, or 0
unfoldable pub page_number : List ℕ → ℕ → ℕ
page_number file room = first_of (page_checks file room)

-- the paper's answer of a page's length, or of why there is none
abbrev pub paged_answer : Result ℕ Unjudged → Answer
paged_answer (Ok bytes) = made bytes
paged_answer (Err e) = unjudged_answer e

-- making the page of a file in a buffer of `room` bytes; 10 tells the forecast, as it does in judging
abbrev pub page_answer : List ℕ → ℕ → Answer
page_answer file room = unless_over (forecast (decode file)) (page_number file room) (made (length (page_of file)))

-- what it leaves in the buffer
abbrev pub PageLeaves : List ℕ → List ℕ → List ℕ → Type 0
PageLeaves file buffer buffer' = buffer' ≡ filled (page_number file (length buffer)) (page_of file) buffer

pub record PageSays (file buffer : List ℕ) (r : Result ℕ Unjudged) (buffer' : List ℕ) : Type 0 where
  pub answer : paged_answer r ≡ page_answer file (length buffer)
  pub left : PageLeaves file buffer buffer'
