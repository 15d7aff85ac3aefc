-- Joining two files (request W6): what it turns down, in the request's order, what it answers, and what it leaves in the lent buffer.
-- Assumes nothing.
use Rattle.std.specs.Prelude.{Bool, not, List, [], ◌∷◌, ◌++◌, ◌≡◌, ℕ, eqb, ltb, length, get_or, Result}
use Rattle.answers.specs.Answer.{Answer}
use Rattle.answers.specs.declared.Refusal.{Refusal}
use Rattle.answers.specs.Check.{Check, ◌if◌, first_of, unless}
use Rattle.system.specs.System.{System}
use Rattle.system.specs.Joined.{joined}
use Rattle.model.specs.File.{file_length, decode, encode}
use Rattle.model.specs.Checks.{some_below}
use Rattle.model.specs.Says.{made, filled}
use Rattle.checker.specs.Checks.{file_checks}
use Rattle.writer.specs.Says.{written_answer}

-- the system of two files, joined
abbrev pub joined_of : List ℕ → List ℕ → System
joined_of first second = joined (decode first) (decode second)

-- whether two lists differ at place k
abbrev pub differ_at : List ℕ → List ℕ → ℕ → Bool
differ_at xs ys k = not (eqb (get_or xs k 0) (get_or ys k 0))

-- 15: levels or signs that differ
abbrev pub level_checks : System → System → List Check
level_checks m₁ m₂ = 15 if not (eqb m₁.levels m₂.levels) ∷ 15 if some_below m₁.levels (differ_at m₁.signs m₂.signs) ∷ []

-- 2: more than 64 lines together; 12: a buffer shorter than the joined file
abbrev pub size_checks : System → ℕ → List Check
size_checks m room = 2 if ltb 64 m.lines ∷ 12 if ltb room (file_length m.lines m.levels) ∷ []

-- the checks of each file in turn, then those of both together
abbrev pub join_checks : List ℕ → List ℕ → ℕ → List Check
join_checks first second room = file_checks first ++ (file_checks second ++ (level_checks (decode first) (decode second) ++ size_checks (joined_of first second) room))

-- the number with which joining into a buffer of this length refuses, or 0
unfoldable pub join_number : List ℕ → List ℕ → ℕ → ℕ
join_number first second room = first_of (join_checks first second room)

-- joining two files into a buffer of `room` bytes
abbrev pub join_answer : List ℕ → List ℕ → ℕ → Answer
join_answer first second room = unless (join_number first second room) (made (file_length (joined_of first second).lines (joined_of first second).levels))

-- what it leaves in the buffer
abbrev pub JoinLeaves : List ℕ → List ℕ → List ℕ → List ℕ → Type 0
JoinLeaves first second buffer buffer' = buffer' ≡ filled (join_number first second (length buffer)) (encode (joined_of first second)) buffer

pub record JoinSays (first second buffer : List ℕ) (r : Result ℕ Refusal) (buffer' : List ℕ) : Type 0 where
  pub answer : written_answer r ≡ join_answer first second (length buffer)
  pub left : JoinLeaves first second buffer buffer'
