-- Writing: what it turns down, in document 01's order (with request W4), what it answers, and what it leaves in the lent buffer.
-- Assumes nothing.
use Rattle.std.specs.Prelude.{false, not, List, [], ◌∷◌, ◌++◌, ◌≡◌, ℕ, ◌*◌, eqb, ltb, length, Result, Ok, Err}
use Rattle.answers.specs.Answer.{Answer, refusal, number_of}
use Rattle.answers.specs.declared.Refusal.{Refusal}
use Rattle.answers.specs.Check.{Check, ◌if◌, first_of, unless}
use Rattle.system.specs.System.{System}
use Rattle.model.specs.File.{file_length, highest_kind, encode}
use Rattle.model.specs.Checks.{count_checks, content_checks}
use Rattle.model.specs.Says.{made, filled}

-- 13, for the slices of a system
abbrev pub slice_checks : System → List Check
slice_checks m =
    13 if not (eqb (length m.signs) m.levels) ∷
    13 if not (eqb (length m.kinds) m.lines) ∷
    13 if not (eqb (length m.thresholds) m.lines) ∷
    13 if not (eqb (length m.words) (m.lines * m.levels)) ∷
    []

-- the number with which writing into a buffer of this length refuses, or 0; what is made is a new file, which may have votes
unfoldable pub write_number : System → ℕ → ℕ
write_number m room =
    first_of (count_checks m.lines m.levels ++ (slice_checks m ++ (content_checks (highest_kind false) m ++ (12 if ltb room (file_length m.lines m.levels) ∷ []))))

-- the paper's answer of the length of what was made, or of a refusal
abbrev pub written_answer : Result ℕ Refusal → Answer
written_answer (Ok bytes) = made bytes
written_answer (Err e) = refusal (number_of e)

-- writing a system into a buffer of `room` bytes
abbrev pub write_answer : System → ℕ → Answer
write_answer m room = unless (write_number m room) (made (file_length m.lines m.levels))

-- what it leaves in the buffer
abbrev pub WriteLeaves : System → List ℕ → List ℕ → Type 0
WriteLeaves m buffer buffer' = buffer' ≡ filled (write_number m (length buffer)) (encode m) buffer

pub record WriteSays (m : System) (buffer : List ℕ) (r : Result ℕ Refusal) (buffer' : List ℕ) : Type 0 where
  pub answer : written_answer r ≡ write_answer m (length buffer)
  pub left : WriteLeaves m buffer buffer'
