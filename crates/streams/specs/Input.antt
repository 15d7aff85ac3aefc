-- What is known of an input that was read into a buffer.
-- Assumes nothing.
use Rattle.std.specs.Prelude.{◌≡◌, ◌<◌, ◌≤◌, List, ℕ, Option, Some, None, length, take}
use Rattle.std.specs.Io.KnownBytes.{Consumes, IsAtEnd}

-- of an input that was read to its end, or until the buffer was full, its bytes stand at the buffer's front, as many as are told. The second part
-- follows from the first, and spares whoever takes that front a proof
abbrev pub InputSays : Option ℕ → List ℕ → Type 0
InputSays (Some got) buffer = (got ≤ length buffer) × (got ≡ length (take got buffer))
InputSays None buffer = Unit {0}

-- where it is known which bytes a reader has left, before and after: those at the buffer's front were the first of them, and where there was room
-- for more, no more were left. What a file or standard input has left, no contract can say
abbrev pub InputIsOf : Option ℕ → List ℕ → Option (List ℕ) → Option (List ℕ) → Type 0
InputIsOf (Some got) buffer before after = Consumes before after (take got buffer) × (got < length buffer → IsAtEnd after)
InputIsOf None buffer before after = Unit {0}
