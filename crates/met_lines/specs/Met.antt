-- The lines of a model that can be met from line 0 (request W7), by paths: line 0 itself, and each operand, at whatever level, of a line that can be met.
-- The others are spare lines.
-- Assumes nothing.
use Rattle.std.specs.Prelude.{true, ◌≡◌, ℕ, get_or}
use Rattle.sets.specs.Set.{is_member}
use Rattle.system.specs.System.{System}
use Rattle.system.specs.Query.{words_of}
use Rattle.reach.specs.Met.{Met}

-- line j, as valued at some level, is an operand of line i
abbrev pub IsOperand : System → ℕ → ℕ → Type 0
IsOperand m i j = (k : ℕ) × (is_member (get_or (words_of m i) k 0) j ≡ true)

-- line j can be met from line 0
abbrev pub MetLine : System → ℕ → Type 0
MetLine m j = Met (IsOperand m) 0 j
