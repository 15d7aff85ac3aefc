-- The words of a line of a well-formed system.
-- Assumes nothing.
use Prim.Native.Nat.{ℕ, ◌*◌, ◌^◌}
use Rattle.lists.specs.Below.{AllBelow}
use Rattle.lists.proofs.Below.{below_take, below_drop}
use Rattle.system.specs.System.{System, WellFormed}
use Rattle.system.specs.Query.{words_of}

-- they select no line that the system does not have
pub line_words_below : (m : System) → WellFormed m → (i : ℕ) → AllBelow (2 ^ m.lines) (words_of m i)
line_words_below m W i = below_take m.levels (below_drop (i * m.levels) W.words_within)
