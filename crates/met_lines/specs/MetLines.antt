-- The set of the lines that can be met from line 0, and the share of good lines among them (document 01, "The judging program", with requests W3 and W7).
-- Assumes nothing.
use Rattle.std.specs.Prelude.{List, [], ◌∷◌, ℕ}
use Rattle.sets.specs.Set.{full, union, intersection, members}
use Rattle.system.specs.System.{System}
use Rattle.system.specs.Query.{words_of}
use Rattle.reach.specs.Search.{reached}
use Rattle.share.specs.Share.{share_of}

-- the union of some sets
unfoldable pub union_of : List ℕ → ℕ
union_of [] = 0
union_of (w ∷ ws) = union w (union_of ws)

-- the operands of line i, whatever their level
abbrev pub operand_set : System → ℕ → ℕ
operand_set m i = union_of (words_of m i)

-- What a search finds that begins with line 0, the set 1, and goes from lines to their operands. `met_exactly` in proofs/Search says that these are just the lines
-- that can be met.
unfoldable pub met_lines : System → ℕ
met_lines m = reached m.lines (operand_set m) (full m.lines) 1

-- 1000 times the good lines over the lines, of those that can be met
unfoldable pub met_share : System → ℕ → ℕ
met_share m good = share_of (members (intersection good (met_lines m))) (members (met_lines m))
