-- Document 01's sample models, and those of the requests.
-- Assumes nothing.
use Rattle.std.specs.Prelude.{List, [], ◌∷◌, ℕ, ◌*◌, length, replicate}
use Rattle.system.specs.System.{System, system_of}

-- line 0 is all of (level 1, line 1); line 1 is any of (level 2, line 0)
abbrev pub two_lines : List ℕ → System
two_lines signs = system_of 2 2 signs (1 ∷ 0 ∷ []) (0 ∷ 0 ∷ []) (2 ∷ 0 ∷ 0 ∷ 1 ∷ [])

-- model P: level 1 least, level 2 greatest
abbrev pub P : System
P = two_lines (0 ∷ 1 ∷ [])

-- model Q: P with both signs turned over
abbrev pub Q : System
Q = two_lines (1 ∷ 0 ∷ [])

-- one line, any of itself, one level of the sign s
abbrev pub one : ℕ → System
one s = system_of 1 1 (s ∷ []) (0 ∷ []) (0 ∷ []) (1 ∷ [])

-- lines without operands (request W2), at one level of the sign s: line 0 is any of none, line 1 all of none, line 2 any of lines 0 and 2,
-- line 3 all of lines 1 and 3
abbrev pub dead_ends : ℕ → System
dead_ends s = system_of 4 1 (s ∷ []) (0 ∷ 1 ∷ 0 ∷ 1 ∷ []) (0 ∷ 0 ∷ 0 ∷ 0 ∷ []) (0 ∷ 0 ∷ 5 ∷ 10 ∷ [])

-- A vote of so many of three pyrometers (request W4), level 1 least, level 2 greatest: line 0 is the vote of (level 1, line 1), (level 1, line 2) and
-- (level 1, line 3). Line 1 is all of none, line 2 any of (level 2, line 2), line 3 any of (level 1, line 3): two read hot, and the third never will.
abbrev pub pyrometers : ℕ → System
pyrometers t = system_of 4 2 (0 ∷ 1 ∷ []) (2 ∷ 1 ∷ 0 ∷ 0 ∷ []) (t ∷ 0 ∷ 0 ∷ 0 ∷ []) (14 ∷ 0 ∷ 0 ∷ 0 ∷ 0 ∷ 4 ∷ 8 ∷ 0 ∷ [])

-- a vote of two operands that are the same line at two levels: line 0 votes (level 1, line 1) and (level 2, line 1), and line 1 is all of none
abbrev pub one_line_twice : System
one_line_twice = system_of 2 2 (0 ∷ 1 ∷ []) (2 ∷ 1 ∷ []) (2 ∷ 0 ∷ []) (2 ∷ 2 ∷ 0 ∷ 0 ∷ [])

-- Spare lines (request W7), at one least level: line 0 is all of lines 1 and 2, line 1 all of none, and line 2 any of itself. Lines 3 and 4 are no line's operands;
-- line 3 is all of none, line 4 all of lines 0 and 3.
abbrev pub spares : System
spares = system_of 5 1 (0 ∷ []) (1 ∷ 1 ∷ 0 ∷ 1 ∷ 1 ∷ []) (0 ∷ 0 ∷ 0 ∷ 0 ∷ 0 ∷ []) (6 ∷ 0 ∷ 4 ∷ 0 ∷ 9 ∷ [])

-- a line that is met at level 2 alone: line 0 is any of (level 2, line 2), line 2 any of (level 1, line 0), and line 1, a spare, all of (level 1, line 0)
abbrev pub met_at_level2 : System
met_at_level2 = system_of 3 2 (0 ∷ 1 ∷ []) (0 ∷ 1 ∷ 0 ∷ []) (0 ∷ 0 ∷ 0 ∷ []) (0 ∷ 4 ∷ 1 ∷ 0 ∷ 1 ∷ 0 ∷ [])

-- so many lines at levels of these signs, each all of none: a forecast (request W8) looks at nothing else
abbrev pub idle_lines : ℕ → List ℕ → System
idle_lines n signs = system_of n (length signs) signs (replicate n 1) (replicate n 0) (replicate (n * length signs) 0)

-- sixteen lines that can be met and two spares: line 0 is all of lines 1 to 15, and every other line is all of none
abbrev pub sixteen_met : System
sixteen_met = system_of 18 1 (0 ∷ []) (replicate 18 1) (replicate 18 0) (65534 ∷ replicate 17 0)
