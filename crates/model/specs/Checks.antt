-- What is wrong with counts and with the contents of a system, in document 01's order (with request W4): the checks that checking a file and writing one share.
-- Assumes nothing.
use Rattle.std.specs.Prelude.{Bool, false, not, ◌||◌, List, [], ◌∷◌, ℕ, zero, suc, eqb, ltb, get_or}
use Rattle.std.specs.List.{list_any}
use Rattle.answers.specs.Check.{Check, ◌if◌, outside}
use Rattle.sets.specs.Set.{full, is_within}
use Rattle.system.specs.System.{System}
use Rattle.system.specs.Query.{words_of, operand_count}

-- whether p holds of one of some numbers
abbrev pub some : (ℕ → Bool) → List ℕ → Bool
some p xs = list_any p xs

-- whether p holds of a number below n
abbrev pub some_below : ℕ → (ℕ → Bool) → Bool
some_below zero p = false
some_below (suc n) p = p n || some_below n p

-- a set that has a line of n or more
abbrev pub strays : ℕ → ℕ → Bool
strays n x = not (is_within x (full n))

-- a threshold t that a line of this kind with so many operands may not have: one that is not 0, but for a vote; of a vote, 0 or more than its operands
abbrev pub misfits : ℕ → ℕ → ℕ → Bool
misfits zero t count = not (eqb t 0)
misfits (suc zero) t count = not (eqb t 0)
misfits (suc (suc k)) t count = outside count t

abbrev pub threshold_misfits : System → ℕ → Bool
threshold_misfits m i = misfits (get_or m.kinds i 0) (get_or m.thresholds i 0) (operand_count (words_of m i))

-- 2 and 3: the counts
abbrev pub count_checks : ℕ → ℕ → List Check
count_checks n d = 2 if outside 64 n ∷ 3 if outside 8 d ∷ []

-- 6, 7 and 14: a sign over 1 or a kind over the highest that there is, a selected line of n or more, a threshold that does not fit its line
abbrev pub content_checks : ℕ → System → List Check
content_checks highest m =
    6 if (some (ltb 1) m.signs || some (ltb highest) m.kinds) ∷
    7 if some (strays m.lines) m.words ∷
    14 if some_below m.lines (threshold_misfits m) ∷
    []
