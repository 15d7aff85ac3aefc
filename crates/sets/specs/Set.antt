-- Sets of up to 64 lines as words: bit i of a word says whether line i is in the set (document 01, "Model").
-- Assumes nothing.
use Rattle.std.specs.Prelude.{Bool, ℕ, ◌-◌, ◌/◌, ◌%◌, ◌^◌, eqb}
use Rattle.std.specs.Int.Bits.{bit_and, bit_or}
use Rattle.std.specs.Int.Count.{ones}

-- whether line i is in the set x
abbrev pub is_member : ℕ → ℕ → Bool
is_member x i = eqb (x / 2 ^ i % 2) 1

-- the set of the lines 0 to n - 1
abbrev pub full : ℕ → ℕ
full n = 2 ^ n - 1

abbrev pub union : ℕ → ℕ → ℕ
union = bit_or

abbrev pub intersection : ℕ → ℕ → ℕ
intersection = bit_and

-- the bounded step of document 01 towards x: between a and b, for a within b
abbrev pub bounded_step : ℕ → ℕ → ℕ → ℕ
bounded_step a b x = union a (intersection b x)

-- whether every member of a is one of b
abbrev pub is_within : ℕ → ℕ → Bool
is_within a b = eqb (intersection a b) a

-- the number of members
abbrev pub members : ℕ → ℕ
members = ones
