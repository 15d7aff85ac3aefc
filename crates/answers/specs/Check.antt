-- The checks of an operation (document 01, "Operations"): they are made in the order in which the operation names them,
-- and the first number that applies is the answer.
-- Assumes nothing.
use Rattle.std.specs.Prelude.{Bool, cond, ◌||◌, List, [], ◌∷◌, ℕ, zero, suc, eqb, ltb}
use Rattle.answers.specs.Answer.{Answer, refusal, over_ceiling}

-- a number, and whether it applies
pub record Check : Type 0 where
  pub number : ℕ
  pub applies : Bool

infix 70 ◌if◌
abbrev pub ◌if◌ : ℕ → Bool → Check
e if b = record { number = e; applies = b }

-- the first number that applies, 0 where none does
abbrev pub first_of : List Check → ℕ
first_of [] = 0
first_of (c ∷ cs) = cond c.applies c.number (first_of cs)

-- the refusal with a number, or, where the number is 0, the accepted answer
abbrev pub unless : ℕ → Answer → Answer
unless zero a = a
unless (suc e) a = refusal (suc e)

-- the same of an operation that has a forecast under a ceiling (request W8): its refusal with 10 tells the forecast
abbrev pub unless_over : ℕ → ℕ → Answer → Answer
unless_over forecast e a = cond (eqb e 10) (over_ceiling forecast) (unless e a)

-- a count that is 0, or over the most that there may be
abbrev pub outside : ℕ → ℕ → Bool
outside most n = eqb n 0 || ltb most n
