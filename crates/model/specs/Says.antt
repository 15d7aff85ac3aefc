-- What operations on a file answer, and what they leave in a lent list.
-- Assumes nothing.
use Rattle.std.specs.Prelude.{List, ◌++◌, ℕ, zero, suc, length, drop, Result, Ok, Err}
use Rattle.answers.specs.Answer.{Answer, refusal, number_of}
use Rattle.answers.specs.declared.Refusal.{Refusal}
use Rattle.model.specs.declared.layout.Model.{Model}

-- accepted with the two counts
abbrev pub sized : ℕ → ℕ → Answer
sized n d = record { number = 0; set = 0; count = 0; length = 0; lines = n; levels = d }

-- accepted with a length
abbrev pub made : ℕ → Answer
made bytes = record { number = 0; set = 0; count = 0; length = bytes; lines = 0; levels = 0 }

-- the paper's answer of a model, or of a refusal
abbrev pub reading_answer : Result Model Refusal → Answer
reading_answer (Ok m) = sized m.lines m.levels
reading_answer (Err e) = refusal (number_of e)

-- what a lent list is left with: what was made in front of the entries beyond it, or on refusal the list as it was
abbrev pub filled : ℕ → List ℕ → List ℕ → List ℕ
filled zero new old = new ++ drop (length new) old
filled (suc e) new old = old
