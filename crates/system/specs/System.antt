-- A system of Boolean fixpoint equations: document 01's model, as the object that its file stands for.
-- It has n lines and d levels, a sign for each level, a kind and a threshold for each line, and for each line a word for each level.
-- Assumes nothing.
use Rattle.std.specs.Prelude.{Bool, List, ◌≡◌, ℕ, ◌*◌, ◌^◌, eqb, length, get_or}
use Rattle.lists.specs.Below.{AllBelow}

pub record System : Type 0 where
  pub lines : ℕ
  pub levels : ℕ
  -- level 1 first; 0 is least, 1 greatest
  pub signs : List ℕ
  -- line 0 first; 0 is any, 1 all, 2 a vote (request W4)
  pub kinds : List ℕ
  -- line 0 first; of a vote, how many of its operands must be set
  pub thresholds : List ℕ
  -- line 0 first, within a line level 1 first; bit j of the word for level k says that line j, as valued at level k, is an operand
  pub words : List ℕ

abbrev pub system_of : ℕ → ℕ → List ℕ → List ℕ → List ℕ → List ℕ → System
system_of n d signs kinds thresholds words = record { lines = n; levels = d; signs = signs; kinds = kinds; thresholds = thresholds; words = words }

-- whether level k + 1 is greatest
abbrev pub sign : System → ℕ → Bool
sign m k = eqb (get_or m.signs k 0) 1

-- a system whose slices are as long as its counts say
pub record Sliced (m : System) : Type 0 where
  pub signs_long : length m.signs ≡ m.levels
  pub kinds_long : length m.kinds ≡ m.lines
  pub thresholds_long : length m.thresholds ≡ m.lines
  pub words_long : length m.words ≡ m.lines * m.levels

-- a system whose slices are so long, and none of whose words selects a line that it does not have
pub record WellFormed (m : System) : Type 0 where
  pub sliced : Sliced m
  pub words_within : AllBelow (2 ^ m.lines) m.words
