-- What an operation hands back, in document 01's own fields. Each operation answers an enum of its own,
-- and a definition beside that enum gives this record for each of its cases.
-- Assumes nothing.
use Rattle.std.specs.Prelude.{ℕ}
use Rattle.answers.specs.declared.Refusal.{Refusal}
use Rattle.answers.specs.declared.Refusal.TheVariants.{HeaderShort, Lines, Levels, Offset, FileLength, SignOrKind, StraySelection, Bounds, Ceiling, Tree, Room, SliceLength, Threshold, LevelsDiffer}

-- document 01's number of a refusal; 8 is retired (request W2), 14 is of request W4 and 15 of W6
abbrev pub number_of : Refusal → ℕ
number_of HeaderShort = 1
number_of Lines = 2
number_of Levels = 3
number_of Offset = 4
number_of FileLength = 5
number_of SignOrKind = 6
number_of StraySelection = 7
number_of Bounds = 9
number_of Ceiling = 10
number_of Tree = 11
number_of Room = 12
number_of SliceLength = 13
number_of Threshold = 14
number_of LevelsDiffer = 15

pub record Answer : Type 0 where
  -- 0 where the operation accepts, else the number with which it refuses
  pub number : ℕ
  pub set : ℕ
  pub count : ℕ
  pub length : ℕ
  pub lines : ℕ
  pub levels : ℕ

-- a refusal: its number, and every other field 0
abbrev pub refusal : ℕ → Answer
refusal e = record { number = e; set = 0; count = 0; length = 0; lines = 0; levels = 0 }

-- refused because more queries are forecast than the ceiling allows (request W8): 10, with the forecast as its count
abbrev pub over_ceiling : ℕ → Answer
over_ceiling forecast = record { number = 10; set = 0; count = forecast; length = 0; lines = 0; levels = 0 }
