-- A file that is at hand with its two counts: laid out for them and long enough, and the system that it then stands for.
-- Assumes nothing.
use Rattle.std.specs.Prelude.{List, ◌≡◌, ℕ, ◌+◌, ◌*◌, ◌≤◌, length}
use Rattle.system.specs.System.{System}
use Rattle.system.specs.Query.{VotesNeed}
use Rattle.model.specs.File.{kinds_at, words_in, is_old, line_bytes, sections}
use Rattle.model.specs.declared.layout.Model.{Model}

-- the system of a file
abbrev pub system_in : List ℕ → Model → System
system_in file m = sections m.lines m.levels file

-- the counts are within the limits, the words begin behind the bytes of the lines, and the file is long enough for them
pub record LaidOut (file : List ℕ) (m : Model) : Type 0 where
  pub few_lines : m.lines ≤ 64
  pub few_levels : m.levels ≤ 8
  pub laid : words_in file ≡ kinds_at m.levels + line_bytes (is_old m.lines m.levels file) * m.lines
  pub whole : words_in file + 8 * (m.lines * m.levels) ≤ length file

-- and no vote is set without operands
pub record Held (file : List ℕ) (m : Model) : Type 0 where
  pub laid_out : LaidOut file m
  pub votes : VotesNeed (system_in file m)
