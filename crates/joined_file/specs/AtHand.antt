-- Two files at hand, each with its counts, that can be joined: laid out, with the same levels, at most 64 lines together, and no word with a line
-- that its own file does not have.
-- Assumes nothing.
use Rattle.std.specs.Prelude.{List, ◌≡◌, ℕ, ◌+◌, ◌^◌, ◌≤◌}
use Rattle.lists.specs.Below.{AllBelow}
use Rattle.system.specs.System.{System}
use Rattle.system.specs.Joined.{joined}
use Rattle.model.specs.Held.{LaidOut, system_in}
use Rattle.model.specs.declared.layout.Model.{Model}
use Rattle.model.specs.declared.held.LaidFile.{LaidFile}

-- the system of the two, joined
abbrev pub joined_in : List ℕ → Model → List ℕ → Model → System
joined_in first m second k = joined (system_in first m) (system_in second k)

pub record AtHand (first : List ℕ) (m : Model) (second : List ℕ) (k : Model) : Type 0 where
  pub first_laid : LaidOut first m
  pub second_laid : LaidOut second k
  pub first_words : AllBelow (2 ^ m.lines) (system_in first m).words
  pub second_words : AllBelow (2 ^ k.lines) (system_in second k).words
  pub same_levels : k.levels ≡ m.levels
  pub some_line : 1 ≤ k.lines
  pub few_lines : m.lines + k.lines ≤ 64

-- the same of two files by their types
abbrev pub joined_laid : LaidFile → LaidFile → System
joined_laid first second = joined_in first.bytes.now first.model second.bytes.now second.model

abbrev pub LaidAtHand : LaidFile → LaidFile → Type 0
LaidAtHand first second = AtHand first.bytes.now first.model second.bytes.now second.model
