-- Two systems joined in one (request W6).
-- Assumes nothing.
use Rattle.std.specs.Prelude.{◌++◌, map, ◌≡◌, ◌+◌, ◌≤◌}
use Rattle.sets.specs.SideBySide.{moved_up}
use Rattle.system.specs.System.{System, system_of}

-- The lines of the second follow those of the first, its words moved up by the first's lines. The levels are the first's: both have the same.
abbrev pub joined : System → System → System
joined m₁ m₂ =
    system_of (m₁.lines + m₂.lines) m₁.levels m₁.signs (m₁.kinds ++ m₂.kinds) (m₁.thresholds ++ m₂.thresholds)
    (m₁.words ++ map (moved_up m₁.lines) m₂.words)

-- two systems that can be joined: the same levels, and no more lines together than a word has bits
pub record Joinable (m₁ m₂ : System) : Type 0 where
  pub same_levels : m₁.levels ≡ m₂.levels
  pub same_signs : m₁.signs ≡ m₂.signs
  pub few_lines : m₁.lines + m₂.lines ≤ 64
