-- Two sets side by side in one word, the lines of the second behind those of the first (request W6).
-- Assumes nothing.
use Rattle.std.specs.Prelude.{ℕ, ◌+◌, ◌*◌, ◌^◌}

-- the set y with each of its lines moved up by n
abbrev pub moved_up : ℕ → ℕ → ℕ
moved_up n y = 2 ^ n * y

-- the set x of the first n lines, and behind it the set y
abbrev pub side_by_side : ℕ → ℕ → ℕ → ℕ
side_by_side n x y = x + moved_up n y
