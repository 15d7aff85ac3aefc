-- The share of good lines (document 01, "The judging program").
-- Assumes nothing.
use Rattle.std.specs.Prelude.{ℕ, ◌*◌}
use Rattle.share.specs.Rounding.{rounded}

-- 1000 times good over n, rounded; of no lines, 0
abbrev pub share_of : ℕ → ℕ → ℕ
share_of good n = rounded (1000 * good) n
