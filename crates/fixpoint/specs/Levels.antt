-- Levels and their signs. Levels are counted from the innermost: k levels are those from k down to 1,
-- and `sign k` says whether level k + 1 is greatest.
-- Assumes nothing.
use Rattle.std.specs.Prelude.{Bool, cond, ℕ, zero, suc}

-- how many of the first k levels are greatest
unfoldable pub greatest_among : (ℕ → Bool) → ℕ → ℕ
greatest_among sign zero = 0
greatest_among sign (suc k) = cond (sign k) (suc (greatest_among sign k)) (greatest_among sign k)

-- how many of the first k levels are least
unfoldable pub least_among : (ℕ → Bool) → ℕ → ℕ
least_among sign zero = 0
least_among sign (suc k) = cond (sign k) (least_among sign k) (suc (least_among sign k))
