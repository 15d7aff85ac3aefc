-- Rounding a fraction to a whole number (request W3): to the nearest, and of two equally near to the even one.
-- Assumes nothing.
use Rattle.std.specs.Prelude.{cond, ◌≡◌, ℕ, ◌+◌, ◌*◌, ◌-◌, ◌/◌, ◌%◌, ◌≤◌, ltb}

-- how far apart two numbers are: one of the two differences, since the other is 0
abbrev pub distance : ℕ → ℕ → ℕ
distance x y = (x - y) + (y - x)

-- What it means that x / n, for n of 1 or more, is rounded to r: no whole number s is nearer to x / n than r is, and if another one is equally near, r is even.
-- A distance |x / n - s| is taken times n, as |x - n s|, so that all numbers are whole.
pub record RoundsTo (x n r : ℕ) : Type 0 where
  pub nearest : (s : ℕ) → distance x (n * r) ≤ distance x (n * s)
  pub even : (s : ℕ) → (s ≡ r → ⊥) → distance x (n * s) ≡ distance x (n * r) → r % 2 ≡ 0

-- x / n rounded: its whole part or the number after that, whichever is nearer; at a half the even one of these two. Where n is 0 it is 0.
unfoldable pub rounded : ℕ → ℕ → ℕ
rounded x n =
    let low = x / n in
    let below = distance x (n * low) in
    let above = distance x (n * (low + 1)) in
    cond (ltb below above) low (cond (ltb above below) (low + 1) (low + low % 2))
