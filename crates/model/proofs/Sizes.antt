-- What a model's counts give: at most 512 words and 4248 bytes, places for each line's words, and a mask of 64 bits that holds all of its lines.
-- Assumes nothing.
use mathlib.Core.Bool.{not}
use mathlib.Core.Path.{◌≡◌, ◌∙◌, ap}
use Prim.Native.Nat.{ℕ, ◌+◌, ◌*◌, ◌≤◌, ◌<◌, min}
use native.Mathlib.Nat.{mul-le-mul, mul-le-mul_right, min-eq_left}
use native.Mathlib.Omega.{arith}
use Rattle.sets.specs.Set.{full, is_within}
use Rattle.model.specs.File.{file_length}
use Rattle.model.specs.Checks.{strays}

pub few_words : {n d : ℕ} → n ≤ 64 → d ≤ 8 → n * d ≤ 512
few_words = mul-le-mul

-- a file of the most lines and levels is the longest
pub length_most : (n d : ℕ) → n ≤ 64 → d ≤ 8 → file_length n d ≤ 4248
length_most n d hn hd = omega (arith, few_words hn hd)

-- the d places of line i are among those of n lines
pub line_fits : {i n : ℕ} (d : ℕ) → i < n → i * d + d ≤ n * d
line_fits d h = omega (arith, mul-le-mul_right d h)

-- `all` is what `full_set` gives
pub strays_mask : {n all : ℕ} (w : ℕ) → n ≤ 64 → all ≡ full (min n 64) → not (is_within w all) ≡ strays n w
strays_mask w h e = ap (λ (x : ℕ). not (is_within w x)) (e ∙ ap full (min-eq_left h))
