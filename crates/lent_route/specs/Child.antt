-- The first child of a tree's root, by the gaps: those in front of the first gap of the tree's height, or all where there is none.
-- Assumes nothing.
use Rattle.std.specs.Prelude.{List, ◌≡◌, ℕ, ◌≤◌, ◌<◌, length, get_or, take}

-- no gap of h among the first r
abbrev pub NoneBefore : List ℕ → ℕ → ℕ → Type 0
NoneBefore gaps h r = (i : ℕ) → i < r → get_or gaps i 0 ≡ h → ⊥

pub record FirstChild (h : ℕ) (gaps child : List ℕ) : Type 0 where
  pub within : length child ≤ length gaps
  pub cut : child ≡ take (length child) gaps
  pub before : NoneBefore gaps h (length child)
  pub found : length child < length gaps → get_or gaps (length child) 0 ≡ h
