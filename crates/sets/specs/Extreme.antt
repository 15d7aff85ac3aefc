-- The least and the greatest fixed point of a function on sets of n lines (document 01, "Bounds"):
-- the intersection of all sets that the function maps inside themselves, and the dual.
-- Assumes nothing.
use Rattle.std.specs.Prelude.{true, false, ℕ, zero, suc, ◌^◌}
use Rattle.sets.specs.Set.{full, union, intersection, is_within}

-- the intersection of the sets below m that g maps inside themselves (pre-fixed points); of none of them, all n lines
unfoldable pub meet_pre_fixed : ℕ → (ℕ → ℕ) → ℕ → ℕ
meet_pre_fixed n g zero = full n
meet_pre_fixed n g (suc m) = elim (is_within (g m) m) [ true ↦ intersection m (meet_pre_fixed n g m) | false ↦ meet_pre_fixed n g m ]

-- the union of the sets below m that lie within their own image (post-fixed points); of none of them, no line
unfoldable pub join_post_fixed : ℕ → (ℕ → ℕ) → ℕ → ℕ
join_post_fixed n g zero = 0
join_post_fixed n g (suc m) = elim (is_within m (g m)) [ true ↦ union m (join_post_fixed n g m) | false ↦ join_post_fixed n g m ]

-- a set of n lines is a word below 2 ^ n
abbrev pub least_fixed : ℕ → (ℕ → ℕ) → ℕ
least_fixed n g = meet_pre_fixed n g (2 ^ n)

abbrev pub greatest_fixed : ℕ → (ℕ → ℕ) → ℕ
greatest_fixed n g = join_post_fixed n g (2 ^ n)
