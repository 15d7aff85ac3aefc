-- The values that a model has: sets of n lines.
-- Assumes nothing.
use Rattle.std.specs.Prelude.{◌≡◌, ℕ}
use Rattle.sets.specs.Set.{full, union, intersection, bounded_step, members}
use Rattle.sets.specs.Extreme.{least_fixed, greatest_fixed}
use Rattle.fixpoint.specs.Values.{Values}

abbrev pub sets : ℕ → Values
sets n = record {
  C = ℕ;
  ◌⊑◌ = λ a b. intersection a b ≡ a;
  bot = 0;
  top = full n;
  meet = intersection;
  join = union;
  step = bounded_step;
  lfp = least_fixed n;
  gfp = greatest_fixed n;
  rank = members;
}
