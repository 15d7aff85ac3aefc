-- `one_sided_stages::right_side` meets its contract. The loop's invariant: the places passed hold the arguments' values.
-- Assumes nothing.
use mathlib.Core.Path.{◌≡◌}
use lib.ListN.{length, take}
use Rattle.one_sided_stages.specs.Stages.{readings}
use Rattle.one_sided_stages.proofs.right_side.Given as goal

abbrev pub invariant-loop-k : goal.invariant-loop-k
invariant-loop-k l = (length l.ys ≡ 8) × (take l.k l.ys ≡ readings l.state (take l.k l.args))
