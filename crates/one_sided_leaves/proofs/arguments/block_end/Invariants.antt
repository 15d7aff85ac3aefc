-- `one_sided_leaves::arguments::block_end` meets its contract. The loop's invariant: the block ends where the block of leaf j + 1 does.
-- Assumes nothing.
use mathlib.Core.Path.{◌≡◌}
use Prim.Native.Nat.{◌-◌, ◌≤◌}
use lib.ListN.{length}
use Rattle.one_sided.specs.Explicit.{last_leaf}
use Rattle.one_sided_leaves.proofs.arguments.block_end.Given as goal

abbrev pub invariant-loop-j : goal.invariant-loop-j
invariant-loop-j l = (l.i ≤ l.j) × (l.j ≤ length l.v) × (last_leaf l.l l.v l.i ≡ last_leaf l.l l.v l.j)

abbrev pub decreases-loop-j : goal.decreases-loop-j
decreases-loop-j l = length l.v - l.j
