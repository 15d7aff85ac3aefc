-- `one_sided_leaves::arguments::block_start` meets its contract. The loop's invariant: the block begins where the block of leaf j + 1 does.
-- Assumes nothing.
use mathlib.Core.Path.{◌≡◌}
use Prim.Native.Nat.{◌≤◌}
use Rattle.one_sided.specs.Explicit.{last_over}
use Rattle.one_sided_leaves.proofs.arguments.block_start.Given as goal

abbrev pub invariant-loop-j : goal.invariant-loop-j
invariant-loop-j l = (l.j ≤ l.i) × (last_over l.l l.v l.i ≡ last_over l.l l.v l.j)

abbrev pub decreases-loop-j : goal.decreases-loop-j
decreases-loop-j l = l.j
