-- `one_sided_leaves::spans::widen` meets its contract. The loop's invariant: the spans of the first k arguments are widened.
-- Assumes nothing.
use Prim.Native.Nat.{◌+◌}
use Rattle.one_sided_leaves.proofs.Spanned.{Moved, Up, Down}
use Rattle.one_sided_leaves.proofs.spans.widen.Given as goal

abbrev pub invariant-loop-k : goal.invariant-loop-k
invariant-loop-k l = Moved Down l.args l.i l.initial.from l.from l.k × Moved Up l.args (l.i + 1) l.initial.to l.to l.k
