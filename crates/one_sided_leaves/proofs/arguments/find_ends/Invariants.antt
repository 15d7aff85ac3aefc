-- `one_sided_leaves::arguments::find_ends` meets its contract. The loop's invariant: the gaps from i on have theirs.
-- Assumes nothing.
use Rattle.one_sided_leaves.specs.Leaves.{Ends}
use Rattle.one_sided_leaves.proofs.arguments.find_ends.Given as goal

abbrev pub invariant-loop-i : goal.invariant-loop-i
invariant-loop-i l = Ends l.v l.over l.i
