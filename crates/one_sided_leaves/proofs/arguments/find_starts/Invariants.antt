-- `one_sided_leaves::arguments::find_starts` meets its contract. The loop's invariant: the first i gaps have theirs.
-- Assumes nothing.
use Rattle.one_sided_leaves.specs.Leaves.{Starts}
use Rattle.one_sided_leaves.proofs.arguments.find_starts.Given as goal

abbrev pub invariant-loop-i : goal.invariant-loop-i
invariant-loop-i l = Starts l.v l.before l.i
