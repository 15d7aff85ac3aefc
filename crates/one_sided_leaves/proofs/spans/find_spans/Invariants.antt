-- `one_sided_leaves::spans::find_spans` meets its contract. The loops' invariants: the first y variables have the leaf of which they are the bound; the spans
-- are widened by the first i leaves.
-- Assumes nothing.
use Rattle.one_sided_leaves.proofs.Spanned.{Owned, Spanned}
use Rattle.one_sided_leaves.proofs.spans.find_spans.Given as goal

abbrev pub invariant-loop-y : goal.invariant-loop-y
invariant-loop-y l = Owned l.from l.to l.y

abbrev pub invariant-loop-i : goal.invariant-loop-i
invariant-loop-i l = Spanned l.file.bytes.now l.file.model l.v l.from l.to l.i
