-- `one_query::evaluate_lines` meets its contract. The loop's invariant: those of the lines passed are found that have the value 1.
-- The measure is the set of the lines left.
-- Assumes nothing.
use Rattle.sets.proofs.PassedLines.{FoundSoFar}
use Rattle.one_query.proofs.Values.{value_at}
use Rattle.one_query.proofs.evaluate_lines.Given as goal

abbrev pub invariant-loop-rest : goal.invariant-loop-rest
invariant-loop-rest l = FoundSoFar (value_at l.file.bytes.now l.file.model l.fn.xs) l.lines l.rest l.found

abbrev pub decreases-loop-rest : goal.decreases-loop-rest
decreases-loop-rest l = l.rest
