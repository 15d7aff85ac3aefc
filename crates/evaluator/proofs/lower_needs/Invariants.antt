-- `evaluator::lower_needs` meets its contract. The loop's invariant: the lines passed need less by their operands that are set, the others what they needed.
-- The measure is the set of the lines left.
-- Assumes nothing.
use Prim.Native.Nat.{◌-◌}
use lib.ListN.{get_or}
use Rattle.system.specs.Query.{count_set}
use Rattle.sets.proofs.PassedLines.{PassedSoFar}
use Rattle.evaluator.proofs.LookedLines.{masked}
use Rattle.evaluator.proofs.lower_needs.Given as goal

abbrev pub invariant-loop-rest : goal.invariant-loop-rest
invariant-loop-rest l =
    PassedSoFar (λ i. get_or l.needs i 0) (λ i. get_or l.needs i 0 - count_set (masked l.file.bytes.now l.at l.line l.x i)) l.lines l.rest (λ i. get_or l.row i 0)

abbrev pub decreases-loop-rest : goal.decreases-loop-rest
decreases-loop-rest l = l.rest
