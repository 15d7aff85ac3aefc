-- `evaluator::selecting` meets its contract. The loop's invariant: those of the lines passed are found that select a line of x.
-- The measure is the set of the lines left.
-- Assumes nothing.
use mathlib.Core.Bool.{Bool}
use mathlib.Core.List.{List}
use Prim.Native.Nat.{ℕ}
use Rattle.system.specs.Query.{any}
use Rattle.sets.proofs.PassedLines.{FoundSoFar}
use Rattle.evaluator.proofs.LookedLines.{masked}
use Rattle.evaluator.proofs.selecting.Given as goal

-- whether the word of line i has a line of x
abbrev pub has : List ℕ → ℕ → ℕ → ℕ → ℕ → Bool
has file at line x i = any (masked file at line x i)

abbrev pub invariant-loop-rest : goal.invariant-loop-rest
invariant-loop-rest l = FoundSoFar (has l.file.bytes.now l.at l.line l.x) l.lines l.rest l.found

abbrev pub decreases-loop-rest : goal.decreases-loop-rest
decreases-loop-rest l = l.rest
