-- `evaluator::meeting` meets its contract. The loop's invariant: of the lines passed those are told apart that have all that they need, and those that have
-- a part of it. The measure is the set of the lines left.
-- Assumes nothing.
use mathlib.Core.Bool.{Bool, not, ◌&&◌}
use mathlib.Core.List.{List}
use Prim.Native.Nat.{ℕ}
use lib.Dec.{eqb, leb}
use lib.ListN.{get_or}
use Rattle.system.specs.Query.{count_set}
use Rattle.sets.proofs.PassedLines.{FoundSoFar}
use Rattle.evaluator.proofs.LookedLines.{masked}
use Rattle.evaluator.proofs.meeting.Given as goal

-- whether n operands are some, and whether they are a part of what is needed
abbrev pub some_of : ℕ → Bool
some_of n = not (eqb n 0)

abbrev pub part_of : ℕ → ℕ → Bool
part_of need n = some_of n && not (leb need n)

pub record Told (file needs : List ℕ) (at line x lines rest hit lowered : ℕ) : Type 0 where
  pub some : FoundSoFar (λ i. some_of (count_set (masked file at line x i))) lines rest hit
  pub part : FoundSoFar (λ i. part_of (get_or needs i 0) (count_set (masked file at line x i))) lines rest lowered

abbrev pub invariant-loop-rest : goal.invariant-loop-rest
invariant-loop-rest l = Told l.file.bytes.now l.needs l.at l.line l.x l.lines l.rest l.hit l.lowered

abbrev pub decreases-loop-rest : goal.decreases-loop-rest
decreases-loop-rest l = l.rest
