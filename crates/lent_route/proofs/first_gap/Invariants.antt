-- `lent_route::first_gap` meets its contract. The loop's invariant: none of the gaps passed is h.
-- Assumes nothing.
use Rattle.lent_route.specs.Child.{NoneBefore}
use Rattle.lent_route.proofs.first_gap.Given as goal

abbrev pub invariant-loop-i : goal.invariant-loop-i
invariant-loop-i l = NoneBefore l.gaps l.h l.i
