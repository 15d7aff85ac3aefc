-- `reach::reached` meets its contract. The loop's invariant: what is found can be met, and the successors of what is followed are found.
-- The measure is the number of positions that are not followed yet.
-- Assumes nothing.
use Prim.Native.Nat.{◌-◌}
use lib.ListN.{length, get_or}
use Rattle.sets.specs.Set.{members}
use Rattle.reach.proofs.Following.{Searched}
use Rattle.reach.proofs.reached.Given as goal

abbrev pub invariant-loop-followed : goal.invariant-loop-followed
invariant-loop-followed l = Searched (length l.next) (λ p. get_or l.next p 0) l.allowed l.start l.found l.followed

abbrev pub decreases-loop-followed : goal.decreases-loop-followed
decreases-loop-followed l = length l.next - members l.followed
