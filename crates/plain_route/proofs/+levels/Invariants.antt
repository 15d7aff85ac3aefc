-- The cycle of calls of `plain_route`: a level with levels below it makes rounds of these. The measure is twice the levels left, and for the rounds one more than
-- twice those below. The loop's invariant: the level's run ends as the run from the present value does under what is left of the ceiling (Rounds.antt); what is
-- left falls with every round.
-- Assumes nothing.
use Rattle.std.proofs.Common.{List, ◌∷◌, ℕ, suc, ◌+◌, ◌*◌, ◌≤◌, ◌<◌}
use Rattle.system.specs.System.{System}
use Rattle.model.specs.Files.{held_system}
use Rattle.fixpoint.specs.Plain.{Run}
use Rattle.evaluator.specs.ByLevels.{Carried}
use Rattle.evaluator.specs.declared.Bounds.{Bounds}
use Rattle.evaluator.specs.declared.Carry.{Carry}
use Rattle.routes.specs.Parts.{plain_from}
use Rattle.plain_route.proofs.Rounds.{Ahead}
use Rattle.plain_route.proofs.+levels.Given as goal

-- one round of the level above `below` levels, as a function of its argument
abbrev pub round_of : ℕ → System → Bounds → ℕ → List ℕ → ℕ → Run ℕ
round_of rounds s bounds below ys x = plain_from rounds s bounds.low bounds.high below (x ∷ ys)

pub record Going (s : System) (bounds : Bounds) (carry : Carry) (left below x rest : ℕ) : Type 0 where
  pub down : rest ≤ left
  pub ahead : (rounds : ℕ) → left < rounds → (ys : List ℕ) → Carried s (suc below) ys bounds.low bounds.high carry.pending carry.needs.now
      → Ahead (round_of rounds s bounds below ys) (plain_from rounds s bounds.low bounds.high (suc below) ys) left x rest

abbrev pub decreases-plain_level : goal.decreases-plain_level
decreases-plain_level l = 2 * l.k

abbrev pub decreases-outer_level : goal.decreases-outer_level
decreases-outer_level l = 2 * l.below + 1

abbrev pub invariant-outer_level-rounds : goal.invariant-outer_level-rounds
invariant-outer_level-rounds l = Going (held_system l.file) l.bounds l.carry l.left l.below l.x l.rest

abbrev pub decreases-outer_level-rounds : goal.decreases-outer_level-rounds
decreases-outer_level-rounds l = l.rest
