-- `plain_route::innermost_rounds` meets its contract. The loop's invariant: the level's run ends as the run from the present value does under
-- what is left of the ceiling (Rounds.antt).
-- Assumes nothing.
use mathlib.Core.List.{List, ◌∷◌}
use Prim.Native.Nat.{ℕ, ◌<◌}
use Rattle.sets.specs.Set.{bounded_step}
use Rattle.fixpoint.specs.Plain.{Run}
use Rattle.system.specs.System.{System}
use Rattle.system.specs.Query.{query}
use Rattle.evaluator.specs.ByLevels.{Carried}
use Rattle.evaluator.specs.declared.Bounds.{Bounds}
use Rattle.model.specs.Files.{held_system}
use Rattle.routes.specs.Parts.{plain_from}
use Rattle.plain_route.proofs.Rounds.{Ahead}
use Rattle.plain_route.proofs.innermost_rounds.Given as goal

-- one round: a query
abbrev pub round_of : System → Bounds → List ℕ → ℕ → Run ℕ
round_of s bounds ys x = record { value = bounded_step bounds.low bounds.high (query s (x ∷ ys)); queries = 1 }

abbrev pub invariant-loop-rest : goal.invariant-loop-rest
invariant-loop-rest l = let s = held_system l.file in
    (rounds : ℕ) → l.left < rounds → (ys : List ℕ) → Carried s 1 ys l.bounds.low l.bounds.high l.carry.pending l.carry.needs.now
    → Ahead (round_of s l.bounds ys) (plain_from rounds s l.bounds.low l.bounds.high 1 ys) l.left l.x l.rest
