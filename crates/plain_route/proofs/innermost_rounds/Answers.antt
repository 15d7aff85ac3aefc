use mathlib.Core.List.{List}
use mathlib.Core.Path.{◌≡◌, sym}
use Prim.Native.Nat.{ℕ, ◌-◌}
use native.Mathlib.Nat.{le_refl}
use native.Mathlib.Omega.{arith}
use Rattle.fixpoint.specs.Plain.{plain}
use Rattle.evaluator.specs.ByLevels.{Carried}
use Rattle.model.specs.Files.{held_system}
use Rattle.plain_route.specs.Under.{under}
use Rattle.plain_route.proofs.Rounds.{settled, one_query, no_query, round_spent, round_same, round_more}
use Rattle.plain_route.proofs.innermost_rounds.Invariants.{round_of}
use Rattle.plain_route.proofs.innermost_rounds.Goals as goal
use Rattle.plain_route.proofs.innermost_rounds.Goals.{After-settle-set}

-- what the query of a round gives, under what is left
outcome : (c : After-settle-set) →
    let z = c.args in
    let l = c.loop-rest in
    let s = held_system z.file in
    (ys : List ℕ) → Carried s 1 ys z.bounds.low z.bounds.high z.carry.pending z.carry.needs.now
    → under l.rest (round_of s z.bounds ys l.x) ≡ settled c.settle-set.result (l.rest - 1)
outcome c ys d =
    let l = c.loop-rest in
    rw (← c.settle-set.ensures ys d) (one_query l.rest c.settle-set.result (λ e. omega (arith, c.loop-rest-test.true)))

pub loop-rest-init : goal.loop-rest-init
unfolding plain
loop-rest-init c = λ rounds h ys d. record { fuel = rounds; more = h; same = rw (c.start-x.ensures, c.is_greatest.ensures) }

pub returns-then-set-x : goal.returns-then-set-x
returns-then-set-x c = λ rounds h ys d.
    sym (round_same _ (c.loop-rest.invariant rounds h ys d) _ _ (outcome (goal.at.returns-then-set-x c).After-settle-set ys d) c.if-set-x.true)

pub loop-rest-preserved : goal.loop-rest-preserved
loop-rest-preserved c = λ rounds h ys d.
    round_more _ (c.loop-rest.invariant rounds h ys d) (le_refl 1) _ _ (outcome (goal.at.loop-rest-preserved c).After-settle-set ys d) c.if-set-x.false

pub returns : goal.returns
returns c = λ rounds h ys d.
    let l = c.loop-rest in
    sym (round_spent _ (l.invariant rounds h ys d) (no_query l.rest _ (omega (arith, c.loop-rest-test.false))))
