use Rattle.std.proofs.Common.{◌≡◌, sym, ◌∙◌, List, ◌∷◌, ℕ, suc, ◌*◌, ◌≤◌, ◌<◌, arith}
use Rattle.fixpoint.specs.Plain.{plain}
use Rattle.fixpoint.proofs.Plain.{plain_positive}
use Rattle.system.specs.System.{System}
use Rattle.model.specs.Files.{held_system}
use Rattle.evaluator.specs.ByLevels.{Carried, SomeCarry, Lowered, Next}
use Rattle.evaluator.specs.declared.Bounds.{Bounds}
use Rattle.evaluator.specs.declared.Pending.{Pending}
use Rattle.evaluator.specs.declared.Decision.{Decision}
use Rattle.evaluator.proofs.DecidedLines.{lowered_none}
use Rattle.routes.proofs.Levels.{one_less}
use Rattle.plain_route.specs.Under.{under}
use Rattle.plain_route.proofs.Rounds.{round_spent, round_same, round_more, round_less}
use Rattle.plain_route.proofs.+levels.Invariants.{round_of}
use Rattle.plain_route.proofs.+levels.Goals as goal
use Rattle.plain_route.proofs.+levels.Goals.{outer_level-Joined-decision-eq0, outer_level-After-plain_level-round, outer_level-then-decision-eq0, outer_level-else-decision-eq0}

-- what the levels below are handed with a row that the argument of a round may make: it is what the arguments decide
handed : {s : System} {below x : ℕ} {bounds : Bounds} {w : Pending} {own : List ℕ} {decision : Decision}
    → ((ys : List ℕ) → Carried s (suc below) ys bounds.low bounds.high w own → Next s below x ys bounds.low bounds.high own decision)
    → (row : List ℕ) → Lowered s below x decision.lowered own row
    → (ys : List ℕ) → Carried s (suc below) ys bounds.low bounds.high w own → Carried s below (x ∷ ys) bounds.low bounds.high decision.pending row
handed next row made ys d = let n = next ys d in (n.decided, n.still_needs_lem row made)

-- every round makes a query
positive : (rounds : ℕ) (s : System) (bounds : Bounds) (below left : ℕ) → left < rounds → (ys : List ℕ) (x : ℕ) → 1 ≤ (round_of rounds s bounds below ys x).queries
positive rounds s bounds below left h ys x = plain_positive _ _ rounds _ _ _ _ (omega arith) _ _

pub plain_level-returns-then-below-eq0 : goal.plain_level-returns-then-below-eq0
plain_level-returns-then-below-eq0 t c = λ rounds h ys d.
    let one : c.args.k ≡ 1 = omega (arith, c.requires.k_nonzero.0, c.if-below-eq0.true) in
    rw one (c.innermost_rounds.ensures rounds h ys (rw one at d))

-- any other level, which is the next above the levels below it

pub plain_level-outer_level-requires : goal.plain_level-outer_level-requires
plain_level-outer_level-requires t c =
    let r = c.requires in (
      omega (arith, c.decreases, r.k_nonzero),
      (rw (one_less c.args.k r.k_nonzero.0) at r.carried, (omega (arith, c.if-below-eq0.false), omega (arith, r.k_nonzero))),
    )

pub plain_level-returns : goal.plain_level-returns
plain_level-returns t c = rw (← one_less c.args.k c.requires.k_nonzero.0) at c.outer_level.ensures

pub outer_level-rounds-init : goal.outer_level-rounds-init
unfolding plain
outer_level-rounds-init t c =
    record { down = omega arith; ahead = λ rounds h ys d. record { fuel = rounds; more = h; same = rw (c.start-x.ensures, c.is_greatest.ensures) } }

-- what the votes still need, whether or not the argument lowers it
needed : (t : ℕ) (c : outer_level-Joined-decision-eq0 t)
    → Lowered (held_system c.args.file) c.args.below c.rounds.x c.decide-decision.result.lowered c.args.carry.needs.now c.if-decision-eq0.needs.now
needed t c = elim c.if-decision-eq0.branch [
  | outer_level-then-decision-eq0 w ↦ rw w.needs-is (lowered_none (held_system c.args.file) c.args.below c.rounds.x c.args.carry.needs.now w.if-decision-eq0.true)
  | outer_level-else-decision-eq0 w ↦ rw w.needs-is w.lower_needs-row.ensures
]

pub outer_level-plain_level-round-requires : goal.outer_level-plain_level-round-requires
outer_level-plain_level-round-requires t c =
    let r = c.requires in
    let made = needed t (goal.at.outer_level-plain_level-round-requires t c).Joined-decision-eq0 in (
      omega (arith, c.decreases),
      (
        (c.rounds.x ∷ r.carried.0, handed c.decide-decision.ensures.next _ made r.carried.0 r.carried.1),
        (r.below_nonzero.0, omega (arith, r.below_nonzero.1)),
      ),
    )

-- a round's outcome
outcome : (t : ℕ) (c : outer_level-After-plain_level-round t) →
    let z = c.args in
    let s = held_system z.file in
    Lowered s z.below c.rounds.x c.decide-decision.result.lowered z.carry.needs.now c.if-decision-eq0.needs.now
    → (rounds : ℕ) → z.left < rounds → (ys : List ℕ) → Carried s (suc z.below) ys z.bounds.low z.bounds.high z.carry.pending z.carry.needs.now
    → c.plain_level-round.result ≡ under c.rounds.rest (round_of rounds s z.bounds z.below ys c.rounds.x)
outcome t c made rounds h ys d =
    let x = c.rounds.x in
    let more : c.rounds.rest < rounds = omega (arith, h, c.rounds.invariant.down) in
    c.plain_level-round.ensures rounds more (x ∷ ys) (handed c.decide-decision.ensures.next _ made ys d)

pub outer_level-returns-in_err-set : goal.outer_level-returns-in_err-set
outer_level-returns-in_err-set t c = λ rounds h ys d.
    let z = c.args in
    let at = goal.at.outer_level-returns-in_err-set t c in
    c.from_residual.ensures ∙ sym (round_spent (round_of rounds (held_system z.file) z.bounds z.below ys) (c.rounds.invariant.ahead rounds h ys d)
    (sym (outcome t at.After-plain_level-round (needed t at.Joined-decision-eq0) rounds h ys d) ∙ c.in_err-set.was))

pub outer_level-returns-then-set-x : goal.outer_level-returns-then-set-x
outer_level-returns-then-set-x t c = λ rounds h ys d.
    let z = c.args in
    let at = goal.at.outer_level-returns-then-set-x t c in
    sym (round_same (round_of rounds (held_system z.file) z.bounds z.below ys) (c.rounds.invariant.ahead rounds h ys d) _ _
    (sym (outcome t at.After-plain_level-round (needed t at.Joined-decision-eq0) rounds h ys d) ∙ c.in_ok-set.was) c.if-set-x.true)

pub outer_level-rounds-smaller : goal.outer_level-rounds-smaller
outer_level-rounds-smaller t c =
    let z = c.args in
    let at = goal.at.outer_level-rounds-smaller t c in
    let s = held_system z.file in
    let some = c.requires.carried in
    let more : z.left < suc z.left = omega arith in
    round_less (round_of (suc z.left) s z.bounds z.below some.0) c.rounds.x c.rounds.rest
    (positive (suc z.left) s z.bounds z.below z.left more some.0 c.rounds.x) _ _
    (sym (outcome t at.After-plain_level-round (needed t at.Joined-decision-eq0) (suc z.left) more some.0 some.1) ∙ c.in_ok-set.was)

pub outer_level-rounds-preserved : goal.outer_level-rounds-preserved
outer_level-rounds-preserved t c =
    let z = c.args in
    let at = goal.at.outer_level-rounds-preserved t c in
    let s = held_system z.file in
    let l = c.rounds in
    let some = c.requires.carried in
    let more : z.left < suc z.left = omega arith in
    let below = outcome t at.After-plain_level-round (needed t at.Joined-decision-eq0) in
    let less = round_less (round_of (suc z.left) s z.bounds z.below some.0) l.x l.rest
    (positive (suc z.left) s z.bounds z.below z.left more some.0 l.x) _ _ (sym (below (suc z.left) more some.0 some.1) ∙ c.in_ok-set.was) in
    record {
      down = omega (arith, less, l.invariant.down);
      ahead = λ rounds h ys d.
          round_more (round_of rounds s z.bounds z.below ys) (l.invariant.ahead rounds h ys d) (positive rounds s z.bounds z.below z.left h ys l.x) _ _
          (sym (below rounds h ys d) ∙ c.in_ok-set.was) c.if-set-x.false;
    }
