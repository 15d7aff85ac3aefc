use Rattle.std.proofs.Common.{◌≡◌, refl, sym, ◌∙◌, cond, List, ◌∷◌, ℕ, suc, ◌+◌, ◌-◌, ◌*◌, ◌≤◌, ◌<◌, arith}
use Rattle.model.specs.Files.{held_system}
use Rattle.evaluator.specs.ByLevels.{Carried, SomeCarry, Lowered}
use Rattle.evaluator.proofs.DecidedLines.{lowered_none}
use Rattle.routes.specs.Parts.{LineCount}
use Rattle.routes.proofs.OverChildren.{then}
use Rattle.routes.proofs.Levels.{one_less, own_of}
use Rattle.routes.proofs.ChildrenPassed.{none_passed, next_carried}
use Rattle.built_route.proofs.BuiltLevels.{OverBuilt, own_lines, lines_few, first_children, child_built, all_built, leaves_built, level_built, first_few}
use Rattle.built_route.proofs.+built_level.Goals as goal
use Rattle.built_route.proofs.+built_level.Goals.{built_level-Joined-greatest, built_level-then-greatest, built_level-else-greatest}
use Rattle.built_route.proofs.+built_level.Goals.{outer_level-Joined-greatest, outer_level-Joined-greatest-2, outer_level-After-decide-decision, outer_level-Joined-decision-eq0, outer_level-then-greatest, outer_level-else-greatest, outer_level-then-greatest-2, outer_level-else-greatest-2, outer_level-then-decision-eq0, outer_level-else-decision-eq0}

-- the innermost level: the lines of its tree, by its sign
innermost_tree : (t : ℕ) (c : built_level-Joined-greatest t) → c.if-greatest.lines ≡ own_lines c.is_greatest-greatest.result c.args.p c.args.q
innermost_tree t c = elim c.if-greatest.branch [
  | built_level-then-greatest w ↦ w.lines-is ∙ rw w.if-greatest.true
  | built_level-else-greatest w ↦ w.lines-is ∙ rw w.if-greatest.false
]

pub built_level-returns-then-below-eq0 : goal.built_level-returns-then-below-eq0
built_level-returns-then-below-eq0 t c = λ ys d.
    let z = c.args in
    let s = held_system z.file in
    let greatest = c.is_greatest-greatest.result in
    let r = c.requires in
    let next = one_less z.k r.k_nonzero.0 in
    let zero = c.if-below-eq0.true in
    let one : z.k ≡ 1 = omega (arith, next, zero) in
    level_built s next z.p z.q greatest (sym c.is_greatest-greatest.ensures) r.line_count.0.0 r.line_count.1.0 ys z.bounds _
    (leaves_built s (z.k - 1) ys z.bounds z.p z.q greatest _ zero
    (λ u v. (rw (innermost_tree t (goal.at.built_level-returns-then-below-eq0 t c).Joined-greatest) at c.innermost_level.ensures) u v ys (rw one at d)))

-- any other, which is the next above the levels below it

pub built_level-outer_level-requires : goal.built_level-outer_level-requires
built_level-outer_level-requires t c =
    let r = c.requires in (
      omega (arith, c.decreases, r.k_nonzero),
      (
        rw (one_less c.args.k r.k_nonzero.0) at r.carried,
        ((omega (arith, c.if-below-eq0.false), omega (arith, r.k_nonzero)), r.line_count),
      ),
    )

pub built_level-returns : goal.built_level-returns
built_level-returns t c = rw (← one_less c.args.k c.requires.k_nonzero.0) at c.outer_level.ensures

-- the lines of its tree, by its sign
own_tree : (t : ℕ) (c : outer_level-Joined-greatest t) → c.if-greatest.lines ≡ own_lines c.is_greatest-greatest.result c.args.p c.args.q
own_tree t c = elim c.if-greatest.branch [
  | outer_level-then-greatest w ↦ w.lines-is ∙ rw w.if-greatest.true
  | outer_level-else-greatest w ↦ w.lines-is ∙ rw w.if-greatest.false
]

pub outer_level-loop-i-init : goal.outer_level-loop-i-init
outer_level-loop-i-init t c = λ ys d. rw c.start-set.ensures (none_passed (held_system c.args.file) c.args.below ys c.args.bounds _ _ c.is_greatest-greatest.result)

-- the trees of the levels below: the next child in place of this level's tree
trees_below : (t : ℕ) (c : outer_level-Joined-greatest-2 t) →
    let greatest = c.is_greatest-greatest.result in
    let n = c.child_lines-n.result in
    c.if-greatest-2.least ≡ (cond greatest c.args.p n, cond greatest n c.args.q)
trees_below t c = elim c.if-greatest-2.branch [
  | outer_level-then-greatest-2 w ↦ w.least-is ∙ rw w.if-greatest-2.true
  | outer_level-else-greatest-2 w ↦ w.least-is ∙ rw w.if-greatest-2.false
]

-- what the call for a child asks, with a row that the value so far lowers
asked : (t : ℕ) (c : outer_level-After-decide-decision t) (row : List ℕ) →
    let z = c.args in
    let s = held_system z.file in
    let greatest = c.is_greatest-greatest.result in
    let between = c.moved-between.result in
    let least = c.if-greatest-2.least in
    c.if-greatest.lines ≡ own_lines greatest z.p z.q
    → least ≡ (cond greatest z.p c.child_lines-n.result, cond greatest c.child_lines-n.result z.q)
    → Lowered s z.below c.loop-i.set c.decide-decision.result.lowered z.carry.needs.now row
    → (2 * z.below < t)
    × (SomeCarry s z.below between.low between.high c.decide-decision.result.pending row
    × (((0 < z.below) × (z.below ≤ z.file.model.levels)) × (LineCount least.0 × LineCount least.1)))
asked t c row own trees made =
    let z = c.args in
    let r = c.requires in
    let greatest = c.is_greatest-greatest.result in (
      omega (arith, c.decreases),
      (
        (
          c.loop-i.set ∷ r.carried.0,
          next_carried row greatest _ _ _ c.moved-between.ensures c.loop-i.invariant c.decide-decision.ensures.next made r.carried.0 r.carried.1,
        ),
        (
          (r.below_nonzero.0, omega (arith, r.below_nonzero.1)),
          rw trees (lines_few greatest z.p z.q c.child_lines-n.result r.line_count.0 r.line_count.1 (rw own at c.child_lines-n.ensures.few)),
        ),
      ),
    )

pub outer_level-built_level-found-requires : goal.outer_level-built_level-found-requires
outer_level-built_level-found-requires t c =
    let at = goal.at.outer_level-built_level-found-requires t c in
    asked t at.After-decide-decision c.args.carry.needs.now (own_tree t at.Joined-greatest) (trees_below t at.Joined-greatest-2)
    (lowered_none (held_system c.args.file) c.args.below c.loop-i.set c.args.carry.needs.now c.if-decision-eq0.true)

pub outer_level-built_level-found-requires-else-decision-eq0 : goal.outer_level-built_level-found-requires-else-decision-eq0
outer_level-built_level-found-requires-else-decision-eq0 t c =
    let at = goal.at.outer_level-built_level-found-requires-else-decision-eq0 t c in
    asked t at.After-decide-decision c.lower_needs-needs.result (own_tree t at.Joined-greatest) (trees_below t at.Joined-greatest-2) c.lower_needs-needs.ensures

-- one child more, whichever call it was
one_more : (t : ℕ) (c : outer_level-Joined-decision-eq0 t) →
    let z = c.args in
    let s = held_system z.file in
    let greatest = c.is_greatest-greatest.result in
    let loop = c.loop-i in
    let n = c.child_lines-n.result in
    c.if-greatest.lines ≡ own_lines greatest z.p z.q
    → c.if-greatest-2.least ≡ (cond greatest z.p n, cond greatest n z.q)
    → (ys : List ℕ) → Carried s (suc z.below) ys z.bounds.low z.bounds.high z.carry.pending z.carry.needs.now
    → OverBuilt s z.below ys z.bounds z.p z.q greatest (first_children greatest s z.below z.p z.q (loop.i + 1))
    (then (record { set = loop.set; count = loop.count }) c.if-decision-eq0.found)
one_more t c own trees ys d =
    let z = c.args in
    let s = held_system z.file in
    let greatest = c.is_greatest-greatest.result in
    let loop = c.loop-i in
    let next = c.decide-decision.ensures.next in
    let e = c.moved-between.ensures in
    child_built s z.below ys z.bounds z.p z.q greatest loop.i c.child_lines-n.result _ c.if-decision-eq0.found (rw own at c.loop-i-test.true)
    (rw own at (c.child_lines-n.ensures.child (own_of greatest s z.below))) (loop.invariant ys d)
    (elim c.if-decision-eq0.branch [
      | outer_level-then-decision-eq0 w ↦
          rw w.found-is (rw (trees, e) at (w.built_level-found.ensures (loop.set ∷ ys) (next_carried z.carry.needs.now greatest _ _ _ e loop.invariant next
          (lowered_none s z.below loop.set z.carry.needs.now w.if-decision-eq0.true) ys d)))
      | outer_level-else-decision-eq0 w ↦
          rw w.found-is (rw (trees, e) at (w.built_level-found-else-decision-eq0.ensures (loop.set ∷ ys)
          (next_carried w.lower_needs-needs.result greatest _ _ _ e loop.invariant next w.lower_needs-needs.ensures ys d)))
    ])

pub outer_level-overflow_add-count : goal.outer_level-overflow_add-count
outer_level-overflow_add-count t c =
    let z = c.args in
    let r = c.requires in
    let at = goal.at.outer_level-overflow_add-count t c in
    omega (
      arith,
      (one_more t at.Joined-decision-eq0 (own_tree t at.Joined-greatest) (trees_below t at.Joined-greatest-2) r.carried.0 r.carried.1).queries,
      first_few (held_system z.file) z.below z.p z.q (omega (arith, r.below_nonzero.1, z.file.held.laid_out.few_levels)) r.line_count.0 r.line_count.1
          c.is_greatest-greatest.result (sym c.is_greatest-greatest.ensures) (c.loop-i.i + 1),
    )

pub outer_level-loop-i-preserved : goal.outer_level-loop-i-preserved
outer_level-loop-i-preserved t c =
    let at = goal.at.outer_level-loop-i-preserved t c in
    one_more t at.Joined-decision-eq0 (own_tree t at.Joined-greatest) (trees_below t at.Joined-greatest-2)

pub outer_level-returns : goal.outer_level-returns
outer_level-returns t c = λ ys d.
    let z = c.args in
    let s = held_system z.file in
    let greatest = c.is_greatest-greatest.result in
    let r = c.requires in
    let done = rw (own_tree t (goal.at.outer_level-returns t c).Joined-greatest) at c.loop-i-test.false in
    level_built s refl z.p z.q greatest (sym c.is_greatest-greatest.ensures) r.line_count.0.0 r.line_count.1.0 ys z.bounds _
    (all_built s z.below ys z.bounds z.p z.q greatest c.loop-i.i _ done (c.loop-i.invariant ys d))
