use Rattle.std.proofs.Common.{◌≡◌, sym, ◌∙◌, cond, List, [], ◌∷◌, ◌++◌, ℕ, suc, ◌+◌, ◌*◌, ◌-◌, ◌≤◌, ◌<◌, refl, arith}
use Rattle.model.specs.Files.{held_system}
use Rattle.evaluator.specs.ByLevels.{Carried, SomeCarry, Lowered}
use Rattle.evaluator.proofs.DecidedLines.{lowered_none}
use Rattle.routes.specs.Parts.{least_of, greatest_of}
use Rattle.routes.proofs.OverChildren.{then}
use Rattle.routes.proofs.Levels.{OverGives, one_less}
use Rattle.routes.proofs.ChildrenPassed.{none_passed, next_carried}
use Rattle.lent_route.specs.declared.LentTree.{LentTree}
use Rattle.lent_route.proofs.LentLevels.{Trees, OwnTree, own_tree, heights_below, NextChild, next_child, next_few, all_few, child_lent, leaves_lent, level_lent}
use Rattle.lent_route.proofs.+levels.Goals as goal
use Rattle.lent_route.proofs.+levels.Goals.{level-Else-below-eq0, level-then-greatest, level-else-greatest, over_children-Joined-greatest, over_children-Joined-greatest-2, over_children-After-decide-decision, over_children-Joined-decision-eq0, over_children-then-greatest, over_children-else-greatest, over_children-then-greatest-2, over_children-else-greatest-2, over_children-then-decision-eq0, over_children-else-decision-eq0}

-- a level: an innermost one goes over leaves

pub level-returns-then-below-eq0 : goal.level-returns-then-below-eq0
level-returns-then-below-eq0 t c = λ ys d.
    let z = c.args in
    let s = held_system z.file.now in
    let r = c.requires in
    let greatest = c.is_greatest-greatest.result in
    let zero = c.if-below-eq0.true in
    let one : z.k ≡ 1 = omega (arith, r.k_nonzero.0, zero) in
    let both : Trees s z.k (z.k - 1) greatest z.u.now z.v.now =
    record { next = one_less z.k r.k_nonzero.0; sign_is = sym c.is_greatest-greatest.ensures; least = r.heights.0; most = r.heights.1 } in
    let tree = own_tree greatest z.u.now z.v.now c.if-greatest.own both
    (elim c.if-greatest.branch [
      | level-then-greatest w ↦ w.own-is ∙ rw w.if-greatest.true
      | level-else-greatest w ↦ w.own-is ∙ rw w.if-greatest.false
    ]) in
    level_lent greatest z.u.now z.v.now _ both tree ys z.bounds _
    (leaves_lent s (z.k - 1) ys z.bounds greatest c.if-greatest.own z.u.now.gaps.now z.v.now.gaps.now _ zero tree.higher
    (λ u v. c.innermost_level.ensures u v ys (rw one at d)))

-- any other, which is the next above the levels below it: what it asks, of either sign
asked_of : (t : ℕ) (c : level-Else-below-eq0 t) →
    let z = c.args in
    let s = held_system z.file.now in
    let below = z.k - 1 in
    (2 * below + 1 < t)
    × (SomeCarry s (suc below) z.bounds.low z.bounds.high z.pending z.needs.now
    × (((0 < below) × (below < z.file.now.model.levels)) × ((z.u.now.height ≡ least_of s (suc below)) × (z.v.now.height ≡ greatest_of s (suc below)))))
asked_of t c =
    let r = c.requires in
    let next = one_less c.args.k r.k_nonzero.0 in (
      omega (arith, c.decreases, r.k_nonzero),
      ((r.carried.0, rw next at r.carried.1), ((omega (arith, c.if-below-eq0.false), omega (arith, r.k_nonzero)), rw next at r.heights)),
    )

pub level-over_children-requires : goal.level-over_children-requires
level-over_children-requires t c =
    let a = asked_of t (goal.at.level-over_children-requires t c).Else-below-eq0 in
    (a.0, (a.1.0, (a.1.1.0, (sym c.is_greatest-greatest.ensures ∙ c.if-greatest-2.true, a.1.1.1))))

pub level-over_children-requires-else-greatest-2 : goal.level-over_children-requires-else-greatest-2
level-over_children-requires-else-greatest-2 t c =
    let a = asked_of t (goal.at.level-over_children-requires-else-greatest-2 t c).Else-below-eq0 in
    (a.0, (a.1.0, (a.1.1.0, (sym c.is_greatest-greatest.ensures ∙ c.if-greatest-2.false, a.1.1.1))))

pub level-returns-else-greatest-2 : goal.level-returns-else-greatest-2
level-returns-else-greatest-2 t c = λ ys d.
    let next = one_less c.args.k c.requires.k_nonzero.0 in
    rw next (c.over_children-else-greatest-2.ensures ys (rw next at d))

pub level-returns-then-greatest-2 : goal.level-returns-then-greatest-2
level-returns-then-greatest-2 t c = λ ys d.
    let next = one_less c.args.k c.requires.k_nonzero.0 in
    rw next (c.over_children.ensures ys (rw next at d))

-- a level of one sign

-- the two trees, and that of the level, by its sign
trees : (t : ℕ) (c : over_children-Joined-greatest t) → Trees (held_system c.args.file.now) (suc c.args.below) c.args.below c.args.greatest c.args.u.now c.args.v.now
trees t c =
    let r = c.requires in
    record { next = refl; sign_is = c.requires.sign_is; least = r.heights.0; most = r.heights.1 }

own : (t : ℕ) (c : over_children-Joined-greatest t) → OwnTree (held_system c.args.file.now) (suc c.args.below) c.args.below c.args.greatest c.args.u.now c.args.v.now c.if-greatest.own
own t c =
    own_tree c.args.greatest c.args.u.now c.args.v.now c.if-greatest.own (trees t c)
    (elim c.if-greatest.branch [
      | over_children-then-greatest w ↦ w.own-is ∙ rw w.if-greatest.true
      | over_children-else-greatest w ↦ w.own-is ∙ rw w.if-greatest.false
    ])

pub over_children-children-init : goal.over_children-children-init
over_children-children-init t c =
    let z = c.args in
    record {
      within = omega arith;
      passed = [];
      split = refl;
      gives = λ ys d. rw c.start-set.ensures (none_passed (held_system z.file.now) z.below ys z.bounds z.u.now.gaps.now z.v.now.gaps.now c.args.greatest);
    }

pub over_children-child_from-child-requires : goal.over_children-child_from-child-requires
over_children-child_from-child-requires t c =
    (omega (arith, (own t (goal.at.over_children-child_from-child-requires t c).Joined-greatest).higher), c.children.invariant.within)

-- what the call for a child asks, with a row that the value so far lowers
asked : (t : ℕ) (c : over_children-After-decide-decision t) (row : List ℕ) (least most : LentTree) →
    let z = c.args in
    let s = held_system z.file.now in
    let below = z.below in
    let greatest = c.args.greatest in
    let child = c.child_from-child.result in
    let between = c.moved-between.result in
    Trees s (suc below) below greatest z.u.now z.v.now
    → OwnTree s (suc below) below greatest z.u.now z.v.now c.if-greatest.own
    → least ≡ cond greatest z.u.now child
    → most ≡ cond greatest child z.v.now
    → Lowered s below c.children.set c.decide-decision.result.lowered z.needs.now row
    → (2 * below < t)
    × (SomeCarry s below between.low between.high c.decide-decision.result.pending row
    × (((0 < below) × (below ≤ z.file.now.model.levels)) × ((least.height ≡ least_of s below) × (most.height ≡ greatest_of s below))))
asked t c row least most both tree e f made =
    let z = c.args in
    let r = c.requires in
    let greatest = c.args.greatest in
    let child = c.child_from-child in
    let some = r.carried in (
      omega (arith, c.decreases),
      (
        (
          c.children.set ∷ some.0,
          next_carried row greatest _ _ _ c.moved-between.ensures c.children.invariant.gives c.decide-decision.ensures.next made some.0 some.1,
        ),
        (
          (r.below_nonzero.0, omega (arith, r.below_nonzero.1)),
          rw (e, f) (heights_below greatest z.u.now z.v.now child.result both (omega (arith, child.ensures.height, tree.higher))),
        ),
      ),
    )

-- what the votes still need, whether or not the value so far lowers it
needed : (t : ℕ) (c : over_children-Joined-decision-eq0 t)
    → Lowered (held_system c.args.file.now) c.args.below c.children.set c.decide-decision.result.lowered c.args.needs.now c.if-decision-eq0.still.now
needed t c = elim c.if-decision-eq0.branch [
  | over_children-then-decision-eq0 w ↦ rw w.still-is (lowered_none (held_system c.args.file.now) c.args.below c.children.set c.args.needs.now w.if-decision-eq0.true)
  | over_children-else-decision-eq0 w ↦ rw w.still-is w.lower_needs-row.ensures
]

pub over_children-level-found-requires : goal.over_children-level-found-requires
over_children-level-found-requires t c =
    let at = goal.at.over_children-level-found-requires t c in
    asked t at.After-decide-decision c.if-decision-eq0.still.now c.args.u.now c.child_from-child.result (trees t at.Joined-greatest) (own t at.Joined-greatest)
    (rw c.if-greatest-2.true refl) (rw c.if-greatest-2.true refl) (needed t at.Joined-decision-eq0)

pub over_children-level-found-requires-else-greatest-2 : goal.over_children-level-found-requires-else-greatest-2
over_children-level-found-requires-else-greatest-2 t c =
    let at = goal.at.over_children-level-found-requires-else-greatest-2 t c in
    asked t at.After-decide-decision c.if-decision-eq0.still.now c.child_from-child.result c.args.v.now (trees t at.Joined-greatest) (own t at.Joined-greatest)
    (rw c.if-greatest-2.false refl) (rw c.if-greatest-2.false refl) (needed t at.Joined-decision-eq0)

-- one child more, whichever call it was
one_more : (t : ℕ) (c : over_children-Joined-greatest-2 t) →
    let z = c.args in
    let s = held_system z.file.now in
    let loop = c.children in
    Lowered s z.below loop.set c.decide-decision.result.lowered z.needs.now c.if-decision-eq0.still.now
    → (ys : List ℕ) → Carried s (suc z.below) ys z.bounds.low z.bounds.high z.pending z.needs.now
    → OverGives s z.below ys z.bounds z.u.now.gaps.now z.v.now.gaps.now z.greatest (loop.invariant.passed ++ c.child_from-child.result.gaps.now ∷ [])
    (then (record { set = loop.set; count = loop.count }) c.if-greatest-2.found)
one_more t c made ys d =
    let z = c.args in
    let s = held_system z.file.now in
    let loop = c.children in
    let m = c.moved-between.ensures in
    let carried = next_carried c.if-decision-eq0.still.now z.greatest _ _ _ m loop.invariant.gives c.decide-decision.ensures.next made ys d in
    child_lent s z.below ys z.bounds z.greatest z.u.now z.v.now c.child_from-child.result _ c.if-greatest-2.found _ (loop.invariant.gives ys d)
    (elim c.if-greatest-2.branch [
      | over_children-then-greatest-2 w ↦
          rw (w.found-is, w.if-greatest-2.true) (rw (rw w.if-greatest-2.true at m) at (w.level-found.ensures (loop.set ∷ ys) carried))
      | over_children-else-greatest-2 w ↦
          rw (w.found-is, w.if-greatest-2.false) (rw (rw w.if-greatest-2.false at m) at (w.level-found-else-greatest-2.ensures (loop.set ∷ ys) carried))
    ])

-- the next child of the level's tree
cut : (t : ℕ) (c : over_children-Joined-decision-eq0 t) →
    let tree = c.if-greatest.own in
    OwnTree (held_system c.args.file.now) (suc c.args.below) c.args.below c.args.greatest c.args.u.now c.args.v.now tree
    → NextChild tree.height tree.gaps.now c.children.from c.child_from-child.result.gaps.now c.children.invariant.passed
cut t c o =
    let tree = c.if-greatest.own in
    let loop = c.children in
    next_child tree.gaps.now loop.from _ loop.invariant.passed o.higher tree.lent loop.invariant.within loop.invariant.split c.child_from-child.ensures.gaps

pub over_children-overflow_add-count : goal.over_children-overflow_add-count
over_children-overflow_add-count t c =
    let z = c.args in
    let s = held_system z.file.now in
    let r = c.requires in
    let at = goal.at.over_children-overflow_add-count t c in
    let both = trees t at.Joined-greatest in
    let o = own t at.Joined-greatest in
    let greatest = c.args.greatest in
    omega (
      arith,
      (one_more t at.Joined-greatest-2 (needed t at.Joined-decision-eq0) r.carried.0 r.carried.1).queries,
      next_few s z.below z.u.now.gaps.now z.v.now.gaps.now greatest (cut t at.Joined-decision-eq0 o),
      all_few greatest z.u.now z.v.now c.if-greatest.own both o,
    )

pub over_children-returns-then-from-own : goal.over_children-returns-then-from-own
over_children-returns-then-from-own t c = λ ys d.
    let z = c.args in
    let at = goal.at.over_children-returns-then-from-own t c in
    let both = trees t at.Joined-greatest in
    let o = own t at.Joined-greatest in
    level_lent c.args.greatest z.u.now z.v.now c.if-greatest.own both o ys z.bounds _
    (rw ((cut t at.Joined-decision-eq0 o).last c.if-from-own.true)
    (one_more t at.Joined-greatest-2 (needed t at.Joined-decision-eq0) ys d))

pub over_children-children-preserved : goal.over_children-children-preserved
over_children-children-preserved t c =
    let at = goal.at.over_children-children-preserved t c in
    let next = cut t at.Joined-decision-eq0 (own t at.Joined-greatest) in
    record {
      within = omega (arith, next.within, c.if-from-own.false);
      passed = _;
      split = next.more c.if-from-own.false;
      gives = one_more t at.Joined-greatest-2 (needed t at.Joined-decision-eq0);
    }
