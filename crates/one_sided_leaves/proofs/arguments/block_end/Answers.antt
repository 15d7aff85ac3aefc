use mathlib.Core.Path.{refl, sym, ◌∙◌}
use native.Mathlib.Numerals.{add-one}
use native.Mathlib.Omega.{arith}
use Rattle.one_sided_leaves.proofs.Blocks.{last_leaf_here, last_leaf_over, last_leaf_end}
use Rattle.one_sided_leaves.proofs.arguments.block_end.Goals as goal

pub loop-j-init : goal.loop-j-init
loop-j-init c = (omega arith, c.requires.0, refl)

pub overflow_cast-v : goal.overflow_cast-v
overflow_cast-v c = omega (arith, c.type_inv.v c.loop-j.j)

pub returns-then-l-v : goal.returns-then-l-v
returns-then-l-v c =
    let l = c.loop-j in
    let z = c.args in
    add-one l.j ∙ sym (l.invariant.2 ∙ last_leaf_here z.l z.v.now l.j c.loop-j-test.true c.if-l-v.true)

pub offset_bounds-over-j : goal.offset_bounds-over-j
offset_bounds-over-j c = omega (arith, c.loop-j-test.true, c.requires)

pub bounds-over-j : goal.bounds-over-j
bounds-over-j c = omega (arith, c.loop-j-test.true, c.requires)

pub overflow_cast-j : goal.overflow_cast-j
overflow_cast-j c =
    let l = c.loop-j in
    let inside = c.loop-j-test.true in
    let n = last_leaf_over c.args.l c.args.v.now l.j _ inside c.if-l-v.false (c.requires.2 l.j l.invariant.0 inside) in
    omega (arith, n.1, c.requires.1)

pub loop-j-smaller : goal.loop-j-smaller
loop-j-smaller c =
    let l = c.loop-j in
    let inside = c.loop-j-test.true in
    let n = last_leaf_over c.args.l c.args.v.now l.j _ inside c.if-l-v.false (c.requires.2 l.j l.invariant.0 inside) in
    omega (arith, n.0, n.1)

pub loop-j-preserved : goal.loop-j-preserved
loop-j-preserved c =
    let l = c.loop-j in
    let inside = c.loop-j-test.true in
    let n = last_leaf_over c.args.l c.args.v.now l.j _ inside c.if-l-v.false (c.requires.2 l.j l.invariant.0 inside) in
    (omega (arith, l.invariant.0, n.0), n.1, l.invariant.2 ∙ n.2)

pub returns : goal.returns
returns c =
    let l = c.loop-j in
    let z = c.args in
    add-one l.j ∙ sym (l.invariant.2 ∙ last_leaf_end z.l z.v.now l.j c.loop-j-test.false)
