use mathlib.Core.Path.{◌≡◌, refl, sym, ◌∙◌, ap}
use Prim.Native.Nat.{◌-◌}
use native.Mathlib.Omega.{arith}
use Rattle.one_sided.specs.Explicit.{last_over}
use Rattle.one_sided_leaves.proofs.Blocks.{last_over_at, last_over_back, last_over_none}
use Rattle.one_sided_leaves.proofs.arguments.block_start.Goals as goal

pub loop-j-init : goal.loop-j-init
loop-j-init c = (omega arith, refl)

pub overflow_cast-v : goal.overflow_cast-v
overflow_cast-v c = omega (arith, c.type_inv.v (c.loop-j.j - 1))

pub returns-then-l-v : goal.returns-then-l-v
returns-then-l-v c =
    let l = c.loop-j in
    let z = c.args in
    sym (l.invariant.1 ∙ last_over_at z.l z.v.now l.j c.loop-j-test.true c.if-l-v.true)

pub overflow_cast-j : goal.overflow_cast-j
overflow_cast-j c =
    let l = c.loop-j in
    let n = last_over_back c.args.l c.args.v.now c.args.before.now c.args.i l.j c.requires.2 c.loop-j-test.true l.invariant.0 c.if-l-v.false in
    omega (arith, n.0, l.invariant.0, c.requires.0, c.requires.1)

pub loop-j-smaller : goal.loop-j-smaller
loop-j-smaller c =
    let l = c.loop-j in
    let n = last_over_back c.args.l c.args.v.now c.args.before.now c.args.i l.j c.requires.2 c.loop-j-test.true l.invariant.0 c.if-l-v.false in
    n.0

pub loop-j-preserved : goal.loop-j-preserved
loop-j-preserved c =
    let l = c.loop-j in
    let n = last_over_back c.args.l c.args.v.now c.args.before.now c.args.i l.j c.requires.2 c.loop-j-test.true l.invariant.0 c.if-l-v.false in
    (omega (arith, l.invariant.0, n.0), l.invariant.1 ∙ n.1)

pub returns : goal.returns
returns c =
    let l = c.loop-j in
    let z = c.args in
    let e : l.j ≡ 0 = omega (arith, c.loop-j-test.false) in
    sym (l.invariant.1 ∙ ap (last_over z.l z.v.now) e ∙ last_over_none z.l z.v.now ∙ sym e)
