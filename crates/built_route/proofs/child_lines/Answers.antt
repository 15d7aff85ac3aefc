use mathlib.Core.Path.{refl, ◌∙◌}
use Prim.Native.Nat.{◌/◌, ◌<◌}
use native.Mathlib.Omega.{arith}
use Rattle.trees.proofs.Built.{child_first, child_middle, child_last}
use Rattle.built_route.proofs.child_lines.Goals as goal

pub loop-at-init : goal.loop-at-init
loop-at-init c = record { place = c.requires; few = omega arith; same = λ h. refl }

pub overflow_sub-second : goal.overflow_sub-second
overflow_sub-second c = omega (arith, c.loop-at.invariant.place)

pub returns-then-at-first : goal.returns-then-at-first
returns-then-at-first c =
    let l = c.loop-at in
    let some : 0 < l.lines = omega (arith, l.invariant.place) in record {
      few = (some, l.invariant.few);
      child = λ h. l.invariant.same h ∙ child_middle l.lines h l.at some c.if-at-first.true;
    }

pub loop-at-smaller-then-at-first-2 : goal.loop-at-smaller-then-at-first-2
loop-at-smaller-then-at-first-2 c = omega (arith, c.loop-at.invariant.place)

pub loop-at-preserved-then-at-first-2 : goal.loop-at-preserved-then-at-first-2
loop-at-preserved-then-at-first-2 c =
    let l = c.loop-at in
    let some : 0 < l.lines = omega (arith, l.invariant.place) in
    record { place = c.if-at-first-2.true; few = omega (arith, l.invariant.few); same = λ h. l.invariant.same h ∙ child_first l.lines h l.at some c.if-at-first-2.true }

pub overflow_sub-at-else-at-first-2 : goal.overflow_sub-at-else-at-first-2
overflow_sub-at-else-at-first-2 c = omega (arith, c.if-at-first.false, c.if-at-first-2.false)

pub loop-at-smaller : goal.loop-at-smaller
loop-at-smaller c = omega (arith, c.loop-at.invariant.place)

pub loop-at-preserved : goal.loop-at-preserved
loop-at-preserved c =
    let l = c.loop-at in
    let some : 0 < l.lines = omega (arith, l.invariant.place) in
    let behind : l.lines / 2 < l.at = omega (arith, c.if-at-first.false, c.if-at-first-2.false) in
    record {
      place = omega (arith, l.invariant.place);
      few = omega (arith, l.invariant.few);
      same = λ h. l.invariant.same h ∙ child_last l.lines h l.at some behind;
    }
