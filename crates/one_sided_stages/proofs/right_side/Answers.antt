use mathlib.Core.List.{List}
use mathlib.Core.Path.{◌≡◌, refl, ◌∙◌, ap, subst}
use Prim.Native.Nat.{ℕ, ◌+◌, ◌≤◌, ◌<◌}
use native.Mathlib.Numerals.{add-one}
use native.Mathlib.Omega.{arith}
use lib.Bits.{bit_xor}
use lib.ListN.{length, get_or, take, length-set}
use Rattle.sets.specs.Set.{union, intersection}
use Rattle.sets.proofs.Range.{intersection_below}
use Rattle.system.specs.System.{sign}
use Rattle.system.specs.Query.{query}
use Rattle.model.specs.declared.layout.Model.{Model}
use Rattle.model.specs.Held.{system_in}
use Rattle.model.specs.Files.{held_system}
use Rattle.one_sided_leaves.specs.Leaves.{arguments_in}
use Rattle.one_sided_stages.specs.Stages.{readings}
use Rattle.one_sided_leaves.proofs.Blocks.{argument_within, places_of_arguments}
use Rattle.one_sided_stages.proofs.Part.{part_and_rest, part_alone}
use Rattle.one_sided_stages.proofs.Queue.{reading_more}
use Rattle.one_sided_stages.proofs.right_side.Goals as goal

-- an argument that is found is one of the variables
argument_in : (file : List ℕ) (m : Model) (v args : List ℕ) (i k : ℕ) → i ≤ length v → length v ≤ 1023 → take m.levels args ≡ arguments_in file m v i → k < m.levels → get_or args k 0 < 1025
argument_in file m v args i k h few e l =
    omega (arith, places_of_arguments (sign (system_in file m)) v i m.levels args e k l, argument_within (sign (system_in file m)) v i k h)

pub returns-then-lines-eq0 : goal.returns-then-lines-eq0
returns-then-lines-eq0 c =
    let z = c.args in
    let g = c.requires.grows z.i (omega (arith, c.requires.linked.0)) in
    part_alone (get_or z.state.now z.i 0) (get_or z.state.now (z.i + 1) 0) _ g.1 c.if-lines-eq0.true

pub offset_bounds-state-y : goal.offset_bounds-state-y
offset_bounds-state-y c =
    let z = c.args in
    let k = c.loop-k.k in
    omega (arith, argument_in z.file.bytes.now z.file.model z.v.now _ z.i k c.requires.linked.0 c.requires.linked.1.few c.find_arguments.ensures c.loop-k-test.true)

pub bounds-state-y : goal.bounds-state-y
bounds-state-y c =
    let z = c.args in
    let k = c.loop-k.k in
    argument_in z.file.bytes.now z.file.model z.v.now _ z.i k c.requires.linked.0 c.requires.linked.1.few c.find_arguments.ensures c.loop-k-test.true

pub loop-k-preserved : goal.loop-k-preserved
loop-k-preserved c =
    let z = c.args in
    let l = c.loop-k in
    let few = z.file.held.laid_out.few_levels in
    (simp length-set l.invariant.0, rw add-one (reading_more z.state.now _ l.ys l.k (omega (arith, few, c.type_inv.args)) (omega (arith, few)) l.invariant.1))

pub evaluate_lines-requires : goal.evaluate_lines-requires
evaluate_lines-requires c =
    let z = c.args in
    let g = c.requires.grows z.i (omega (arith, c.requires.linked.0)) in
    (omega (arith, z.file.held.laid_out.few_levels), intersection_below z.file.model.lines (get_or z.state.now z.i 0) _ g.0)

pub returns : goal.returns
returns c =
    let z = c.args in
    let l = c.loop-k in
    let found = c.find_arguments in
    let all : l.k ≡ z.file.model.levels = omega arith in
    let bound = get_or z.state.now z.i 0 in
    let part = get_or z.state.now (z.i + 1) 0 in
    let f = query (held_system z.file) in
    let g = c.requires.grows z.i (omega (arith, c.requires.linked.0)) in
    ap (union part) (c.evaluate_lines.ensures
    ∙ ap (λ (xs : List ℕ). intersection (intersection bound (bit_xor bound part)) (f xs)) (subst (λ (k : ℕ). take k l.ys ≡ readings z.state.now (take k found.new.args)) all l.invariant.1 ∙ ap (readings z.state.now) found.ensures))
    ∙ part_and_rest bound part (f (readings z.state.now (arguments_in z.file.bytes.now z.file.model z.v.now z.i))) g.1
