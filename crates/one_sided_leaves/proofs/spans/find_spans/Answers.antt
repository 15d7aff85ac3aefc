use mathlib.Core.Path.{◌≡◌, subst}
use native.Mathlib.Omega.{arith}
use Rattle.trees.specs.Tree.{leaves}
use Rattle.one_sided_leaves.proofs.Spanned.{Owned, owned_none, owned_more, Spanned, spanned_begun, spanned_small, spanned_more, spanned_all}
use Rattle.one_sided_leaves.proofs.spans.find_spans.Goals as goal

pub loop-y-init : goal.loop-y-init
loop-y-init c = owned_none c.args.from.now c.args.to.now (omega arith) (omega arith)

pub loop-y-preserved : goal.loop-y-preserved
loop-y-preserved c =
    let l = c.loop-y in
    owned_more l.from l.to l.y (omega (arith, c.requires.few)) l.invariant

pub loop-i-init : goal.loop-i-init
loop-i-init c =
    let l = c.loop-y in
    let e : l.y ≡ leaves c.args.v.now = omega arith in
    spanned_begun c.args.file.bytes.now c.args.file.model c.args.v.now c.requires.few l.from l.to (subst (Owned l.from l.to) e l.invariant)

pub widen-requires : goal.widen-requires
widen-requires c =
    let l = c.loop-i in
    let file = c.args.file in record {
      small = (file.held.laid_out.few_levels, omega (arith, c.requires.few));
      by_index = spanned_small file.bytes.now file.model c.args.v.now c.requires.few l.from l.to _ l.i (omega arith) c.find_arguments.ensures l.invariant;
    }

pub loop-i-preserved : goal.loop-i-preserved
loop-i-preserved c =
    let l = c.loop-i in
    let file = c.args.file in
    spanned_more file.bytes.now file.model c.args.v.now l.from l.to _ _ _ l.i (omega arith) c.find_arguments.ensures l.invariant c.widen.ensures

pub returns : goal.returns
returns c =
    let l = c.loop-i in
    let file = c.args.file in
    let e : l.i ≡ leaves c.args.v.now = omega arith in
    spanned_all file.bytes.now file.model c.args.v.now l.from l.to
    (subst (Spanned file.bytes.now file.model c.args.v.now l.from l.to) e l.invariant)
