use mathlib.Core.Path.{sym, ◌∙◌}
use Prim.Native.Nat.{◌<◌}
use native.Mathlib.Omega.{arith}
use Rattle.system.specs.System.{sign}
use Rattle.model.specs.Files.{held_system}
use Rattle.one_sided_leaves.proofs.Blocks.{height_within, nested_none, nested_greatest, nested_least, nested_as, nested_end}
use Rattle.one_sided_leaves.proofs.arguments.find_arguments.Goals as goal
use Rattle.one_sided_leaves.proofs.arguments.find_arguments.Goals.{then-is_greatest, else-is_greatest}

pub loop-k-init : goal.loop-k-init
loop-k-init c =
    nested_none (sign (held_system c.args.file)) c.args.v.now c.args.i c.args.args.now (omega arith) c.requires.0

pub block_start-start-requires : goal.block_start-start-requires
block_start-start-requires c =
    let l = c.loop-k in
    let p = c.requires.1 in
    (l.invariant.start_within, p.few, (λ j h. p.starts j (omega (arith, l.invariant.start_within))))

pub overflow_add-height : goal.overflow_add-height
overflow_add-height c =
    let l = c.loop-k in
    omega (arith, l.invariant.high, c.args.file.held.laid_out.few_levels, height_within (sign (held_system c.args.file)) l.k)

pub block_end-end-requires : goal.block_end-end-requires
block_end-end-requires c =
    let l = c.loop-k in
    let p = c.requires.1 in
    (l.invariant.last_within, p.few, (λ j h q. p.ends j (omega arith) q))

pub loop-k-preserved : goal.loop-k-preserved
loop-k-preserved c =
    let l = c.loop-k in
    let signs = sign (held_system c.args.file) in
    let v = c.args.v.now in
    let i = c.args.i in
    let room : l.k < 8 = omega (arith, c.args.file.held.laid_out.few_levels) in
    elim c.if-is_greatest.branch [
      | then-is_greatest w ↦
          nested_as signs v i
          (nested_greatest signs v i l.invariant room w.block_start-start.result w.block_start-start.ensures (sym c.is_greatest.ensures ∙ w.if-is_greatest.true))
          w.args-is w.start-is w.last-is w.height-is
      | else-is_greatest w ↦
          nested_as signs v i
          (nested_least signs v i l.invariant room w.block_end-end.result w.block_end-end.ensures (sym c.is_greatest.ensures ∙ w.if-is_greatest.false))
          w.args-is w.start-is w.last-is w.height-is
    ]

pub returns : goal.returns
returns c =
    let l = c.loop-k in
    nested_end (sign (held_system c.args.file)) c.args.v.now c.args.i c.args.file.model.levels l.invariant c.args.file.held.laid_out.few_levels c.loop-k-test.false
