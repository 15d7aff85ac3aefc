use Prim.Native.Nat.{◌+◌, ◌-◌}
use native.Mathlib.Omega.{arith}
use lib.ListN.{get_or}
use Rattle.one_sided_leaves.proofs.Blocks.{ends_more, last_leaf_within}
use Rattle.one_sided_leaves.proofs.arguments.find_ends.Goals as goal

pub block_end-end-requires : goal.block_end-end-requires
block_end-end-requires c =
    let l = c.loop-i in
    let t = c.loop-i-test.true in
    (omega arith, c.requires, (λ j h q. l.invariant j (omega arith) q))

pub overflow_cast-over : goal.overflow_cast-over
overflow_cast-over c =
    let l = c.loop-i in
    let v = c.args.v.now in
    omega (arith, c.block_end-end.ensures, last_leaf_within (get_or v (l.i - 1) 0) v (l.i - 1 + 1) (omega arith))

pub loop-i-preserved : goal.loop-i-preserved
loop-i-preserved c =
    let l = c.loop-i in
    let t = c.loop-i-test.true in
    ends_more c.args.v.now l.over (l.i - 1) _ (omega arith) (λ j h q. l.invariant j (omega arith) q) c.block_end-end.ensures
