use native.Mathlib.Omega.{arith}
use lib.ListN.{get_or}
use Rattle.one_sided.proofs.Leaves.{last_over_is}
use Rattle.one_sided_leaves.proofs.Blocks.{starts_more}
use Rattle.one_sided_leaves.proofs.arguments.find_starts.Goals as goal

pub overflow_cast-before : goal.overflow_cast-before
overflow_cast-before c =
    let l = c.loop-i in
    let v = c.args.v.now in
    omega (arith, c.block_start-start.ensures, (last_over_is (get_or v l.i 0) v l.i).within)

pub loop-i-preserved : goal.loop-i-preserved
loop-i-preserved c =
    let l = c.loop-i in
    let v = c.args.v.now in
    starts_more v l.before l.i _ (omega arith) l.invariant c.block_start-start.ensures
