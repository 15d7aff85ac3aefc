-- A read adds what it gave to what was read before.
use Rattle.std.proofs.Common.{rules}
use Rattle.streams.proofs.Filled.{filled_more}
use Rattle.streams.proofs.read_input.Goals as goal

pub loop-done-preserved : goal.loop-done-preserved
loop-done-preserved g c =
    let before = c.loop-done.invariant in
    (search rules, filled_more _ _ _ _ _ _ _ _ before.0 c.in-Ok.ensures.bound.0 before.1 c.in-Ok.ensures.bytes.0)
