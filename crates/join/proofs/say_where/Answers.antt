-- The signs of a file that checking accepts lie within it.
use Rattle.std.proofs.Common.{arith}
use Rattle.checker.proofs.Accepted.{checked}
use Rattle.joiner.proofs.Outcome.{signs_there}
use Rattle.join.proofs.say_where.Goals as goal

pub kinds_at-kinds_at-requires : goal.kinds_at-kinds_at-requires
kinds_at-kinds_at-requires g c = (checked c.args.first.now c.in-Ok.ensures.answer).limits.1

pub slice_bounds-say_unlike-end : goal.slice_bounds-say_unlike-end
slice_bounds-say_unlike-end g c =
    omega (arith, c.kinds_at-kinds_at.ensures, signs_there (checked c.args.first.now c.in-Ok.ensures.answer).laid_out)

pub slice_bounds-say_unlike-end-2 : goal.slice_bounds-say_unlike-end-2
slice_bounds-say_unlike-end-2 g c =
    omega (arith, c.kinds_at-kinds_at.ensures, c.if-m-k.false, signs_there (checked c.args.second.now c.in-Ok-check.ensures.answer).laid_out)
