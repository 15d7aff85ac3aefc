-- The joined file fits the buffer.
use Rattle.std.proofs.Common.{◌≤◌, arith, refl, sym, length, length-take-le}
use Rattle.joiner.proofs.Passed.{made_fits}
use Rattle.join.proofs.join_files.Goals as goal

pub slice_bounds-out-end : goal.slice_bounds-out-end
slice_bounds-out-end g c = omega (arith, made_fits c.in-Ok.ensures refl, c.join.auto.buffer)

pub slice_bounds-write_output-end : goal.slice_bounds-write_output-end
slice_bounds-write_output-end g c =
    let fits : c.in-Ok.length ≤ length c.join.new.buffer =
    omega (arith, made_fits c.in-Ok.ensures refl, c.join.auto.buffer) in
    sym (length-take-le _ _ fits)
