use mathlib.Core.Path.{refl}
use Rattle.model.specs.File.{line_records}
use Rattle.encoder.proofs.LineRecords.{records_stored}
use Rattle.encoder.proofs.put_lines.Goals as goal

pub loop-i-init : goal.loop-i-init
unfolding line_records
loop-i-init c = refl

pub loop-i-preserved : goal.loop-i-preserved
loop-i-preserved c =
    records_stored c.args.kinds.now c.args.thresholds.now c.args.s.now c.loop-i.s c.loop-i.i _ _ c.loop-i-test.true c.requires.kinds_in_bounds refl refl
    c.loop-i.invariant
