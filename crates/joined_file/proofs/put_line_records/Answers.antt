use mathlib.Core.Path.{◌≡◌, refl, sym, ◌∙◌, ap}
use Prim.Native.Nat.{ℕ, ◌*◌}
use native.Mathlib.Omega.{arith}
use lib.ListN.{length}
use Rattle.model.specs.File.{line_records}
use Rattle.model.specs.Files.{laid_system}
use Rattle.model.proofs.Lines.{every_length}
use Rattle.lists.proofs.Front.{front_all}
use Rattle.encoder.proofs.LineRecords.{records_stored}
use Rattle.joined_file.proofs.put_line_records.Goals as goal

pub loop-i-init : goal.loop-i-init
unfolding line_records
loop-i-init c = refl

pub loop-i-preserved : goal.loop-i-preserved
loop-i-preserved c =
    let system = laid_system c.args.file in
    let count : length system.kinds ≡ c.args.file.model.lines = every_length _ _ _ in
    records_stored system.kinds system.thresholds c.args.s.now c.loop-i.s c.loop-i.i _ _ (rw count c.loop-i-test.true) (rw count c.requires)
    c.kind.ensures c.threshold.ensures c.loop-i.invariant

pub returns : goal.returns
returns c =
    let system = laid_system c.args.file in
    let all : c.loop-i.i ≡ c.args.file.model.lines = omega arith in
    front_all (λ ks. line_records ks system.thresholds) system.kinds c.args.s.now (all ∙ sym (every_length _ _ _)) (ap (λ (n : ℕ). 2 * n) all) c.loop-i.invariant
