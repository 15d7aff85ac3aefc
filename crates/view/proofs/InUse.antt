-- What a model in use is, for those who work on it: the counts are the file's, it has a line and a level, and the system of the file at hand is what the file stands for.
-- Assumes nothing.
use mathlib.Core.Path.{◌≡◌, sym}
use Prim.Native.Nat.{◌<◌}
use native.Mathlib.Omega.{arith}
use Rattle.model.specs.File.{decode}
use Rattle.model.specs.Files.{held_system}
use Rattle.model.specs.declared.held.HeldFile.{HeldFile}
use Rattle.checker.specs.Checks.{InUse}
use Rattle.checker.proofs.Accepted.{checked}
use Rattle.view.specs.View.{ItsCounts}

pub record Used (file : HeldFile) : Type 0 where
  pub its_counts : ItsCounts file
  pub some_lines : 0 < file.model.lines
  pub some_levels : 0 < file.model.levels
  pub system : held_system file ≡ decode file.bytes.now

pub used : (file : HeldFile) → InUse file.bytes.now file.model.lines file.model.levels → Used file
used file h =
    let c = checked file.bytes.now (sym h) in
    record {
      its_counts = (c.counts.lines, c.counts.levels);
      some_lines = omega (arith, c.counts.lines, c.accepted.header.lines_least);
      some_levels = omega (arith, c.counts.levels, c.accepted.header.levels_least);
      system = c.system;
    }
