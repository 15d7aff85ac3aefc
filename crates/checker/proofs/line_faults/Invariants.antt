-- `checker::line_faults` meets its contract: an old file's kinds are a part of it, and none of its lines misfits where no kind is over 1; in a new one both
-- answers are those for the lines passed.
-- Assumes nothing.
use mathlib.Core.Bool.{Bool}
use mathlib.Core.Path.{◌≡◌}
use Prim.Native.Nat.{ℕ}
use lib.Dec.{ltb}
use lib.ListN.{get_or}
use Rattle.system.specs.System.{System}
use Rattle.model.specs.Checks.{some_below, threshold_misfits}
use Rattle.model.specs.Held.{system_in}
use Rattle.checker.proofs.line_faults.Given as goal

abbrev pub kind_over : System → ℕ → Bool
kind_over s i = ltb 2 (get_or s.kinds i 0)

abbrev pub invariant-loop-i : goal.invariant-loop-i
invariant-loop-i l =
    let s = system_in l.file.bytes.now l.file.model in
    (l.over ≡ some_below l.i (kind_over s)) × (l.misfit ≡ some_below l.i (threshold_misfits s))
