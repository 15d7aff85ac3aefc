-- `encoder::put_lines` meets its contract: after i lines the slice begins with their two bytes each, and the rest is as it was.
-- Assumes nothing.
use mathlib.Core.List.{◌++◌}
use mathlib.Core.Path.{◌≡◌}
use Prim.Native.Nat.{◌*◌}
use lib.ListN.{take, drop}
use Rattle.model.specs.File.{line_records}
use Rattle.encoder.proofs.put_lines.Given as goal

abbrev pub invariant-loop-i : goal.invariant-loop-i
invariant-loop-i l = l.s ≡ line_records (take l.i l.kinds) l.thresholds ++ drop (2 * l.i) l.initial.s
