-- `numbers::put_number` meets its contract. The loop's invariant: the first i bytes are written, and what is left of x is x without them.
-- Assumes nothing.
use mathlib.Core.List.{◌++◌}
use mathlib.Core.Path.{◌≡◌}
use Prim.Native.Nat.{◌/◌, ◌^◌}
use lib.ListN.{drop}
use Rattle.numbers.specs.Numbers.{bytes_of}
use Rattle.numbers.proofs.put_number.Given as goal

abbrev pub invariant-loop-i : goal.invariant-loop-i
invariant-loop-i l = (l.rest ≡ l.x / 256 ^ l.i) × (l.s ≡ bytes_of l.i l.x ++ drop l.i l.initial.s)
