-- `numbers::put_words` meets its contract: after i words the slice begins with their bytes, and the rest is as it was.
-- Assumes nothing.
use mathlib.Core.List.{◌++◌}
use mathlib.Core.Path.{◌≡◌}
use Prim.Native.Nat.{◌*◌}
use lib.ListN.{take, drop}
use Rattle.numbers.specs.Numbers.{word_bytes}
use Rattle.numbers.proofs.put_words.Given as goal

abbrev pub invariant-loop-i : goal.invariant-loop-i
invariant-loop-i l = l.s ≡ word_bytes (take l.i l.words) ++ drop (8 * l.i) l.initial.s
