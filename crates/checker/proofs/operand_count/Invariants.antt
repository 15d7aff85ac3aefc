-- `checker::operand_count` meets its contract: the count is that of the words passed. Each word's is a `u32`, so the sum of eight fits.
-- Assumes nothing.
use mathlib.Core.Path.{◌≡◌}
use Prim.Native.Nat.{◌*◌, ◌^◌, ◌≤◌}
use lib.ListN.{drop}
use Rattle.system.specs.Query.{operand_count}
use Rattle.numbers.specs.Numbers.{words_from}
use Rattle.checker.proofs.operand_count.Given as goal

abbrev pub invariant-loop-k : goal.invariant-loop-k
invariant-loop-k l = (l.count ≤ 2 ^ 32 * l.k) × (l.count ≡ operand_count (words_from l.k (drop l.at l.file)))
