-- `met_lines::operand_set` meets its contract. The loop's invariant: the set has what the words passed select.
-- Assumes nothing.
use mathlib.Core.Path.{◌≡◌}
use lib.ListN.{drop}
use Rattle.numbers.specs.Numbers.{words_from}
use Rattle.met_lines.specs.MetLines.{union_of}
use Rattle.met_lines.proofs.operand_set.Given as goal

abbrev pub invariant-loop-k : goal.invariant-loop-k
invariant-loop-k l = l.set ≡ union_of (words_from l.k (drop l.at l.file))
