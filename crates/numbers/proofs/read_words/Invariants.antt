-- `numbers::read_words` meets its contract. The loop's invariant: the first i words are read.
-- Assumes nothing.
use mathlib.Core.List.{◌++◌}
use mathlib.Core.Path.{◌≡◌}
use lib.ListN.{drop}
use Rattle.numbers.specs.Numbers.{words_from}
use Rattle.numbers.proofs.read_words.Given as goal

abbrev pub invariant-loop-i : goal.invariant-loop-i
invariant-loop-i l = l.words ≡ words_from l.i l.s ++ drop l.i l.initial.words
