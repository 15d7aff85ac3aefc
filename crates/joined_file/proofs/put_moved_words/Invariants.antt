-- `joined_file::put_moved_words` meets its contract: after j words the slice begins with their bytes, moved up, and the rest is as it was.
-- Assumes nothing.
use mathlib.Core.List.{List, ◌++◌, map}
use mathlib.Core.Path.{◌≡◌}
use Prim.Native.Nat.{ℕ, ◌*◌}
use lib.ListN.{take, drop}
use Rattle.sets.specs.SideBySide.{moved_up}
use Rattle.numbers.specs.Numbers.{words_from, word_bytes}
use Rattle.joined_file.proofs.put_moved_words.Given as goal

-- the words that are put, of a file that has them from `first` on
abbrev pub moved : List ℕ → ℕ → ℕ → ℕ → List ℕ
moved file up first count = map (moved_up up) (words_from count (drop first file))

abbrev pub invariant-loop-j : goal.invariant-loop-j
invariant-loop-j l = l.s ≡ word_bytes (take l.j (moved l.file.bytes.now l.up l.first l.j-end)) ++ drop (8 * l.j) l.initial.s
