-- `checker::stray_selection` meets its contract: nothing is found, and none of the words passed, those of i lines and k levels, has a line of n or more.
-- Assumes nothing.
use mathlib.Core.Bool.{Bool, false}
use mathlib.Core.List.{List}
use mathlib.Core.Path.{◌≡◌}
use Prim.Native.Nat.{ℕ, ◌+◌, ◌*◌}
use Rattle.numbers.specs.Numbers.{number_at}
use Rattle.model.specs.File.{words_in}
use Rattle.model.specs.Checks.{strays}
use Rattle.model.proofs.Searches.{NoneBelow}
use Rattle.checker.proofs.stray_selection.Given as goal

-- j words are passed, none of them strays, and nothing is found
pub record Passed (file : List ℕ) (n j : ℕ) (stray : Bool) : Type 0 where
  pub found : stray ≡ false
  pub none : NoneBelow j (λ w. strays n (number_at file (words_in file + 8 * w) 8))

abbrev pub invariant-loop-k : goal.invariant-loop-k
invariant-loop-k l = Passed l.file.bytes.now l.n (l.i * l.d + l.k) l.stray

abbrev pub invariant-search : goal.invariant-search
invariant-search l = Passed l.file.bytes.now l.n (l.i * l.d) l.stray
