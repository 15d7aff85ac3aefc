-- The sections of a file: the entries of a list some places apart, the words of a line, searches over words by their places.
-- Assumes nothing.
use mathlib.Core.Bool.{Bool, true, false}
use mathlib.Core.List.{List}
use mathlib.Core.Path.{◌≡◌, refl, sym, ◌∙◌, ap}
use Prim.Native.Nat.{ℕ, zero, suc, ◌+◌, ◌*◌, ◌<◌}
use native.Mathlib.Nat.{mul-zero, mul-suc}
use native.Mathlib.Omega.{arith}
use lib.ListN.{length, get_or, drop, length-replicate}
use lib.Seq.{drop-drop, get_or-drop}
use Rattle.system.specs.Query.{words_of}
use Rattle.numbers.specs.Numbers.{number_at, words_from}
use Rattle.model.specs.File.{words_in, every, thresholds_from, sections}
use Rattle.model.specs.Checks.{some, some_below}
use Rattle.numbers.proofs.Codec.{words_length, words_part, word_at}
use Rattle.model.proofs.Sizes.{line_fits}
use Rattle.model.proofs.Searches.{some_index, below_same}

-- entry i stands i times so many places behind the first
pub every_at : (places n : ℕ) (s : List ℕ) (i : ℕ) → i < n → get_or (every places n s) i 0 ≡ get_or s (places * i) 0
unfolding every
every_at places zero s i h = absurd (omega arith)
every_at places (suc n) s zero h = ap (λ (j : ℕ). get_or s j 0) (sym (mul-zero places))
every_at places (suc n) s (suc i) h =
    every_at places n (drop places s) i (omega arith) ∙ get_or-drop places s (places * i) 0
    ∙ ap (λ (j : ℕ). get_or s j 0) (omega (arith, mul-suc places i))

pub every_length : (places n : ℕ) (s : List ℕ) → length (every places n s) ≡ n
unfolding every
every_length places zero s = refl
every_length places (suc n) s = ap suc (every_length places n (drop places s))

pub thresholds_length : (old : Bool) (n : ℕ) (s : List ℕ) → length (thresholds_from old n s) ≡ n
thresholds_length true n s = length-replicate n 0
thresholds_length false n s = every_length 2 n s

pub words_of_lem : (n d : ℕ) (file : List ℕ) (i : ℕ) → i < n
    → words_of (sections n d file) i ≡ words_from d (drop (words_in file + 8 * (i * d)) file)
words_of_lem n d file i h =
    words_part (n * d) (i * d) d (drop (words_in file) file) (line_fits d h)
    ∙ ap (words_from d) (drop-drop (8 * (i * d)) (words_in file) file)

-- a search over the words at an offset goes by their places
pub some_words : (p : ℕ → Bool) (k : ℕ) (file : List ℕ) (at : ℕ)
    → some p (words_from k (drop at file)) ≡ some_below k (λ i. p (number_at file (at + 8 * i) 8))
some_words p k file at =
    some_index p (words_from k (drop at file))
    ∙ ap (λ (n : ℕ). some_below n (λ i. p (get_or (words_from k (drop at file)) i 0))) (words_length k (drop at file))
    ∙ below_same _ _ k (λ i l. ap p (word_at k (drop at file) i l ∙ rw (drop-drop (8 * i) at file)))
