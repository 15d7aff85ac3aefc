-- A file passes all checks exactly where its counts and contents pass and it is laid out right.
-- Assumes nothing.
use mathlib.Core.Bool.{Bool, true, false, not, ◌||◌, or-true, or-false}
use mathlib.Core.List.{List}
use mathlib.Core.Path.{◌≡◌, refl, ap}
use Prim.Native.Nat.{ℕ, ◌+◌, ◌*◌}
use native.Mathlib.Omega.{arith}
use lib.Dec.{eqb, ltb}
use lib.ListN.{length}
use borrow.Author.Tests.{le-ltb, eqb-true}
use Rattle.answers.proofs.Checks.{Passes, passes_both, passes_append, passes_none, none_first, same, unlike}
use Rattle.model.specs.File.{kinds_at, words_at, old_words_at, lines_in, levels_in, words_in, is_old, line_bytes}
use Rattle.model.specs.Checks.{count_checks}
use Rattle.checker.specs.Checks.{layout_checks, header_checks, section_checks, file_checks, file_number}
use Rattle.model.proofs.RoundTrip.{Laid, old_in}

-- the third offset is one of two exactly where the words begin behind the bytes of the lines
module _ (n d : ℕ) (file : List ℕ) where
  begins_passes : (old : Bool) → words_in file ≡ kinds_at d + line_bytes old * n → not (eqb (words_in file) (words_at n d) || old) ≡ false
  begins_passes true h = ap not (or-true (eqb (words_in file) (words_at n d)))
  begins_passes false h = rw (or-false (eqb (words_in file) (words_at n d))) (unlike h)

  passes_begins : (old : Bool) → is_old n d file ≡ old → not (eqb (words_in file) (words_at n d) || old) ≡ false → words_in file ≡ kinds_at d + line_bytes old * n
  passes_begins true is h = omega (arith, eqb-true (words_in file) (old_words_at n d) is)
  passes_begins false is h = same (rw (or-false (eqb (words_in file) (words_at n d))) at h)

laid_passes : (file : List ℕ) → Laid file → Passes (layout_checks file)
laid_passes file laid = (
  unlike laid.signs_right,
  (
    unlike laid.kinds_right,
    (begins_passes (lines_in file) (levels_in file) file (old_in file) laid.words_right, (unlike laid.length_right, tt)),
  ),
)

pub passes_laid : (file : List ℕ) → Passes (layout_checks file) → Laid file
passes_laid file h =
    record {
      signs_right = same h.0;
      kinds_right = same h.1.0;
      words_right = passes_begins (lines_in file) (levels_in file) file (old_in file) refl h.1.1.0;
      length_right = same h.1.1.1.0;
    }

-- a file passes where its counts, layout and contents do
pub record FilePasses (file : List ℕ) : Type 0 where
  pub counts : Passes (count_checks (lines_in file) (levels_in file))
  pub laid : Laid file
  pub contents : Passes (section_checks file)

pub file_passes : (file : List ℕ) → file_number file ≡ 0 → FilePasses file
unfolding file_number
file_passes file h =
    let all = passes_both (header_checks file) (section_checks file) (none_first (file_checks file) refl h) in
    let header = passes_both (count_checks (lines_in file) (levels_in file)) (layout_checks file) all.0.1 in
    record { counts = header.0; laid = passes_laid file header.1; contents = all.1 }

pub passes_file : (file : List ℕ) → FilePasses file → file_number file ≡ 0
unfolding file_number
passes_file file ok =
    let long : ltb (length file) 16 ≡ false = le-ltb (length file) 16 (omega (arith, ok.laid)) in
    let header = passes_append (count_checks (lines_in file) (levels_in file)) (layout_checks file) ok.counts (laid_passes file ok.laid) in
    passes_none (file_checks file) (passes_append (header_checks file) (section_checks file) (long, header) ok.contents)
