-- Where a line's kind, its threshold and its word for a level stand in the file.
-- Assumes nothing.
use mathlib.Core.Bool.{Bool, true, false}
use mathlib.Core.List.{List}
use mathlib.Core.Path.{◌≡◌, refl, sym, ◌∙◌, ap}
use Prim.Native.Nat.{ℕ, zero, suc, ◌+◌, ◌*◌, ◌≤◌, ◌<◌}
use native.Mathlib.Nat.{mul_comm, mul_assoc}
use native.Mathlib.Omega.{arith}
use lib.ListN.{length, get_or, drop, replicate}
use lib.Seq.{drop-drop, get_or-drop}
use Rattle.system.specs.Query.{words_of}
use Rattle.numbers.specs.Numbers.{number_at}
use Rattle.model.specs.File.{kinds_at, words_at, old_words_at, words_in, is_old, line_bytes, sections}
use Rattle.model.specs.Held.{LaidOut}
use Rattle.model.specs.declared.layout.Model.{Model}
use Rattle.numbers.proofs.Codec.{words_length, word_at}
use Rattle.model.proofs.Lines.{every_at, words_of_lem}

-- where the words of a file begin that is laid out, by its layout
module _ {file : List ℕ} {m : Model} (h : LaidOut file m) where
  pub old_words : is_old m.lines m.levels file ≡ true → words_in file ≡ old_words_at m.lines m.levels
  old_words old = omega (arith, rw old at h.laid)

  pub new_words : is_old m.lines m.levels file ≡ false → words_in file ≡ words_at m.lines m.levels
  new_words new = rw new at h.laid

  -- so the header is there
  pub header_whole : 16 ≤ length file
  header_whole = omega (arith, h.laid, h.whole)

-- the kind of a line, and that it is there
pub line_kind : (n d : ℕ) (file : List ℕ) (i : ℕ) → i < n
    → get_or (sections n d file).kinds i 0 ≡ get_or file (kinds_at d + line_bytes (is_old n d file) * i) 0
line_kind n d file i h =
    every_at (line_bytes (is_old n d file)) n (drop (kinds_at d) file) i h ∙ get_or-drop (kinds_at d) file (line_bytes (is_old n d file) * i) 0

pub kind-room : (file : List ℕ) (m : Model) (i : ℕ) → LaidOut file m → i < m.lines → kinds_at m.levels + line_bytes (is_old m.lines m.levels file) * i < length file
kind-room file m i laid h = go (is_old m.lines m.levels file) refl
  where
    go : (t : Bool) → is_old m.lines m.levels file ≡ t → kinds_at m.levels + line_bytes t * i < length file
    go true old = omega (arith, old_words laid old, laid.whole)
    go false new = omega (arith, new_words laid new, laid.whole)

zero_at : (n i : ℕ) → get_or {A = ℕ} (replicate n 0) i 0 ≡ 0
zero_at zero i = refl
zero_at (suc n) zero = refl
zero_at (suc n) (suc i) = zero_at n i

-- the threshold of a line: none in an old file
pub old_threshold : (n d : ℕ) (file : List ℕ) (i : ℕ) → is_old n d file ≡ true → get_or (sections n d file).thresholds i 0 ≡ 0
old_threshold n d file i old = rw old (zero_at n i)

pub new_threshold : (n d : ℕ) (file : List ℕ) (i : ℕ) → i < n → is_old n d file ≡ false
    → get_or (sections n d file).thresholds i 0 ≡ get_or file (kinds_at d + 1 + 2 * i) 0
new_threshold n d file i h new = rw new (every_at 2 n (drop (kinds_at d + 1) file) i h ∙ get_or-drop (kinds_at d + 1) file (2 * i) 0)

-- every line has a word for each level
pub word_room : (n d : ℕ) (file : List ℕ) (k : ℕ) → k < d → (i : ℕ) → i < n → k < length (words_of (sections n d file) i)
word_room n d file k h i l = rw (words_of_lem n d file i l, words_length) h

-- the word of line i for level k + 1
pub word_place : (n d : ℕ) (file : List ℕ) (i k at line : ℕ) → i < n → k < d → at ≡ words_in file + 8 * k → line ≡ 8 * d
    → number_at file (at + line * i) 8 ≡ get_or (words_of (sections n d file) i) k 0
word_place n d file i k at line h l ea el =
    let place : words_in file + 8 * (i * d) + 8 * k ≡ at + line * i = omega (arith, ap (λ (z : ℕ). z * i) el, mul_assoc 8 d i, mul_comm i d) in
    sym (rw (words_of_lem n d file i h) (word_at d (drop (words_in file + 8 * (i * d)) file) k l ∙ rw (drop-drop (8 * k) (words_in file + 8 * (i * d)) file, place)))
