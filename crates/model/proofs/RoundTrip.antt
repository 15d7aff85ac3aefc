-- A system and its file: the file of a system that fits is new and stands for that system, and a new file whose offsets and length are right
-- is the file of the system that it stands for.
-- Assumes nothing.
use mathlib.Core.Bool.{Bool, false}
use mathlib.Core.List.{List, [], ◌∷◌, ◌++◌, append-nil}
use mathlib.Core.Path.{◌≡◌, refl, sym, ◌∙◌, ap, ap₂}
use Prim.Native.Nat.{ℕ, zero, suc, ◌+◌, ◌*◌, ◌^◌, ◌≤◌}
use native.Mathlib.Omega.{arith}
use borrow.Author.Tests.{ne_eqb}
use lib.ListN.{length, take, drop, length-append, length-drop}
use lib.Seq.{take-add, take_all, take_at, drop_at, drop-drop}
use Rattle.system.specs.System.{System, Sliced}
use Rattle.model.specs.File.{signs_at, kinds_at, words_at, old_words_at, file_length, lines_in, levels_in, words_in, is_old, line_bytes, every, thresholds_from, sections, decode, header_bytes, line_records, encode}
use Rattle.numbers.specs.Numbers.{little, number_at, bytes_of, words_from, word_bytes}
use Rattle.lists.specs.Below.{AllBelow}
use Rattle.lists.proofs.Below.{below_drop}
use Rattle.numbers.proofs.Codec.{little_bytes, number_bytes, word_bytes_length, words_of_bytes, bytes_of_words}

-- a system whose slices, counts and words a file can hold
pub record Fitting (m : System) : Type 0 where
  pub lines_some : 1 ≤ m.lines
  pub lines_few : m.lines ≤ 64
  pub levels_few : m.levels ≤ 8
  pub sliced : Sliced m
  pub words_below : AllBelow (2 ^ 64) m.words

-- whether a file is an old one by its own counts
abbrev pub old_in : List ℕ → Bool
old_in file = is_old (lines_in file) (levels_in file) file

-- a file with the offsets and the length that its counts ask for
pub record Laid (file : List ℕ) : Type 0 where
  pub signs_right : number_at file 4 4 ≡ signs_at
  pub kinds_right : number_at file 8 4 ≡ kinds_at (levels_in file)
  pub words_right : words_in file ≡ kinds_at (levels_in file) + line_bytes (old_in file) * lines_in file
  pub length_right : length file ≡ words_in file + 8 * (lines_in file * levels_in file)

-- the bytes of the lines, in front of others: their number, and the kinds and the thresholds among them
pub records_length : (kinds thresholds : List ℕ) → length (line_records kinds thresholds) ≡ 2 * length kinds
unfolding line_records
records_length [] ts = refl
records_length (k ∷ ks) ts = omega (arith, records_length ks (drop 1 ts))

records_kinds : (kinds thresholds rest : List ℕ) → every 2 (length kinds) (line_records kinds thresholds ++ rest) ≡ kinds
unfolding every line_records
records_kinds [] ts rest = refl
records_kinds (k ∷ ks) ts rest = ap (λ (s : List ℕ). k ∷ s) (records_kinds ks (drop 1 ts) rest)

records_thresholds : (kinds thresholds rest : List ℕ) → length thresholds ≡ length kinds
    → every 2 (length kinds) (drop 1 (line_records kinds thresholds ++ rest)) ≡ thresholds
unfolding every line_records
records_thresholds [] [] rest e = refl
records_thresholds [] (t ∷ ts) rest e = absurd (omega arith)
records_thresholds (k ∷ ks) [] rest e = absurd (omega arith)
records_thresholds (k ∷ ks) (t ∷ ts) rest e = ap (λ (s : List ℕ). t ∷ s) (records_thresholds ks ts rest (omega arith))

-- and the bytes again from the kinds and the thresholds in them
records_back : (n : ℕ) (s : List ℕ) → 2 * n ≤ length s → line_records (every 2 n s) (every 2 n (drop 1 s)) ≡ take (2 * n) s
unfolding every line_records
records_back zero s h = refl
records_back (suc n) [] h = absurd (omega arith)
records_back (suc n) (k ∷ []) h = absurd (omega arith)
records_back (suc n) (k ∷ t ∷ s) h =
    let two : suc (suc (2 * n)) ≡ 2 * suc n = omega arith in
    ap (λ (r : List ℕ). k ∷ t ∷ r) (records_back n s (omega arith)) ∙ ap (λ (j : ℕ). take j (k ∷ t ∷ s)) two

pub encode_length : (m : System) → Sliced m → length (encode m) ≡ file_length m.lines m.levels
unfolding encode bytes_of
encode_length m sliced =
    omega (
      arith,
      length-append m.signs (line_records m.kinds m.thresholds ++ word_bytes m.words),
      length-append (line_records m.kinds m.thresholds) (word_bytes m.words),
      records_length m.kinds m.thresholds,
      word_bytes_length m.words,
    )

module _ (m : System) (fit : Fitting m) where
  pub encode_lines : lines_in (encode m) ≡ m.lines
  unfolding encode bytes_of
  encode_lines = little_bytes 2 m.lines (omega (arith, fit.lines_few))

  pub encode_levels : levels_in (encode m) ≡ m.levels
  unfolding encode bytes_of
  encode_levels = little_bytes 2 m.levels (omega (arith, fit.levels_few))

  encode_words : words_in (encode m) ≡ words_at m.lines m.levels
  unfolding encode bytes_of
  encode_words = little_bytes 4 (words_at m.lines m.levels) (omega (arith, fit))

  -- what is made is new
  made_new : is_old m.lines m.levels (encode m) ≡ false
  made_new = ne_eqb (words_in (encode m)) (old_words_at m.lines m.levels) (λ e. omega (arith, encode_words, fit.lines_some))

  pub encode_new : old_in (encode m) ≡ false
  encode_new = ap₂ (λ (n d : ℕ). is_old n d (encode m)) encode_lines encode_levels ∙ made_new

  pub encode_laid : Laid (encode m)
  encode_laid =
      record {
        signs_right = unfold encode bytes_of little in refl;
        kinds_right = unfold encode bytes_of in (little_bytes 4 (kinds_at m.levels) (omega (arith, fit.levels_few)) ∙ ap kinds_at (sym encode_levels));
        words_right = encode_words ∙ rw (encode_new, encode_lines, encode_levels);
        length_right = encode_length m fit.sliced ∙ rw (encode_words, encode_lines, encode_levels);
      }

  -- behind the signs, and behind the bytes of the lines
  behind_signs : drop (kinds_at m.levels) (encode m) ≡ line_records m.kinds m.thresholds ++ word_bytes m.words
  unfolding encode bytes_of
  behind_signs = sym (drop-drop m.levels 16 (encode m)) ∙ drop_at m.signs _ m.levels fit.sliced.signs_long

  behind_lines : drop (words_at m.lines m.levels) (encode m) ≡ word_bytes m.words
  behind_lines =
      sym (drop-drop (2 * m.lines) (kinds_at m.levels) (encode m)) ∙ ap (drop (2 * m.lines)) behind_signs
      ∙ drop_at (line_records m.kinds m.thresholds) _ (2 * m.lines) (records_length m.kinds m.thresholds ∙ ap (λ (n : ℕ). 2 * n) fit.sliced.kinds_long)

  signs_back : take m.levels (drop signs_at (encode m)) ≡ m.signs
  unfolding encode bytes_of
  signs_back = take_at m.signs _ m.levels fit.sliced.signs_long

  kinds_back : every (line_bytes (is_old m.lines m.levels (encode m))) m.lines (drop (kinds_at m.levels) (encode m)) ≡ m.kinds
  kinds_back =
      ap (λ (old : Bool). every (line_bytes old) m.lines (drop (kinds_at m.levels) (encode m))) made_new
      ∙ ap₂ (every 2) (sym fit.sliced.kinds_long) behind_signs ∙ records_kinds m.kinds m.thresholds (word_bytes m.words)

  thresholds_back : thresholds_from (is_old m.lines m.levels (encode m)) m.lines (drop (kinds_at m.levels + 1) (encode m)) ≡ m.thresholds
  thresholds_back =
      ap (λ (old : Bool). thresholds_from old m.lines (drop (kinds_at m.levels + 1) (encode m))) made_new
      ∙ ap₂ (every 2) (sym fit.sliced.kinds_long) (sym (drop-drop 1 (kinds_at m.levels) (encode m)) ∙ ap (drop 1) behind_signs)
      ∙ records_thresholds m.kinds m.thresholds (word_bytes m.words) (fit.sliced.thresholds_long ∙ sym fit.sliced.kinds_long)

  words_back : words_from (m.lines * m.levels) (drop (words_in (encode m)) (encode m)) ≡ m.words
  words_back =
      ap₂ words_from (sym fit.sliced.words_long) (ap (λ (at : ℕ). drop at (encode m)) encode_words ∙ behind_lines ∙ sym (append-nil (word_bytes m.words)))
      ∙ words_of_bytes m.words fit.words_below []

  pub decode_encode : decode (encode m) ≡ m
  unfolding decode
  decode_encode =
      ap₂ (λ (n d : ℕ). sections n d (encode m)) encode_lines encode_levels
      ∙ (λ i. record { lines = m.lines; levels = m.levels; signs = signs_back i; kinds = kinds_back i; thresholds = thresholds_back i; words = words_back i })

-- a part of a list is two parts, one behind the other
part_split : (s : List ℕ) (at j k : ℕ) → take (j + k) (drop at s) ≡ take j (drop at s) ++ take k (drop (at + j) s)
part_split s at j k = take-add j k (drop at s) ∙ ap (λ (r : List ℕ). take j (drop at s) ++ take k r) (drop-drop j at s)

module _ (file : List ℕ) (bytes : AllBelow 256 file) (laid : Laid file) (new : old_in file ≡ false) where
  words_new : words_in file ≡ words_at (lines_in file) (levels_in file)
  words_new = laid.words_right ∙ rw new

  header_back : header_bytes (lines_in file) (levels_in file) ≡ take 16 file
  header_back =
      let long : 16 ≤ length file = omega (arith, laid.length_right, words_new) in
      ap₂ ◌++◌ (number_bytes file bytes 0 2 (omega arith))
      (ap₂ ◌++◌ (number_bytes file bytes 2 2 (omega arith))
      (ap₂ ◌++◌ (ap (bytes_of 4) (sym laid.signs_right) ∙ number_bytes file bytes 4 4 (omega arith))
      (ap₂ ◌++◌ (ap (bytes_of 4) (sym laid.kinds_right) ∙ number_bytes file bytes 8 4 (omega arith))
      (ap (bytes_of 4) (sym words_new) ∙ number_bytes file bytes 12 4 (omega arith))
      ∙ sym (part_split file 8 4 4))
      ∙ sym (part_split file 4 4 8))
      ∙ sym (part_split file 2 2 12))
      ∙ sym (part_split file 0 2 14)

  -- the bytes of the lines of what the file stands for
  lines_back : line_records (decode file).kinds (decode file).thresholds ≡ take (2 * lines_in file) (drop (kinds_at (levels_in file)) file)
  unfolding decode
  lines_back =
      let n = lines_in file in
      let d = levels_in file in
      ap (λ (old : Bool). line_records (every (line_bytes old) n (drop (kinds_at d) file)) (thresholds_from old n (drop (kinds_at d + 1) file))) new
      ∙ ap (λ (s : List ℕ). line_records (every 2 n (drop (kinds_at d) file)) (every 2 n s)) (sym (drop-drop 1 (kinds_at d) file))
      ∙ records_back n (drop (kinds_at d) file) (omega (arith, laid.length_right, words_new, length-drop (kinds_at d) file))

  pub encode_decode : encode (decode file) ≡ file
  unfolding encode decode
  encode_decode =
      let n = lines_in file in
      let d = levels_in file in
      let rest : 8 * (n * d) ≤ length (drop (words_in file) file) = omega (arith, laid.length_right, length-drop (words_in file) file) in
      ap₂ ◌++◌ header_back
      (ap (λ (r : List ℕ). take d (drop signs_at file) ++ r)
      (ap₂ ◌++◌ lines_back (bytes_of_words (n * d) (drop (words_in file) file) (below_drop (words_in file) bytes) rest ∙ ap (λ (at : ℕ). take (8 * (n * d)) (drop at file)) words_new)
      ∙ sym (part_split file (kinds_at d) (2 * n) (8 * (n * d))))
      ∙ sym (part_split file signs_at d (2 * n + 8 * (n * d))))
      ∙ sym (part_split file 0 16 (d + (2 * n + 8 * (n * d))))
      ∙ take_all (16 + (d + (2 * n + 8 * (n * d)))) file (omega (arith, laid.length_right, words_new))
