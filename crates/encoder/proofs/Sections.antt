-- The sections of a file, each written behind those before it, are the file.
-- Assumes nothing.
use mathlib.Core.List.{List, ◌++◌, append_assoc}
use mathlib.Core.Path.{◌≡◌, refl, sym, ◌∙◌, subst}
use Prim.Native.Nat.{ℕ, ◌+◌, ◌-◌, ◌*◌}
use native.Mathlib.Omega.{arith}
use lib.ListN.{length, drop, length-append}
use borrow.Rule.Slice.PartMut.{mid_of, put_mid}
use Rattle.system.specs.System.{system_of}
use Rattle.model.specs.File.{header_bytes, line_records, encode}
use Rattle.model.proofs.RoundTrip.{records_length}
use Rattle.numbers.specs.Numbers.{bytes_of, word_bytes}
use Rattle.lists.proofs.Front.{front_part, part_put}

-- what is lent of a list from an offset on, and the list with that part put back
abbrev lent_from : ℕ → List ℕ → List ℕ
lent_from a l = mid_of a (length l - a) l

abbrev put_back : ℕ → List ℕ → List ℕ → List ℕ
put_back a l part = put_mid a (length l - a) l part

-- s is what the buffer held. The header goes in front; the signs from 16 on, the lines from k and the words from w, each into the rest of the buffer, of
-- which they take i and j bytes.
module _ (n d : ℕ) (signs kinds thresholds words s : List ℕ) (k w e i j : ℕ)
    (signs-end : 16 + length signs ≡ k) (lines_long : 2 * length kinds ≡ i) (lines_end : k + i ≡ w) (words-end : w + j ≡ e)
    (headed signed lined worded : List ℕ) where
  abbrev l₂ : List ℕ
  l₂ = put_back 16 headed signed

  abbrev l₃ : List ℕ
  l₃ = put_back k l₂ lined

  pub sections_written :
      headed ≡ header_bytes n d ++ drop 16 s
      → signed ≡ signs ++ drop (length signs) (lent_from 16 headed)
      → lined ≡ line_records kinds thresholds ++ drop i (lent_from k l₂)
      → worded ≡ word_bytes words ++ drop j (lent_from w l₃)
      → put_back w l₃ worded ≡ encode (system_of n d signs kinds thresholds words) ++ drop e s
  unfolding bytes_of encode
  sections_written header signs-put lines-put words-put =
      let records = line_records kinds thresholds in
      let f₁ = header_bytes n d in
      let f₂ = f₁ ++ signs in
      let f₃ = f₂ ++ records in
      let behind_signs : length f₂ ≡ k = length-append f₁ signs ∙ signs-end in
      let behind_lines : length f₃ ≡ w = omega (arith, length-append f₂ records, records_length kinds thresholds) in
      let e₂ = front_part f₁ signs s headed signed 16 (length signs) k refl signs-end header signs-put in
      let e₃ = front_part f₂ records s l₂ lined k i w behind_signs lines_end e₂ lines-put in
      front_part f₃ (word_bytes words) s l₃ worded w j e behind_lines words-end e₃ words-put
      ∙ simp append_assoc

-- The same where of the rest from 16 on only the part up to k is lent, and the signs are copied into it.
module _ (n d : ℕ) (signs kinds thresholds words s : List ℕ) (k w e i j : ℕ)
    (signs-end : 16 + length signs ≡ k) (lines_long : 2 * length kinds ≡ i) (lines_end : k + i ≡ w) (words-end : w + j ≡ e)
    (headed signed lined worded : List ℕ) where
  abbrev copied : List ℕ
  copied = put_mid 16 (k - 16) headed signed

  pub sections_copied :
      headed ≡ header_bytes n d ++ drop 16 s
      → signed ≡ signs
      → lined ≡ line_records kinds thresholds ++ drop i (lent_from k copied)
      → worded ≡ word_bytes words ++ drop j (lent_from w (put_back k copied lined))
      → put_back w (put_back k copied lined) worded ≡ encode (system_of n d signs kinds thresholds words) ++ drop e s
  unfolding bytes_of
  sections_copied header signs-put lines-put words-put =
      let f₁ = header_bytes n d in
      let whole = signs ++ drop (length signs) (lent_from 16 headed) in
      let same : put_back 16 headed whole ≡ copied =
      front_part f₁ signs s headed whole 16 (length signs) k refl signs-end header refl
      ∙ sym (part_put f₁ signs s headed signed 16 k refl (omega arith) header signs-put) in
      subst
      (λ (l : List ℕ). lined ≡ line_records kinds thresholds ++ drop i (lent_from k l)
      → worded ≡ word_bytes words ++ drop j (lent_from w (put_back k l lined))
      → put_back w (put_back k l lined) worded ≡ encode (system_of n d signs kinds thresholds words) ++ drop e s)
      same
      (sections_written n d signs kinds thresholds words s k w e i j signs-end lines_long lines_end words-end headed whole lined worded header refl)
      lines-put words-put
