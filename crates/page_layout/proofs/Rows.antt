-- Rows of a page: items put one behind the other, with blanks behind them and a newline, are a row; each row is 41 bytes long, and so is the page n + 1
-- times as long.
-- Assumes nothing.
use mathlib.Core.Bool.{Bool, true, false}
use mathlib.Core.List.{List, [], ◌∷◌, ◌++◌, append_assoc}
use mathlib.Core.Path.{◌≡◌, refl, ◌∙◌, ap}
use Prim.Native.Nat.{ℕ, zero, suc, ◌+◌, ◌-◌, ◌*◌, ◌^◌, ◌≤◌, ◌<◌}
use native.Mathlib.Omega.{arith}
use lib.ListN.{length, length-append}
use Rattle.text.specs.Text.{Puts}
use Rattle.padding.specs.Padding.{blanks}
use Rattle.padding.proofs.Blanks.{blanks_length, right_length}
use Rattle.text.proofs.Digits.{puts_then}
use Rattle.page_layout.specs.Page.{lines_word, levels_word, share_word, kind_word, mark, number_in, spaced, row, first_row, line_row, rows_of}

-- the place behind a number that fits in its places
pub number_end : (k x : ℕ) {at r : ℕ} {out out' : List ℕ} → 1 ≤ k → x < 10 ^ k → Puts at (number_in k x) out out' r → r ≡ at + k
number_end k x {at} some h p = p.end ∙ ap (λ (n : ℕ). at + n) (right_length k x some h)

-- items, the blanks up to the end of their row, and its newline
pub ended : (items : List (List ℕ)) {start r r' : ℕ} {out mid out' : List ℕ} → start ≤ length out → Puts start (spaced items) out mid r
    → Puts r (blanks (start + 40 - r) ++ (10 ∷ [])) mid out' r' → Puts start (row items) out out' r'
ended items {start} {r} {r'} {out} {mid} {out'} room p q =
    let left : start + 40 - r ≡ 40 - length (spaced items) = omega (arith, p.end) in
    rw (append_assoc (spaced items) (blanks (40 - length (spaced items))) (10 ∷ [])) (puts_then room p (rw left at q))

row_length : (items : List (List ℕ)) → length (spaced items) ≤ 40 → length (row items) ≡ 41
row_length items few =
    let fill = blanks (40 - length (spaced items)) in
    omega (arith, length-append (spaced items ++ fill) (10 ∷ []), length-append (spaced items) fill, blanks_length (40 - length (spaced items)))

pub kind_length : (kind : ℕ) → length (kind_word kind) ≡ 3
kind_length zero = refl
kind_length (suc zero) = refl
kind_length (suc (suc k)) = refl

pub mark_length : (good : Bool) → length (mark good) ≡ 1
mark_length true = refl
mark_length false = refl

-- the items of both sorts of row are short enough
first_items_few : (a b c : List ℕ) → length a ≡ 2 → length b ≡ 1 → length c ≡ 4 → length (spaced (lines_word ∷ a ∷ levels_word ∷ b ∷ share_word ∷ c ∷ [])) ≤ 40
first_items_few a b c ha hb hc = simp length-append (omega arith)

line_items_few : (a b c : List ℕ) → length a ≡ 2 → length b ≡ 3 → length c ≡ 1 → length (spaced (a ∷ b ∷ c ∷ [])) ≤ 40
line_items_few a b c ha hb hc = simp length-append (omega arith)

pub first_row_length : (n d share : ℕ) → n < 100 → d < 10 → share < 10000 → length (first_row n d share) ≡ 41
first_row_length n d share hn hd hs =
    row_length (lines_word ∷ number_in 2 n ∷ levels_word ∷ number_in 1 d ∷ share_word ∷ number_in 4 share ∷ [])
    (first_items_few (number_in 2 n) (number_in 1 d) (number_in 4 share) (right_length 2 n (omega arith) hn) (right_length 1 d (omega arith) hd) (right_length 4 share (omega arith) hs))

pub line_row_length : (i kind : ℕ) (good : Bool) → i < 100 → length (line_row i kind good) ≡ 41
line_row_length i kind good h =
    row_length (number_in 2 i ∷ kind_word kind ∷ mark good ∷ []) (line_items_few (number_in 2 i) (kind_word kind) (mark good) (right_length 2 i (omega arith) h) (kind_length kind) (mark_length good))

-- the rows of n lines, each 41 bytes long
pub rows_length : (n : ℕ) (row_at : ℕ → List ℕ) → ((i : ℕ) → i < n → length (row_at i) ≡ 41) → length (rows_of n row_at) ≡ 41 * n
unfolding rows_of
rows_length zero row_at each = refl
rows_length (suc n) row_at each = omega (arith, length-append (rows_of n row_at) (row_at n), rows_length n row_at (λ i h. each i (omega arith)), each n (omega arith))
