-- Numbers as bytes and back: a number of k bytes is what its bytes say, k bytes are those of the number that they say,
-- and the same of words of eight bytes each.
-- Assumes nothing.
use mathlib.Core.List.{List, [], ◌∷◌, ◌++◌, append_assoc, append-nil}
use mathlib.Core.Path.{◌≡◌, refl, sym, ◌∙◌, ap, ap₂}
use Prim.Native.Nat.{ℕ, zero, suc, ◌+◌, ◌-◌, ◌*◌, ◌/◌, ◌%◌, ◌^◌, ◌≤◌, ◌<◌}
use native.Mathlib.Nat.{le_of_suc-le-suc, zero-add, suc-add, pow-suc, pow-succ', pow-le-pow_right, lt_of_lt_of_le, div-one, div-div-eq-div-mul, div-lt_iff_lt-mul, div-add-mod', add-mul-div_left, add-mul-mod_self_left, div-eq_of_lt, mod-eq_of_lt}
use native.Mathlib.Numerals.{add-one}
use native.Mathlib.Omega.{arith}
use lib.Dec.{lit<}
use lib.ListN.{length, get_or, take, drop, length-append, length-take, length-drop}
use lib.Seq.{take-suc, take-add, drop-drop, take_at, drop_at, length-take-le}
use borrow.Rule.Slice.PartMut.{mid_of, put_mid}
use Rattle.numbers.specs.Numbers.{little, number_at, bytes_of, words_from, word_bytes}
use Rattle.lists.specs.Below.{AllBelow, none, more}
use Rattle.lists.proofs.Front.{rest_whole, front_part}
use Rattle.lists.proofs.Below.{below_take, below_drop}

-- the bytes of a number

pub bytes_length : (k x : ℕ) → length (bytes_of k x) ≡ k
unfolding bytes_of
bytes_length zero x = refl
bytes_length (suc k) x = ap suc (bytes_length k (x / 256))

-- the first j, then those of what is left
pub bytes_add : (j k x : ℕ) → bytes_of (j + k) x ≡ bytes_of j x ++ bytes_of k (x / 256 ^ j)
unfolding bytes_of
bytes_add zero k x = ap₂ bytes_of (zero-add k) (sym (div-one x))
bytes_add (suc j) k x =
    ap (λ (n : ℕ). bytes_of n x) (suc-add j k)
    ∙ ap (λ (bs : List ℕ). x % 256 ∷ bs)
    (bytes_add j k (x / 256)
    ∙ ap (λ (y : ℕ). bytes_of j (x / 256) ++ bytes_of k y) (div-div-eq-div-mul x 256 (256 ^ j) ∙ ap (λ (p : ℕ). x / p) (sym (pow-succ' 256 j))))

-- one more byte at the end
pub bytes_more : (j x : ℕ) → bytes_of (j + 1) x ≡ bytes_of j x ++ (x / 256 ^ j % 256 ∷ [])
unfolding bytes_of
bytes_more j x = bytes_add j 1 x

pub little_bytes : (k x : ℕ) → x < 256 ^ k → little (bytes_of k x) ≡ x
unfolding bytes_of little
little_bytes zero x h = omega arith
little_bytes (suc k) x h =
    omega (
      arith,
      little_bytes k (x / 256) ((div-lt_iff_lt-mul (lit< tt)).1 (rw pow-suc at h)),
      div-add-mod' x 256,
    )

pub bytes_little : (bs : List ℕ) → AllBelow 256 bs → bytes_of (length bs) (little bs) ≡ bs
unfolding bytes_of little
bytes_little [] h = refl
bytes_little (b ∷ bs) (more p h) =
    ap₂ ◌∷◌ (add-mul-mod_self_left b 256 (little bs) ∙ mod-eq_of_lt p)
    (ap (bytes_of (length bs)) (add-mul-div_left b (little bs) (lit< tt) ∙ ap (λ (n : ℕ). n + little bs) (div-eq_of_lt p) ∙ zero-add (little bs))
    ∙ bytes_little bs h)

pub little_below : (bs : List ℕ) → AllBelow 256 bs → little bs < 256 ^ length bs
unfolding little
little_below [] h = lit< tt
little_below (b ∷ bs) (more p h) = rw pow-succ' (omega (arith, little_below bs h))

-- the bytes of the number at an offset are the bytes there
pub number_bytes : (s : List ℕ) → AllBelow 256 s → (at k : ℕ) → at + k ≤ length s → bytes_of k (number_at s at k) ≡ take k (drop at s)
number_bytes s h at k fits =
    ap (λ (n : ℕ). bytes_of n (number_at s at k)) (sym (length-take-le k (drop at s) (omega (arith, length-drop at s))))
    ∙ bytes_little (take k (drop at s)) (below_take k (below_drop at h))

-- the words of some bytes

pub words_length : (k : ℕ) (bs : List ℕ) → length (words_from k bs) ≡ k
unfolding words_from
words_length zero bs = refl
words_length (suc k) bs = ap suc (words_length k (drop 8 bs))

-- a word is the eight bytes at its place
pub word_at : (k : ℕ) (bs : List ℕ) (i : ℕ) → i < k → get_or (words_from k bs) i 0 ≡ number_at bs (8 * i) 8
unfolding words_from
word_at zero bs i h = absurd (omega arith)
word_at (suc k) bs zero h = refl
word_at (suc k) bs (suc i) h =
    let next : 8 + 8 * i ≡ 8 * suc i = omega arith in
    word_at k (drop 8 bs) i (le_of_suc-le-suc h) ∙ rw (drop-drop (8 * i) 8 bs, next)

-- the first j, then those behind their bytes
pub words_add : (j k : ℕ) (bs : List ℕ) → words_from (j + k) bs ≡ words_from j bs ++ words_from k (drop (8 * j) bs)
unfolding words_from
words_add zero k bs = ap (λ (n : ℕ). words_from n bs) (zero-add k)
words_add (suc j) k bs =
    let next : 8 + 8 * j ≡ 8 * suc j = omega arith in
    ap (λ (n : ℕ). words_from n bs) (suc-add j k)
    ∙ ap (λ (ws : List ℕ). little (take 8 bs) ∷ ws)
    (words_add j k (drop 8 bs)
    ∙ ap (λ (r : List ℕ). words_from j (drop 8 bs) ++ words_from k r) (drop-drop (8 * j) 8 bs ∙ ap (λ (n : ℕ). drop n bs) next))

-- one more word at the end
pub words_more : (j : ℕ) (bs : List ℕ) → words_from (j + 1) bs ≡ words_from j bs ++ (number_at bs (8 * j) 8 ∷ [])
unfolding words_from
words_more j bs = words_add j 1 bs

-- some words in the middle are those of the bytes there
pub words_part : (k e d : ℕ) (bs : List ℕ) → e + d ≤ k → take d (drop e (words_from k bs)) ≡ words_from d (drop (8 * e) bs)
words_part k e d bs h =
    let all : k ≡ e + (d + (k - (e + d))) = omega arith in
    ap (λ (n : ℕ). take d (drop e (words_from n bs))) all
    ∙ ap (λ (ws : List ℕ). take d (drop e ws)) (words_add e (d + (k - (e + d))) bs)
    ∙ ap (take d) (drop_at (words_from e bs) _ e (words_length e bs) ∙ words_add d (k - (e + d)) (drop (8 * e) bs))
    ∙ take_at (words_from d (drop (8 * e) bs)) _ d (words_length d (drop (8 * e) bs))

-- k words of what is left of src from a, which is b, in front of what dst holds behind them
pub words_copied :
    (src dst l : List ℕ) (a b k : ℕ) → a ≡ b → l ≡ words_from k (take (length src - a) (drop a src)) ++ drop k dst
    → l ≡ words_from k (drop b src) ++ drop (length (words_from k (drop b src))) dst
words_copied src dst l a b k begin copied =
    copied
    ∙ ap₂ (λ (r : List ℕ) (n : ℕ). words_from k r ++ drop n dst) (rest_whole src a ∙ ap (λ (n : ℕ). drop n src) begin) (sym (words_length k (drop b src)))

pub words_below : (k : ℕ) (bs : List ℕ) → AllBelow 256 bs → AllBelow (2 ^ 64) (words_from k bs)
unfolding words_from
words_below zero bs h = none
words_below (suc k) bs h =
    let eight : length (take 8 bs) ≤ 8 = omega (arith, length-take 8 bs) in
    more
    (lt_of_lt_of_le (little_below (take 8 bs) (below_take 8 h)) (pow-le-pow_right {n = 256} (lit< tt) eight))
    (words_below k (drop 8 bs) (below_drop 8 h))

-- the bytes of some words

pub word_bytes_length : (ws : List ℕ) → length (word_bytes ws) ≡ 8 * length ws
unfolding word_bytes
word_bytes_length [] = refl
word_bytes_length (w ∷ ws) =
    length-append (bytes_of 8 w) (word_bytes ws) ∙ omega (arith, bytes_length 8 w, word_bytes_length ws)

pub word_bytes_append : (us vs : List ℕ) → word_bytes (us ++ vs) ≡ word_bytes us ++ word_bytes vs
unfolding word_bytes
word_bytes_append [] vs = refl
word_bytes_append (w ∷ us) vs =
    ap (λ (bs : List ℕ). bytes_of 8 w ++ bs) (word_bytes_append us vs) ∙ sym (append_assoc (bytes_of 8 w) (word_bytes us) (word_bytes vs))

-- the bytes of one more word
pub word_bytes_more : (i : ℕ) (ws : List ℕ) → i < length ws → word_bytes (take (i + 1) ws) ≡ word_bytes (take i ws) ++ bytes_of 8 (get_or ws i 0)
unfolding word_bytes
word_bytes_more i ws h =
    ap (λ (n : ℕ). word_bytes (take n ws)) (add-one i)
    ∙ ap word_bytes (take-suc ws i 0 h)
    ∙ word_bytes_append (take i ws) (get_or ws i 0 ∷ [])
    ∙ ap (λ (bs : List ℕ). word_bytes (take i ws) ++ bs) (append-nil (bytes_of 8 (get_or ws i 0)))

-- One more word w is put: s is what the list held, l what it holds, and part what its rest from `at` on comes back as.
pub word_stored :
    (words s l part : List ℕ) (i at w : ℕ) → i < length words → at ≡ 8 * i → w ≡ get_or words i 0 → l ≡ word_bytes (take i words) ++ drop at s
    → part ≡ bytes_of 8 w ++ drop 8 (mid_of at (length l - at) l) → put_mid at (length l - at) l part ≡ word_bytes (take (i + 1) words) ++ drop (at + 8) s
word_stored words s l part i at w h place is held wrote =
    let front = word_bytes (take i words) in
    let written : length front ≡ at = omega (arith, word_bytes_length (take i words), length-take-le i words (omega arith)) in
    front_part front (bytes_of 8 w) s l part at 8 (at + 8) written refl held wrote
    ∙ ap (λ (bs : List ℕ). bs ++ drop (at + 8) s) (ap (λ (x : ℕ). front ++ bytes_of 8 x) is ∙ sym (word_bytes_more i words h))

pub words_of_bytes : (ws : List ℕ) → AllBelow (2 ^ 64) ws → (rest : List ℕ) → words_from (length ws) (word_bytes ws ++ rest) ≡ ws
unfolding words_from word_bytes
words_of_bytes [] none rest = refl
words_of_bytes (w ∷ ws) (more p h) rest =
    let all = append_assoc (bytes_of 8 w) (word_bytes ws) rest in
    ap₂ ◌∷◌
    (ap (λ (bs : List ℕ). little (take 8 bs)) all ∙ ap little (take_at (bytes_of 8 w) _ 8 (bytes_length 8 w)) ∙ little_bytes 8 w p)
    (ap (λ (bs : List ℕ). words_from (length ws) (drop 8 bs)) all
    ∙ ap (words_from (length ws)) (drop_at (bytes_of 8 w) _ 8 (bytes_length 8 w))
    ∙ words_of_bytes ws h rest)

pub bytes_of_words : (k : ℕ) (bs : List ℕ) → AllBelow 256 bs → 8 * k ≤ length bs → word_bytes (words_from k bs) ≡ take (8 * k) bs
unfolding words_from word_bytes
bytes_of_words zero bs h fits = refl
bytes_of_words (suc k) bs h fits =
    let next : 8 + 8 * k ≡ 8 * suc k = omega arith in
    ap₂ ◌++◌ (number_bytes bs h 0 8 (omega arith)) (bytes_of_words k (drop 8 bs) (below_drop 8 h) (omega (arith, length-drop 8 bs)))
    ∙ sym (take-add 8 (8 * k) bs)
    ∙ ap (λ (n : ℕ). take n bs) next
