-- Filling a list from the front, or from the back: what is written so far, and what the list still holds beside it, or the entries so far alone.
-- Assumes nothing.
use mathlib.Core.List.{List, [], ◌∷◌, ◌++◌, append_assoc, append-nil}
use mathlib.Core.Path.{◌≡◌, sym, ◌∙◌, ap, ap₂}
use Prim.Native.Nat.{ℕ, suc, ◌+◌, ◌-◌, ◌≤◌, ◌<◌}
use native.Mathlib.Decide.{dec_lt}
use native.Mathlib.Numerals.{add-one}
use native.Mathlib.Omega.{arith}
use lib.ListN.{length, get_or, set, take, drop, length-drop, drop_of_length-le}
use lib.Seq.{get_or-set_same, get_or-set_other, drop-cons, set_at, append_snoc, take_all, take-suc, take-length, take_at, drop_at, drop-drop, length-take-le}
use borrow.Rule.Slice.PartMut.{mid_of, put_mid}

-- one more entry is stored; s is what the list held, l what it holds now
pub front_store : (front s l : List ℕ) (i v : ℕ) → length front ≡ i → i < length s → l ≡ front ++ drop i s → set l i v ≡ (front ++ (v ∷ [])) ++ drop (i + 1) s
front_store front s l i v e h held =
    ap (λ (r : List ℕ). set r i v) held
    ∙ ap (λ (r : List ℕ). set (front ++ r) i v) (drop-cons s i 0 h)
    ∙ set_at front _ _ v i e
    ∙ sym (append_snoc front v (drop (suc i) s))
    ∙ rw add-one

-- all that is left of a list from a on
pub rest_whole : (l : List ℕ) (a : ℕ) → take (length l - a) (drop a l) ≡ drop a l
rest_whole l a = take_all (length l - a) (drop a l) (omega (arith, length-drop a l))

-- the rest of the list, from a on, is lent, and comes back with n entries written in front, up to b
pub front_part :
    (front new s l part : List ℕ) (a n b : ℕ) → length front ≡ a → a + n ≡ b → l ≡ front ++ drop a s → part ≡ new ++ drop n (mid_of a (length l - a) l)
    → put_mid a (length l - a) l part ≡ (front ++ new) ++ drop b s
front_part front new s l part a n b e next held wrote =
    let rest : drop a l ≡ drop a s = ap (drop a) held ∙ drop_at front (drop a s) a e in
    let nothing : drop (length l - a) (drop a l) ≡ [] = drop_of_length-le (drop a l) {i = length l - a} (omega (arith, length-drop a l)) in
    ap₂ ◌++◌ (ap (take a) held ∙ take_at front (drop a s) a e)
    (ap₂ ◌++◌ (wrote ∙ ap (λ (r : List ℕ). new ++ drop n r) (rest_whole l a ∙ rest)) nothing
    ∙ append-nil (new ++ drop n (drop a s)) ∙ ap (λ (r : List ℕ). new ++ r) (drop-drop n a s ∙ ap (λ (j : ℕ). drop j s) next))
    ∙ sym (append_assoc front new (drop b s))

-- the first i entries of src, which are all, in front by f, with what s holds from a, which is b, on behind them
pub front_all : (f : List ℕ → List ℕ) (src s : List ℕ) {l : List ℕ} {i a b : ℕ} → i ≡ length src → a ≡ b → l ≡ f (take i src) ++ drop a s → l ≡ f src ++ drop b s
front_all f src s all end held =
    held ∙ ap₂ (λ (r : List ℕ) (j : ℕ). f r ++ drop j s) (ap (λ (j : ℕ). take j src) all ∙ take-length src) end

-- the part of the list from a up to b is lent, and all of new is copied into it
pub part_put :
    (front new s l part : List ℕ) (a b : ℕ) → length front ≡ a → a ≤ b → l ≡ front ++ drop a s → part ≡ new
    → put_mid a (b - a) l part ≡ (front ++ new) ++ drop b s
part_put front new s l part a b e low held wrote =
    let next : a + (b - a) ≡ b = omega arith in
    let behind : drop (b - a) (drop a l) ≡ drop b s =
    ap (drop (b - a)) (ap (drop a) held ∙ drop_at front (drop a s) a e) ∙ drop-drop (b - a) a s ∙ ap (λ (j : ℕ). drop j s) next in
    ap₂ ◌++◌ (ap (take a) held ∙ take_at front (drop a s) a e) (ap₂ ◌++◌ wrote behind)
    ∙ sym (append_assoc front new (drop b s))

-- filling a list from the back: one more entry is stored in front of what is written so far
pub back_store : (s l rest : List ℕ) (i v : ℕ) → i < length s → l ≡ take (suc i) s ++ rest → set l i v ≡ take i s ++ v ∷ rest
back_store s l rest i v h held =
    ap (λ (r : List ℕ). set r i v) (held ∙ ap (λ (r : List ℕ). r ++ rest) (take-suc s i 0 h) ∙ append_snoc (take i s) (get_or s i 0) rest)
    ∙ set_at (take i s) (get_or s i 0) rest v i (length-take-le i s (omega arith))

-- the first i entries are those of f, and one more is stored
pub entries_more : (f : ℕ → ℕ) (l : List ℕ) (i v : ℕ) → i < length l → v ≡ f i → ((j : ℕ) → j < i → get_or l j 0 ≡ f j)
    → (j : ℕ) → j < i + 1 → get_or (set l i v) j 0 ≡ f j
entries_more f l i v room e before j h = at (dec_lt j i)
  where
    at : Dec (j < i) → get_or (set l i v) j 0 ≡ f j
    at (yes p) = get_or-set_other l i j v 0 (λ (q : j ≡ i). omega arith) ∙ before j p
    at (no p) = let same : j ≡ i = omega arith in rw same (get_or-set_same l i v 0 room ∙ e)
