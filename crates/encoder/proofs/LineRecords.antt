-- The two bytes of each line, stored line by line, and those of two parts of the lines.
-- Assumes nothing.
use mathlib.Core.List.{List, [], ◌∷◌, ◌++◌, append_assoc}
use mathlib.Core.Path.{◌≡◌, refl, sym, ◌∙◌, ap, ap₂}
use Prim.Native.Nat.{ℕ, zero, suc, ◌+◌, ◌*◌, ◌≤◌, ◌<◌}
use native.Mathlib.Numerals.{add-one}
use native.Mathlib.Omega.{arith}
use lib.ListN.{length, get_or, set, take, drop, length-append}
use lib.Seq.{length-take-le}
use Rattle.model.specs.File.{line_records}
use Rattle.model.proofs.RoundTrip.{records_length}
use Rattle.lists.proofs.Front.{front_store}

-- the bytes of one more line
records_more : (i : ℕ) (kinds thresholds : List ℕ) → i < length kinds
    → line_records (take (suc i) kinds) thresholds ≡ line_records (take i kinds) thresholds ++ (get_or kinds i 0 ∷ get_or thresholds i 0 ∷ [])
unfolding line_records
records_more i [] ts h = absurd (omega arith)
records_more zero (k ∷ ks) ts h = refl
records_more (suc i) (k ∷ ks) [] h = ap (λ (s : List ℕ). k ∷ 0 ∷ s) (records_more i ks [] (omega arith))
records_more (suc i) (k ∷ ks) (t ∷ ts) h = ap (λ (s : List ℕ). k ∷ t ∷ s) (records_more i ks ts (omega arith))

-- One more line is stored: s is what the list held, l what it holds now, and kind and t are those of the line.
pub records_stored :
    (kinds thresholds s l : List ℕ) (i kind t : ℕ) → i < length kinds → 2 * length kinds ≤ length s → kind ≡ get_or kinds i 0 → t ≡ get_or thresholds i 0
    → l ≡ line_records (take i kinds) thresholds ++ drop (2 * i) s
    → set (set l (2 * i) kind) (2 * i + 1) t ≡ line_records (take (i + 1) kinds) thresholds ++ drop (2 * (i + 1)) s
records_stored kinds thresholds s l i kind t h room is-kind is-t held =
    let front = line_records (take i kinds) thresholds in
    let written : length front ≡ 2 * i = omega (arith, records_length (take i kinds) thresholds, length-take-le i kinds (omega arith)) in
    let more : line_records (take (i + 1) kinds) thresholds ≡ front ++ (kind ∷ t ∷ []) = rw (add-one, is-kind, is-t) (records_more i kinds thresholds h) in
    let next : 2 * i + 1 + 1 ≡ 2 * (i + 1) = omega arith in
    front_store (front ++ (kind ∷ [])) s (set l (2 * i) kind) (2 * i + 1) t (omega (arith, length-append front (kind ∷ []))) (omega arith)
    (front_store front s l (2 * i) kind written (omega arith) held)
    ∙ ap₂ (λ (bs : List ℕ) (n : ℕ). bs ++ drop n s) (append_assoc front (kind ∷ []) (t ∷ []) ∙ sym more) next

-- the bytes of lines behind others
pub records_append : (kinds thresholds kinds' thresholds' : List ℕ) → length thresholds ≡ length kinds
    → line_records (kinds ++ kinds') (thresholds ++ thresholds') ≡ line_records kinds thresholds ++ line_records kinds' thresholds'
unfolding line_records
records_append [] [] ks us e = refl
records_append [] (t ∷ ts) ks us e = absurd (omega arith)
records_append (k ∷ kinds) [] ks us e = absurd (omega arith)
records_append (k ∷ kinds) (t ∷ ts) ks us e = ap (λ (s : List ℕ). k ∷ t ∷ s) (records_append kinds ts ks us (omega arith))
