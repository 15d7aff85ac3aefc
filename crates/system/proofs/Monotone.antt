-- The query is monotone in every argument, whatever the lines' kinds, thresholds and words, and its result has no line of n or more.
-- Assumes nothing.
use mathlib.Core.Bool.{Bool, true, false, cond, true≢false, ◌&&◌, ◌||◌}
use mathlib.Core.List.{List, [], ◌∷◌, ◌++◌}
use mathlib.Core.Path.{◌≡◌, refl, sym}
use Prim.Native.Nat.{ℕ, zero, suc, ◌^◌, ◌≤◌, ◌<◌}
use native.Mathlib.Omega.{arith}
use native.Mathlib.Nat.{lt_trans, le_trans}
use borrow.Author.Tests.{le-leb, leb-true}
use lib.ListN.{get_or}
use lib.Pow.{pow_pos, pow-lt}
use Rattle.sets.specs.Set.{is_member, union}
use Rattle.sets.proofs.Order as order
use Rattle.sets.proofs.Order.{◌⊑◌, le_member}
use Rattle.sets.proofs.Range.{union_below}
use Rattle.fixpoint.specs.Lawful.{MonotoneQuery, Below, nil⊑, cons⊑}
use Rattle.fixpoint.specs.Sets.{sets}
use Rattle.system.specs.System.{System}
use Rattle.system.specs.Query.{any, all, count_set, value_of, selected, operands, words_of, line_value, set_of, query}

-- bits of which each that is set stays set
data Rises : List Bool → List Bool → Type 0 where
  none : Rises [] []
  bit : {b c : Bool} {bs cs : List Bool} → (b ≡ true → c ≡ true) → Rises bs cs → Rises (b ∷ bs) (c ∷ cs)

rises_append : {bs cs bs' cs' : List Bool} → Rises bs cs → Rises bs' cs' → Rises (bs ++ bs') (cs ++ cs')
rises_append none r = r
rises_append (bit h s) r = bit h (rises_append s r)

any_rises : {bs cs : List Bool} → Rises bs cs → any bs ≡ true → any cs ≡ true
any_rises none e = e
any_rises (bit {b} {c} h r) e = go b c h e (any_rises r)
  where
    go : {s t : Bool} (b c : Bool) → (b ≡ true → c ≡ true) → (b || s) ≡ true → (s ≡ true → t ≡ true) → (c || t) ≡ true
    go b true h e ih = refl
    go true false h e ih = absurd (true≢false (sym (h refl)))
    go false false h e ih = ih e

all_rises : {bs cs : List Bool} → Rises bs cs → all bs ≡ true → all cs ≡ true
all_rises none e = e
all_rises (bit {b} {c} h r) e = go b c h e (all_rises r)
  where
    go : {s t : Bool} (b c : Bool) → (b ≡ true → c ≡ true) → (b && s) ≡ true → (s ≡ true → t ≡ true) → (c && t) ≡ true
    go true true h e ih = ih e
    go true false h e ih = absurd (true≢false (sym (h refl)))
    go false c h e ih = absurd (true≢false (sym e))

count_rises : {bs cs : List Bool} → Rises bs cs → count_set bs ≤ count_set cs
count_rises none = omega arith
count_rises (bit {b} {c} h r) = go b c h (count_rises r)
  where
    go : {s t : ℕ} (b c : Bool) → (b ≡ true → c ≡ true) → s ≤ t → cond b (suc s) s ≤ cond c (suc t) t
    go true true h ih = omega arith
    go true false h ih = absurd (true≢false (sym (h refl)))
    go false true h ih = omega arith
    go false false h ih = ih

value_rises : (kind t : ℕ) {bs cs : List Bool} → Rises bs cs → value_of kind t bs ≡ true → value_of kind t cs ≡ true
value_rises zero t r e = any_rises r e
value_rises (suc zero) t r e = all_rises r e
value_rises (suc (suc k)) t {bs} {cs} r e = le-leb t (count_set cs) (le_trans (leb-true t (count_set bs) e) (count_rises r))

selected_rises : (m w x y : ℕ) → x ⊑ y → Rises (selected m w x) (selected m w y)
unfolding selected
selected_rises zero w x y h = none
selected_rises (suc m) w x y h = go (is_member w m) (selected_rises m w x y h)
  where
    go : (t : Bool) → Rises (selected m w x) (selected m w y)
        → Rises (cond t (is_member x m ∷ selected m w x) (selected m w x)) (cond t (is_member y m ∷ selected m w y) (selected m w y))
    go true r = bit (le_member x y h m) r
    go false r = r

operands_rise : (n : ℕ) (ws : List ℕ) {xs ys : List ℕ} → Below (sets n) xs ys → Rises (operands ws xs) (operands ws ys)
unfolding operands
operands_rise n [] p = none
operands_rise n (w ∷ ws) nil⊑ = none
operands_rise n (w ∷ ws) (cons⊑ {x} {y} h p) = rises_append (selected_rises 64 w x y h) (operands_rise n ws p)

set_rises : (n : ℕ) (p q : ℕ → Bool) → ((i : ℕ) → p i ≡ true → q i ≡ true) → set_of n p ⊑ set_of n q
unfolding set_of
set_rises zero p q h = order.refl⊑ 0
set_rises (suc n) p q h =
    order.join_lub (set_of n p) (one p) (union (set_of n q) (one q))
    (order.trans⊑ (set_of n p) (set_of n q) (union (set_of n q) (one q)) (set_rises n p q h) (order.join_left (set_of n q) (one q)))
    (order.trans⊑ (one p) (one q) (union (set_of n q) (one q)) (go (p n) (q n) (h n)) (order.join_right (set_of n q) (one q)))
  where
    one : (ℕ → Bool) → ℕ
    one p = cond (p n) (2 ^ n) 0

    go : (s t : Bool) → (s ≡ true → t ≡ true) → cond s (2 ^ n) 0 ⊑ cond t (2 ^ n) 0
    go true true h = order.refl⊑ (2 ^ n)
    go true false h = absurd (true≢false (sym (h refl)))
    go false t h = order.empty_least (cond t (2 ^ n) 0)

pub query_monotone : (m : System) → MonotoneQuery (sets m.lines) (query m)
unfolding query
query_monotone m xs ys p =
    set_rises m.lines (λ i. line_value m i (operands (words_of m i) xs)) (λ i. line_value m i (operands (words_of m i) ys))
    (λ i. value_rises (get_or m.kinds i 0) (get_or m.thresholds i 0) (operands_rise m.lines (words_of m i) p))

pub set_below : (n : ℕ) (p : ℕ → Bool) → set_of n p < 2 ^ n
unfolding set_of
set_below zero p = omega arith
set_below (suc n) p = union_below (suc n) (set_of n p) (cond (p n) (2 ^ n) 0) (lt_trans (set_below n p) (pow-lt (omega arith))) (go (p n))
  where
    go : (t : Bool) → cond t (2 ^ n) 0 < 2 ^ suc n
    go true = pow-lt (omega arith)
    go false = pow_pos (suc n)

pub query_below : (m : System) (xs : List ℕ) → query m xs < 2 ^ m.lines
unfolding query
query_below m xs = set_below m.lines _
