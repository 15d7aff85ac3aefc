-- A mask finds what the operands of one word come to: their "or" is set where the word and the argument have a line in common,
-- their "and" where the word lies within the argument, and as many of them are set as lines are in both.
-- Assumes nothing.
use mathlib.Core.Bool.{Bool, true, false, cond, not, ◌&&◌, ◌||◌, or_assoc, and_assoc}
use mathlib.Core.List.{List, [], ◌∷◌, ◌++◌}
use mathlib.Core.Path.{◌≡◌, refl, sym, ◌∙◌, ap, ap₂}
use Prim.Native.Nat.{ℕ, zero, suc, ◌+◌, ◌-◌, ◌*◌, ◌%◌, ◌^◌, min, ◌≤◌, ◌<◌}
use native.Mathlib.Nat.{mod-eq_of_lt, mod-lt, mod-one, one-mul}
use native.Mathlib.Numerals.{one-add}
use native.Mathlib.Omega.{arith}
use borrow.Author.Tests.{eqb-true, eqb-false, eq-eqb, ne_eqb, le-leb, lt-leb, leb-true, leb-false}
use lib.Bits.{and_lt}
use lib.Count.{ones_cat}
use lib.Dec.{eqb, leb}
use lib.ListN.{length, get_or, length-append}
use lib.Pow.{mod-pow-add, pow_pos}
use Rattle.sets.specs.Set.{is_member, intersection, is_within, members}
use Rattle.sets.proofs.Order.{digit, digit_meet}
use Rattle.sets.proofs.Membership.{member_digit}
use Rattle.sets.proofs.Members.{members_empty, members_full}
use Rattle.system.specs.Query.{any, all, count_set, selected, operands, operand_count}

pub any_append : (bs cs : List Bool) → any (bs ++ cs) ≡ (any bs || any cs)
any_append [] cs = refl
any_append (b ∷ bs) cs = ap (λ (t : Bool). b || t) (any_append bs cs) ∙ sym (or_assoc b (any bs) (any cs))

pub all_append : (bs cs : List Bool) → all (bs ++ cs) ≡ (all bs && all cs)
all_append [] cs = refl
all_append (b ∷ bs) cs = ap (λ (t : Bool). b && t) (all_append bs cs) ∙ sym (and_assoc b (all bs) (all cs))

pub count_append : (bs cs : List Bool) → count_set (bs ++ cs) ≡ count_set bs + count_set cs
count_append [] cs = omega arith
count_append (b ∷ bs) cs = go b (count_set bs) (count_append bs cs)
  where
    go : (t : Bool) {n : ℕ} (m : ℕ) → n ≡ m + count_set cs → cond t (suc n) n ≡ cond t (suc m) m + count_set cs
    go true m e = omega arith
    go false m e = e

-- what is needed of two counts together is, less the one, needed of the other
pub still_needed : (n a c : ℕ) → leb n (a + c) ≡ leb (n - a) c
still_needed n a c = go (leb (n - a) c) refl
  where
    go : (t : Bool) → leb (n - a) c ≡ t → leb n (a + c) ≡ leb (n - a) c
    go true e = le-leb n (a + c) (omega (arith, leb-true (n - a) c e)) ∙ sym e
    go false e = lt-leb n (a + c) (omega (arith, leb-false (n - a) c e)) ∙ sym e

-- a number's digits below m + 1 are those below m, where the digit m is 0, and more by 2 ^ m, where it is 1
digit_zero : (y m : ℕ) → digit y m ≡ 0 → y % 2 ^ suc m ≡ y % 2 ^ m
digit_zero y m e = omega (arith, rw (one-add m) at (mod-pow-add y 1 m), ap (λ (d : ℕ). d * 2 ^ m) e)

digit_one : (y m : ℕ) → digit y m ≡ 1 → y % 2 ^ suc m ≡ 2 ^ m + y % 2 ^ m
digit_one y m e = omega (arith, rw (one-add m) at (mod-pow-add y 1 m), ap (λ (d : ℕ). d * 2 ^ m) e)

meet_digit : (w x m : ℕ) (s t : Bool) → is_member w m ≡ s → is_member x m ≡ t → digit (intersection w x) m ≡ min (cond s 1 0) (cond t 1 0)
meet_digit w x m s t e f = rw (digit_meet w x m, member_digit w m s e, member_digit x m t f)

eqb_add : (c a b : ℕ) → eqb (c + a) (c + b) ≡ eqb a b
eqb_add c a b = go (eqb a b) refl
  where
    go : (t : Bool) → eqb a b ≡ t → eqb (c + a) (c + b) ≡ eqb a b
    go true e = eq-eqb (c + a) (c + b) (ap (λ (x : ℕ). c + x) (eqb-true a b e)) ∙ sym e
    go false e = ne_eqb (c + a) (c + b) (λ q. eqb-false a b e (omega arith)) ∙ sym e

members_more : (m y : ℕ) → members (2 ^ m + y % 2 ^ m) ≡ suc (members (y % 2 ^ m))
members_more m y = omega (arith, ones_cat m 1 (y % 2 ^ m) (mod-lt y (pow_pos m)), ap (λ (z : ℕ). members (z + y % 2 ^ m)) (one-mul (2 ^ m)), members_full 1)

module _ (w x : ℕ) where
  -- The selections below m, one after the other: P speaks of them, of the digits below m that the word and the argument both have, and of the word's.
  module _ (P : List Bool → ℕ → ℕ → Type 0) where
    abbrev Below : ℕ → Type 0
    Below m = P (selected m w x) (intersection w x % 2 ^ m) (w % 2 ^ m)

    by_selected : P [] 0 0 → ((m : ℕ) → Below m → P (true ∷ selected m w x) (2 ^ m + intersection w x % 2 ^ m) (2 ^ m + w % 2 ^ m))
        → ((m : ℕ) → Below m → P (false ∷ selected m w x) (intersection w x % 2 ^ m) (2 ^ m + w % 2 ^ m)) → (m : ℕ) → Below m
    unfolding selected
    by_selected none set unset zero = rw (mod-one (intersection w x), mod-one w) none
    by_selected none set unset (suc m) = go (is_member w m) (is_member x m) refl refl (by_selected none set unset m)
      where
        go : (s t : Bool) → is_member w m ≡ s → is_member x m ≡ t → Below m → P (cond (is_member w m) (is_member x m ∷ selected m w x) (selected m w x)) (intersection w x % 2 ^ suc m) (w % 2 ^ suc m)
        go true true e f h = rw (e, f, digit_one (intersection w x) m (meet_digit w x m true true e f), digit_one w m (member_digit w m true e)) (set m h)
        go true false e f h = rw (e, f, digit_zero (intersection w x) m (meet_digit w x m true false e f), digit_one w m (member_digit w m true e)) (unset m h)
        go false t e f h = rw (e, digit_zero (intersection w x) m (meet_digit w x m false t e f ∙ omega arith), digit_zero w m (member_digit w m false e)) h

  any_below : (m : ℕ) → any (selected m w x) ≡ not (eqb (intersection w x % 2 ^ m) 0)
  any_below = by_selected (λ bs y v. any bs ≡ not (eqb y 0)) refl
      (λ m h. sym (ap not (ne_eqb (2 ^ m + intersection w x % 2 ^ m) 0 (λ q. let p : 0 < 2 ^ m = pow_pos m in omega arith)))) (λ m h. h)

  all_below : (m : ℕ) → all (selected m w x) ≡ eqb (intersection w x % 2 ^ m) (w % 2 ^ m)
  all_below = by_selected (λ bs y v. all bs ≡ eqb y v) refl (λ m h. h ∙ sym (eqb_add (2 ^ m) _ _))
      (λ m h. sym (ne_eqb (intersection w x % 2 ^ m) (2 ^ m + w % 2 ^ m) (λ q. omega (arith, mod-lt (intersection w x) (pow_pos m)))))

  count_below : (m : ℕ) → count_set (selected m w x) ≡ members (intersection w x % 2 ^ m)
  count_below = by_selected (λ bs y v. count_set bs ≡ members y) (sym members_empty) (λ m h. ap suc h ∙ sym (members_more m (intersection w x))) (λ m h. h)

  -- a word selects as many operands as it has members, whatever the argument
  selected_length : (m : ℕ) → length (selected m w x) ≡ members (w % 2 ^ m)
  selected_length = by_selected (λ bs y v. length bs ≡ members v) (sym members_empty) (λ m h. ap suc h ∙ sym (members_more m w)) (λ m h. ap suc h ∙ sym (members_more m w))

-- all 64 of them, in words
module _ (w x : ℕ) (lw : w < 2 ^ 64) (lx : x < 2 ^ 64) where
  whole : intersection w x % 2 ^ 64 ≡ intersection w x
  whole = mod-eq_of_lt (and_lt 64 w x lw lx)

  pub any_selected : any (selected 64 w x) ≡ not (eqb (intersection w x) 0)
  any_selected = any_below w x 64 ∙ ap (λ (y : ℕ). not (eqb y 0)) whole

  pub all_selected : all (selected 64 w x) ≡ is_within w x
  all_selected = all_below w x 64 ∙ rw (whole, mod-eq_of_lt lw)

  pub count_selected : count_set (selected 64 w x) ≡ members (intersection w x)
  count_selected = count_below w x 64 ∙ ap members whole

-- So a query looks at as many bits of a line as `operand_count` says (request W4).
pub operands_counted : (ws xs : List ℕ) → length ws ≤ length xs → ((k : ℕ) → get_or ws k 0 < 2 ^ 64) → length (operands ws xs) ≡ operand_count ws
unfolding operands
operands_counted [] xs h below = refl
operands_counted (w ∷ ws) [] h below = absurd (omega arith)
operands_counted (w ∷ ws) (x ∷ xs) h below =
    length-append (selected 64 w x) (operands ws xs)
    ∙ ap₂ ◌+◌ (selected_length w x 64 ∙ ap members (mod-eq_of_lt (below 0))) (operands_counted ws xs (omega arith) (λ k. below (suc k)))

-- the operands of one word more
pub operands_more : (ws : List ℕ) (w : ℕ) → operand_count (ws ++ w ∷ []) ≡ operand_count ws + members w
operands_more [] w = omega arith
operands_more (v ∷ ws) w = omega (arith, operands_more ws w)
