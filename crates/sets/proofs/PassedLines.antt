-- Lines gone over from the lowest member on: the lowest, what has become of those passed, with one line more; and which of them are found.
-- Assumes nothing.
use mathlib.Core.Bool.{Bool, true, false, cond, not, ◌&&◌, ◌||◌, and-true, and-false, and-not_self}
use mathlib.Core.Path.{◌≡◌, refl, sym, ◌∙◌, ap}
use Prim.Native.Nat.{ℕ, ◌-◌, ◌^◌, ◌≤◌, ◌<◌}
use native.Mathlib.Omega.{arith}
use native.Mathlib.Nat.{le_trans, lt_of_le_of_lt, lt_of_lt_of_le}
use borrow.Author.Tests.{eqb-true, eqb-false, eq-eqb}
use lib.Bits.{bit_xor, and_le_l, and_le_r, or_zero_r}
use lib.Count.{count_trailing_zeros}
use lib.Dec.{eqb}
use lib.Pow.{pow_mono}
use Rattle.sets.specs.Set.{is_member, union, intersection}
use Rattle.sets.proofs.Order.{digit}
use Rattle.sets.proofs.Membership.{Lowest, lowest, member_join, member_differ, member_empty}
use Rattle.sets.proofs.Range.{member_below}

-- the others are the rest without its lowest line
abbrev others : ℕ → ℕ
others rest = intersection rest (rest - 1)

-- they are fewer
pub others_fewer : (rest : ℕ) → (rest ≡ 0 → ⊥) → others rest < rest
others_fewer rest ne = omega (arith, and_le_r rest (rest - 1))

-- the lowest of the rest is one of n lines
pub record LowestLine (n rest t : ℕ) : Type 0 where
  pub low : Lowest 64 rest t
  pub one : t < n

pub lowest_line : {n lines : ℕ} → n ≤ 64 → lines < 2 ^ n → (rest : ℕ) → rest ≤ lines → (rest ≡ 0 → ⊥) → LowestLine n rest (count_trailing_zeros 64 rest)
lowest_line {n} most few rest some ne =
    let t = count_trailing_zeros 64 rest in
    let below : rest < 2 ^ n = lt_of_le_of_lt some few in
    let low : Lowest 64 rest t = lowest 64 rest (lt_of_lt_of_le below (pow_mono most)) ne in
    record { low = low; one = member_below n rest t below (eq-eqb (digit rest t) 1 low.is_in) }

module _ {rest t : ℕ} (l : Lowest 64 rest t) where
  was : is_member rest t ≡ true
  was = eq-eqb (digit rest t) 1 l.is_in

  gone : is_member (others rest) t ≡ false
  gone = ap (λ (d : ℕ). eqb d 1) l.taken

  kept : (i : ℕ) → (i ≡ t → ⊥) → is_member (others rest) i ≡ is_member rest i
  kept i ne = ap (λ (d : ℕ). eqb d 1) (l.kept i ne)

-- Each of some lines becomes `done` of it, from `first`. The lines in `rest` are left, and `now` is what the lines are so far.
module _ {A : Type 0} (first done : ℕ → A) (lines : ℕ) where
  pub record PassedSoFar (rest : ℕ) (now : ℕ → A) : Type 0 where
    pub left : (i : ℕ) → is_member rest i ≡ true → is_member lines i ≡ true
    pub few : rest ≤ lines
    pub is : (i : ℕ) → now i ≡ cond (is_member lines i && not (is_member rest i)) (done i) (first i)

  pub passed_none : {now : ℕ → A} → ((i : ℕ) → now i ≡ first i) → PassedSoFar lines now
  passed_none e = record { left = λ i e. e; few = omega arith; is = λ i. e i ∙ rw (and-not_self (is_member lines i)) }

  pub passed_all : {now : ℕ → A} → PassedSoFar 0 now → (i : ℕ) → now i ≡ cond (is_member lines i) (done i) (first i)
  passed_all f i = f.is i ∙ rw (member_empty i, and-true (is_member lines i))

  module _ {rest t : ℕ} {now : ℕ → A} (l : Lowest 64 rest t) (f : PassedSoFar rest now) where
    -- the lowest line that is left is as it was
    pub unpassed : now t ≡ first t
    unpassed = f.is t ∙ rw (was l, and-false (is_member lines t))

    -- it is passed
    pub passed_more : {now' : ℕ → A} → now' t ≡ done t → ((i : ℕ) → (i ≡ t → ⊥) → now' i ≡ now i) → PassedSoFar (others rest) now'
    passed_more {now'} e same = record {
      left = λ i h. in_lines i (eqb i t) refl h;
      few = le_trans (and_le_l rest (rest - 1)) f.few;
      is = λ i. at i (eqb i t) refl;
    }
      where
        in_lines : (i : ℕ) (s : Bool) → eqb i t ≡ s → is_member (others rest) i ≡ true → is_member lines i ≡ true
        in_lines i true q h = rw (eqb-true i t q) (f.left t (was l))
        in_lines i false q h = f.left i (sym (kept l i (eqb-false i t q)) ∙ h)

        at : (i : ℕ) (s : Bool) → eqb i t ≡ s → now' i ≡ cond (is_member lines i && not (is_member (others rest) i)) (done i) (first i)
        at i true q = rw (eqb-true i t q, gone l, f.left t (was l)) e
        at i false q = let ne = eqb-false i t q in same i ne ∙ rw (kept l i ne) (f.is i)

-- of some lines those found so far
module _ (p : ℕ → Bool) (lines : ℕ) where
  pub record FoundSoFar (rest found : ℕ) : Type 0 where
    pub passed : PassedSoFar (λ i. false) p lines rest (is_member found)

  pub found_none : FoundSoFar lines 0
  found_none = record { passed = passed_none _ _ _ member_empty }

  pub found_all : (found : ℕ) → FoundSoFar 0 found → (i : ℕ) → is_member found i ≡ (is_member lines i && p i)
  found_all found f i = passed_all _ _ _ f.passed i ∙ both (is_member lines i) (p i)
    where
      both : (s t : Bool) → cond s t false ≡ (s && t)
      both true t = refl
      both false t = refl

  module _ {rest found t : ℕ} (l : Lowest 64 rest t) (f : FoundSoFar rest found) where
    unfound : is_member found t ≡ false
    unfound = unpassed _ _ _ l f.passed

    -- the line itself is what the rest has and the others do not
    pub found_more : p t ≡ true → FoundSoFar (others rest) (union found (bit_xor rest (others rest)))
    found_more e = record {
      passed = passed_more _ _ _ l f.passed
          (member_join found (bit_xor rest (others rest)) t ∙ rw (unfound, member_differ rest (others rest) t, was l, gone l) (sym e))
          (λ i ne. member_join found (bit_xor rest (others rest)) i ∙ rw (member_differ rest (others rest) i, kept l i ne) (other (is_member found i) (is_member rest i)));
    }
      where
        other : (r s : Bool) → (r || cond s (not s) s) ≡ r
        other true s = refl
        other false true = refl
        other false false = refl

    pub found_same : p t ≡ false → FoundSoFar (others rest) found
    found_same e = record { passed = passed_more _ _ _ l f.passed (unfound ∙ sym e) (λ i ne. refl) }

    -- whether it is or not: `one` is the line itself if it is found, and else no line
    pub found_one : (b : Bool) (one : ℕ) → p t ≡ b → one ≡ cond b (bit_xor rest (others rest)) 0 → FoundSoFar (others rest) (union found one)
    found_one true one e is = rw is (found_more e)
    found_one false one e is = rw (is, or_zero_r found) (found_same e)
