-- The first check that applies: checks of which none applies are passed over, and checks of which one applies decide.
-- Assumes nothing.
use mathlib.Core.Bool.{Bool, true, false, cond, not, ◌&&◌, and-eq-true_iff}
use mathlib.Mathlib.Data.Bool.Basic.{or-eq-false-eq-eq-false-and-eq-false as neither}
use mathlib.Core.List.{List, [], ◌∷◌, ◌++◌}
use mathlib.Core.Path.{◌≡◌, refl, ap}
use Prim.Native.Nat.{ℕ, zero, suc, ◌≤◌, ◌<◌}
use native.Mathlib.Omega.{arith}
use lib.Dec.{eqb, ltb, lit<}
use borrow.Author.Tests.{ltb-false, le-ltb, eqb-true, eqb-false, eq-eqb, ne_eqb, not-true, not-false}
use Rattle.answers.specs.Answer.{Answer, refusal, number_of}
use Rattle.answers.specs.Check.{Check, first_of, unless, outside}
use Rattle.answers.specs.declared.Refusal.{Refusal}
use Rattle.answers.specs.declared.Refusal.TheVariants.{HeaderShort, Lines, Levels, Offset, FileLength, SignOrKind, StraySelection, Bounds, Ceiling, Tree, Room, SliceLength, Threshold, LevelsDiffer}

-- none of the checks applies
abbrev pub Passes : List Check → Type 0
Passes [] = Unit {0}
Passes (c ∷ cs) = (c.applies ≡ false) × Passes cs

pub passes_both : (cs ds : List Check) → Passes (cs ++ ds) → Passes cs × Passes ds
passes_both [] ds h = (tt, h)
passes_both (c ∷ cs) ds h =
    let both = passes_both cs ds h.1 in
    ((h.0, both.0), both.1)

pub passes_append : (cs ds : List Check) → Passes cs → Passes ds → Passes (cs ++ ds)
passes_append [] ds h k = k
passes_append (c ∷ cs) ds h k = (h.0, passes_append cs ds h.1 k)

-- none of their numbers is x
abbrev pub without : ℕ → List Check → Bool
without x [] = true
without x (c ∷ cs) = not (eqb c.number x) && without x cs

other_number : {x : ℕ} (c : Check) (cs : List Check) → without x (c ∷ cs) ≡ true → (c.number ≡ x → ⊥) × (without x cs ≡ true)
other_number {x} c cs p =
    let both = (and-eq-true_iff (not (eqb c.number x)) (without x cs)).0 p in
    (eqb-false c.number x (not-true (eqb c.number x) both.0), both.1)

pub first_after : (cs ds : List Check) → Passes cs → first_of (cs ++ ds) ≡ first_of ds
first_after [] ds h = refl
first_after (c ∷ cs) ds h = rw h.0 (first_after cs ds h.1)

pub passes_none : (cs : List Check) → Passes cs → first_of cs ≡ 0
passes_none [] h = refl
passes_none (c ∷ cs) h = rw h.0 (passes_none cs h.1)

pub first_before : (cs ds : List Check) → 0 < first_of cs → first_of (cs ++ ds) ≡ first_of cs
first_before [] ds h = absurd (omega arith)
first_before (c ∷ cs) ds h = at c.applies (first_before cs ds) h
  where
    at : (b : Bool) → (0 < first_of cs → first_of (cs ++ ds) ≡ first_of cs) → 0 < cond b c.number (first_of cs)
        → cond b c.number (first_of (cs ++ ds)) ≡ cond b c.number (first_of cs)
    at true later h = refl
    at false later h = later h

pub none_first : (cs : List Check) → without 0 cs ≡ true → first_of cs ≡ 0 → Passes cs
none_first [] p h = tt
none_first (c ∷ cs) p h = at c.applies (none_first cs (other_number c cs p).1) h
  where
    at : (b : Bool) → (first_of cs ≡ 0 → Passes cs) → cond b c.number (first_of cs) ≡ 0 → (b ≡ false) × Passes cs
    at true later h = absurd ((other_number c cs p).0 h)
    at false later h = (refl, later h)

-- a number that none of them has is not the first that applies
pub first_other : (x : ℕ) (cs : List Check) → without x cs ≡ true → 0 < x → first_of cs ≡ x → ⊥
first_other x [] p some h = omega arith
first_other x (c ∷ cs) p some h = at c.applies (first_other x cs (other_number c cs p).1 some) h
  where
    at : (b : Bool) → (first_of cs ≡ x → ⊥) → cond b c.number (first_of cs) ≡ x → ⊥
    at true later h = (other_number c cs p).0 h
    at false later h = later h

-- checks whose number is 0 are passed over
pub after_none : (cs ds : List Check) → without 0 cs ≡ true → first_of cs ≡ 0 → first_of (cs ++ ds) ≡ first_of ds
after_none cs ds p h = first_after cs ds (none_first cs p h)

-- checks behind them of which none applies change nothing
pub before_passes : (cs ds : List Check) → Passes ds → first_of (cs ++ ds) ≡ first_of cs
before_passes [] ds h = passes_none ds h
before_passes (c ∷ cs) ds h = ap (λ (e : ℕ). cond c.applies c.number e) (before_passes cs ds h)

-- a count that is not outside is 1 to `most`
pub inside : (most n : ℕ) → outside most n ≡ false → (0 < n) × (n ≤ most)
inside most n h =
    let both = (neither (eqb n 0) (ltb most n)).0 h in
    let nonzero : n ≡ 0 → ⊥ = eqb-false n 0 both.0 in
    (omega arith, ltb-false most n both.1)

pub not_outside : {most n : ℕ} → 0 < n → n ≤ most → outside most n ≡ false
not_outside {most} {n} some few = rw (ne_eqb n 0 (λ z. omega arith), le-ltb most n few)

-- a test for two numbers that differ
pub same : {a b : ℕ} → not (eqb a b) ≡ false → a ≡ b
same {a} {b} h = eqb-true a b (not-false (eqb a b) h)

pub unlike : {a b : ℕ} → a ≡ b → not (eqb a b) ≡ false
unlike {a} {b} h = ap not (eq-eqb a b h)

-- an answer with a number other than 0 is the refusal with it
pub unless_refused : {e : ℕ} (a : Answer) → 0 < e → unless e a ≡ refusal e
unless_refused {e = zero} a h = absurd (omega arith)
unless_refused {e = suc e} a h = refl

pub number_positive : (r : Refusal) → 0 < number_of r
number_positive HeaderShort = lit< tt
number_positive Lines = lit< tt
number_positive Levels = lit< tt
number_positive Offset = lit< tt
number_positive FileLength = lit< tt
number_positive SignOrKind = lit< tt
number_positive StraySelection = lit< tt
number_positive Bounds = lit< tt
number_positive Ceiling = lit< tt
number_positive Tree = lit< tt
number_positive Room = lit< tt
number_positive SliceLength = lit< tt
number_positive Threshold = lit< tt
number_positive LevelsDiffer = lit< tt

-- 8 is the number of no refusal (request W2)
pub eight_retired : (r : Refusal) → number_of r ≡ 8 → ⊥
eight_retired HeaderShort h = omega arith
eight_retired Lines h = omega arith
eight_retired Levels h = omega arith
eight_retired Offset h = omega arith
eight_retired FileLength h = omega arith
eight_retired SignOrKind h = omega arith
eight_retired StraySelection h = omega arith
eight_retired Bounds h = omega arith
eight_retired Ceiling h = omega arith
eight_retired Tree h = omega arith
eight_retired Room h = omega arith
eight_retired SliceLength h = omega arith
eight_retired Threshold h = omega arith
eight_retired LevelsDiffer h = omega arith
