-- The law over the kinds of lines, and what follows of it for one level more. A line has the value that it has without operands until as many of its
-- operands differ from that value as its kind needs (`value_needs`); a kind is a case of it. So what a line still needs falls by the operands of each
-- level, and the line is decided once it needs nothing more.
-- Assumes nothing.
use mathlib.Core.Bool.{Bool, true, false, cond, not, true≢false, ◌&&◌, ◌||◌, beq, and-false}
use mathlib.Core.List.{List, [], ◌∷◌, ◌++◌, map, map-append}
use mathlib.Core.Path.{◌≡◌, refl, sym, ◌∙◌, ap, ap₂}
use Prim.Native.Nat.{ℕ, zero, suc, ◌+◌, ◌-◌, ◌^◌, ◌≤◌, ◌<◌}
use native.Mathlib.Nat.{add_comm}
use native.Mathlib.Omega.{arith}
use borrow.Author.Tests.{ne_eqb, le-leb, lt-leb, leb-true, leb-false}
use lib.Bits.{bit_xor, xor_add_and}
use lib.Dec.{eqb, leb}
use Rattle.sets.specs.Set.{is_member, full}
use Rattle.sets.proofs.Range.{below_full}
use Rattle.sets.proofs.Membership.{member_differ, member_full}
use Rattle.system.specs.Query.{any, all, count_set, value_of, selected}
use Rattle.system.proofs.Masks.{count_append, still_needed}
use Rattle.evaluator.specs.ByLevels.{needed}

-- two Booleans that differ: a value that changes, or does not
abbrev pub changed : Bool → Bool → Bool
changed s t = cond s (not t) t

-- how many of some operands are not v
abbrev against : Bool → List Bool → ℕ
against v bits = count_set (map (λ b. changed b v) bits)

against_append : (v : Bool) (bs cs : List Bool) → against v (bs ++ cs) ≡ against v bs + against v cs
against_append v bs cs = rw map-append (count_append (map (λ b. changed b v) bs) (map (λ b. changed b v) cs))

-- of those that are not set, as many as are set
against_false : (bits : List Bool) → against false bits ≡ count_set bits
against_false [] = refl
against_false (true ∷ bs) = ap suc (against_false bs)
against_false (false ∷ bs) = against_false bs

any_needs : (bits : List Bool) → any bits ≡ leb 1 (against false bits)
any_needs [] = refl
any_needs (true ∷ bs) = sym (le-leb 1 (suc (against false bs)) (omega arith))
any_needs (false ∷ bs) = any_needs bs

all_needs : (bits : List Bool) → all bits ≡ not (leb 1 (against true bits))
all_needs [] = refl
all_needs (true ∷ bs) = all_needs bs
all_needs (false ∷ bs) = sym (ap not (le-leb 1 (suc (against true bs)) (omega arith)))

-- a vote that needs an operand at least is not set without operands
abbrev VoteNeeds : ℕ → ℕ → Type 0
VoteNeeds kind t = 2 ≤ kind → 1 ≤ t

value_needs : (kind t : ℕ) (bits : List Bool) → VoteNeeds kind t
    → value_of kind t bits ≡ changed (value_of kind t []) (leb (needed kind t) (against (value_of kind t []) bits))
value_needs zero t bits h = any_needs bits
value_needs (suc zero) t bits h = all_needs bits
value_needs (suc (suc k)) t bits h = rw (lt-leb t 0 (h (omega arith))) (ap (leb t) (sym (against_false bits)))

-- a line that is set without operands changes by one operand
set_needs_one : (kind t : ℕ) → VoteNeeds kind t → value_of kind t [] ≡ true → needed kind t ≡ 1
set_needs_one zero t h e = refl
set_needs_one (suc zero) t h e = refl
set_needs_one (suc (suc k)) t h e = absurd (true≢false (sym e ∙ lt-leb t 0 (h (omega arith))))

-- What becomes of a line with one level more: where d holds its value changes, and it is open no more.
pub record Step (kind t : ℕ) (outer new : List Bool) (d : Bool) : Type 0 where
  pub value : value_of kind t (new ++ outer) ≡ changed (value_of kind t outer) d
  pub openness : beq (value_of kind t (new ++ outer)) (value_of kind t []) ≡ changed (beq (value_of kind t outer) (value_of kind t [])) d

-- of a line that needs n, a of its operands outside and c of the new ones differ
enough : (n a c : ℕ) (q : Bool) → leb n a ≡ q → leb n (c + a) ≡ (q || leb (n - a) c)
enough n a c true e = le-leb n (c + a) (omega (arith, leb-true n a e))
enough n a c false e = ap (leb n) (add_comm c a) ∙ still_needed n a c

module _ (kind t : ℕ) (h : VoteNeeds kind t) (outer new : List Bool) where
  abbrev initial : Bool
  initial = value_of kind t []

  -- the operands outside are enough already
  abbrev done : Bool
  done = leb (needed kind t) (against initial outer)

  -- the new ones have what is still needed
  abbrev rest : Bool
  rest = leb (needed kind t - against initial outer) (against initial new)

  together : value_of kind t (new ++ outer) ≡ changed initial (done || rest)
  together =
      value_needs kind t (new ++ outer) h
      ∙ ap (changed initial) (ap (leb (needed kind t)) (against_append initial new outer) ∙ enough (needed kind t) (against initial outer) (against initial new) done refl)

  step_by_needs : Step kind t outer new (not done && rest)
  step_by_needs = record {
    value = rw (together, value_needs kind t outer h) (go initial done rest).0;
    openness = rw (together, value_needs kind t outer h) (go initial done rest).1;
  }
    where
      go : (v q r : Bool) → let d = not q && r in (changed v (q || r) ≡ changed (changed v q) d) × (beq (changed v (q || r)) v ≡ changed (beq (changed v q) v) d)
      go true true r = (refl, refl)
      go true false true = (refl, refl)
      go true false false = (refl, refl)
      go false true r = (refl, refl)
      go false false true = (refl, refl)
      go false false false = (refl, refl)

-- the argument upside down: the lines that it leaves out
abbrev pub left_out : ℕ → ℕ
left_out x = bit_xor x (full 64)

not_left_out : (x j : ℕ) → j < 64 → is_member (left_out x) j ≡ not (is_member x j)
not_left_out x j h = member_differ x (full 64) j ∙ rw (member_full 64 j h) (go (is_member x j))
  where
    go : (t : Bool) → cond t false true ≡ not t
    go true = refl
    go false = refl

-- it is what lacks to all
pub turned : (x : ℕ) → x < 2 ^ 64 → 2 ^ 64 - 1 - x ≡ left_out x
turned x h = omega (arith, xor_add_and x (full 64), below_full 64 x h)

-- an operand that is not set is one that is left out
against_true : (m w x y : ℕ) → ((j : ℕ) → j < m → is_member y j ≡ not (is_member x j)) → against true (selected m w x) ≡ against false (selected m w y)
unfolding selected
against_true zero w x y h = refl
against_true (suc m) w x y h = go (is_member w m) (is_member x m) (is_member y m) (h m (omega arith)) (against_true m w x y (λ j l. h j (omega arith)))
  where
    go : (s t u : Bool) → u ≡ not t → against true (selected m w x) ≡ against false (selected m w y)
        → against true (cond s (t ∷ selected m w x) (selected m w x)) ≡ against false (cond s (u ∷ selected m w y) (selected m w y))
    go true true u e ih = rw e ih
    go true false u e ih = rw e (ap suc ih)
    go false t u e ih = ih

-- Whether one level more decides a line: the line has the value v and is open or not (o). If it is not set, by as many operands that are set as it
-- needs (h), and if it is, by an operand that is not (f).
abbrev pub decides : Bool → Bool → Bool → Bool → Bool
decides o v h f = o && cond v f h

-- c operands are some, and all of what is needed
abbrev pub meets : ℕ → ℕ → Bool
meets need c = not (eqb c 0) && leb need c

-- where something is needed, what has it all is not nothing
meets_needed : (need c : ℕ) → 1 ≤ need → leb need c ≡ meets need c
meets_needed need c h = go (leb need c) refl
  where
    go : (t : Bool) → leb need c ≡ t → t ≡ (not (eqb c 0) && t)
    go true e = rw (ne_eqb c 0 (λ z. omega (arith, leb-true need c e)))
    go false e = sym (and-false (not (eqb c 0)))

-- `need` is what the line still needs, if it is open and not set
pub one_level_lem : (kind t : ℕ) → VoteNeeds kind t → (outer : List Bool) (w x need : ℕ)
    → (beq (value_of kind t outer) (value_of kind t []) ≡ true → value_of kind t outer ≡ false → need ≡ needed kind t - count_set outer)
    → Step kind t outer (selected 64 w x)
    (decides (beq (value_of kind t outer) (value_of kind t [])) (value_of kind t outer) (meets need (count_set (selected 64 w x))) (any (selected 64 w (left_out x))))
one_level_lem kind t h outer w x need known = rw (← same) (step_by_needs kind t h outer new)
  where
    new : List Bool
    new = selected 64 w x

    missing : any (selected 64 w (left_out x)) ≡ leb 1 (against true new)
    missing = any_needs (selected 64 w (left_out x)) ∙ ap (leb 1) (sym (against_true 64 w x (left_out x) (λ j h. not_left_out x j h)))

    go : (v : Bool) (q : Bool) → (v ≡ true → needed kind t ≡ 1) → leb (needed kind t) (against v outer) ≡ q
        → (beq (changed v q) v ≡ true → changed v q ≡ false → need ≡ needed kind t - count_set outer)
        → (not q && leb (needed kind t - against v outer) (against v new))
        ≡ decides (beq (changed v q) v) (changed v q) (meets need (count_set new)) (leb 1 (against true new))
    go true true one e k = refl
    go false true one e k = refl
    go true false one e k =
        let n = one refl in
        let none : against true outer ≡ 0 = omega (arith, leb-false (needed kind t) (against true outer) e) in
        rw (n, none)
    go false false one e k =
        let still : needed kind t - against false outer ≡ need = ap (λ (c : ℕ). needed kind t - c) (against_false outer) ∙ sym (k refl refl) in
        ap₂ leb still (against_false new) ∙ meets_needed need (count_set new) (omega (arith, leb-false (needed kind t) (against false outer) e))

    same : (not (done kind t h outer new) && rest kind t h outer new)
        ≡ decides (beq (value_of kind t outer) (value_of kind t [])) (value_of kind t outer) (meets need (count_set new)) (any (selected 64 w (left_out x)))
    same = rw (value_needs kind t outer h, missing)
        (go (value_of kind t []) (leb (needed kind t) (against (value_of kind t []) outer)) (set_needs_one kind t h) refl (rw (value_needs kind t outer h) at known))
