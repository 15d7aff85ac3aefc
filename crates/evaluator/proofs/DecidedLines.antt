-- What the arguments of the outer levels come to, as it is carried: with none known, with one level's more, and with all.
-- Assumes nothing.
use mathlib.Core.Bool.{Bool, true, false, true≢false, cond, not, ◌&&◌, ◌||◌, and-true}
use mathlib.Core.List.{List, [], ◌∷◌}
use mathlib.Core.Path.{◌≡◌, refl, sym, ◌∙◌, ap}
use Prim.Native.Nat.{ℕ, suc, ◌-◌, ◌^◌, ◌<◌}
use native.Mathlib.Nat.{lt_of_le_of_lt}
use native.Mathlib.Omega.{arith}
use borrow.Author.Tests.{ltb-true, ltb-false, eqb-true}
use lib.Bits.{bit_xor, and_le_r, xor_zero_r}
use lib.Dec.{eqb, leb, ltb}
use lib.ListN.{length, get_or}
use lib.Pow.{ones_lt}
use Rattle.sets.specs.Set.{is_member, full, union, intersection, bounded_step}
use Rattle.sets.proofs.Order.{member_le}
use Rattle.sets.proofs.Range.{member_above, member_below}
use Rattle.sets.proofs.Membership.{member_meet, member_join, member_differ, member_empty, member_full, same_members}
use Rattle.system.specs.System.{System}
use Rattle.system.specs.Query.{query, words_of, VotesNeed}
use Rattle.evaluator.specs.ByLevels.{Decided, Needs, Carried, Lowered, Next, initial_set, selects, set_at, is_met, is_lowered, line_needs, outer_set, open_set, is_open, still_needs}
use Rattle.evaluator.specs.declared.Pending.{Pending}
use Rattle.system.proofs.LineSets.{member_set}
use Rattle.system.proofs.Monotone.{set_below}
use Rattle.evaluator.proofs.Needs.{left_out, decides, changed}
use Rattle.evaluator.proofs.OuterLevels.{outer_none, outer_all, open_none, needs_none, needs_more, next_set}

-- with no argument known

pub decided_none : (s : System) (k : ℕ) (w : Pending) → w.set ≡ initial_set s → w.undecided ≡ full s.lines → (a b : ℕ) → Decided s k [] a b w
unfolding open_set
decided_none s k w e f a b = record {
  value = λ i _ _. ap (λ (x : ℕ). is_member x i) (e ∙ sym (outer_none s k));
  still = λ i _ _. ap (λ (x : ℕ). is_member x i) f ∙ all i (ltb i s.lines) refl;
  lines = rw f (ones_lt s.lines);
}
  where
    all : (i : ℕ) (t : Bool) → ltb i s.lines ≡ t → is_member (full s.lines) i ≡ is_member (open_set s k []) i
    all i true h = member_full s.lines i (ltb-true i s.lines h) ∙ sym (open_none s k i (ltb-true i s.lines h))
    all i false h =
        member_above s.lines (full s.lines) i (ones_lt s.lines) (ltb-false i s.lines h)
        ∙ sym (member_set s.lines (is_open s k []) i ∙ rw h)

-- an open line is one of the system's
open_line : (s : System) (k : ℕ) (ys : List ℕ) (i : ℕ) → is_member (open_set s k ys) i ≡ true → i < s.lines
unfolding open_set
open_line s k ys i o = member_below s.lines (open_set s k ys) i (set_below s.lines (is_open s k ys)) o

pub carried_none : (s : System) (k : ℕ) (needs : List ℕ) → ((i : ℕ) → i < s.lines → get_or needs i 0 ≡ line_needs s i) → (a b : ℕ) → Needs s k [] a b needs
carried_none s k needs e a b i p q o v = e i (open_line s k [] i o) ∙ sym (needs_none s k i)

-- one level's argument more

-- the lines that are asked, and those of them that are not set
abbrev pub asked_of : ℕ → ℕ → Pending → ℕ
asked_of a b w = intersection w.undecided (intersection b (bit_xor b a))

abbrev pub unset_of : ℕ → ℕ → Pending → ℕ
unset_of a b w = intersection (asked_of a b w) (bit_xor (asked_of a b w) w.set)

-- a set within another is no greater
within_few : (n y z : ℕ) → ((i : ℕ) → is_member y i ≡ true → is_member z i ≡ true) → z < 2 ^ n → y < 2 ^ n
within_few n y z h few = let e = member_le y z h in lt_of_le_of_lt (omega (arith, and_le_r y z)) few

first : (s t : Bool) → (s && t) ≡ true → s ≡ true
first true t e = refl
first false t e = absurd (true≢false (sym e))

module _ (s : System) (votes : VotesNeed s) (k x a b : ℕ) (w : Pending) (needs : List ℕ) (room : (i : ℕ) → i < s.lines → k < length (words_of s i))
    (few : w.undecided < 2 ^ s.lines) (met lowered missed : ℕ)
    (met-is : (i : ℕ) → is_member met i ≡ (is_member (unset_of a b w) i && is_met s k x needs i))
    (lowered_is : (i : ℕ) → is_member lowered i ≡ (is_member (unset_of a b w) i && is_lowered s k x needs i))
    (out : ℕ) (out-is : out ≡ left_out x) (missed-is : (i : ℕ) → is_member missed i ≡ (is_member (intersection (asked_of a b w) w.set) i && selects s k out i)) where
  abbrev asked : ℕ
  asked = asked_of a b w

  abbrev changes : ℕ
  changes = union met missed

  abbrev pub after : Pending
  after = record { set = bit_xor w.set changes; undecided = bit_xor asked changes }

  asked_is : (i : ℕ) → is_member asked i ≡ (is_member w.undecided i && (is_member b i && cond (is_member b i) (not (is_member a i)) (is_member a i)))
  asked_is i = member_meet w.undecided (intersection b (bit_xor b a)) i ∙ rw (member_meet b (bit_xor b a) i, member_differ b a i)

  unset_is : (i : ℕ) → is_member (unset_of a b w) i ≡ (is_member asked i && cond (is_member asked i) (not (is_member w.set i)) (is_member w.set i))
  unset_is i = member_meet asked (bit_xor asked w.set) i ∙ rw (member_differ asked w.set i)

  tidy : (o v h f : Bool) → (((o && cond o (not v) v) && h) || ((o && v) && f)) ≡ decides o v h f
  tidy true true h f = refl
  tidy true false true f = refl
  tidy true false false f = refl
  tidy false v h f = refl

  changes_is : (i : ℕ) → is_member changes i ≡ decides (is_member asked i) (is_member w.set i) (is_met s k x needs i) (selects s k (left_out x) i)
  changes_is i =
      member_join met missed i
      ∙ rw (met-is i, missed-is i, out-is, unset_is i, member_meet asked w.set i)
      (tidy (is_member asked i) (is_member w.set i) (is_met s k x needs i) (selects s k (left_out x) i))

  asked_inside : (i : ℕ) → is_member asked i ≡ true → is_member w.undecided i ≡ true
  asked_inside i e = first (is_member w.undecided i) _ (sym (asked_is i) ∙ e)

  after_inside : (i : ℕ) → is_member (bit_xor asked changes) i ≡ true → is_member w.undecided i ≡ true
  after_inside i = λ e. asked_inside i (go (is_member asked i) (is_member changes i) (is_member w.set i) (is_met s k x needs i) (selects s k (left_out x) i) (changes_is i) (sym (member_differ asked changes i) ∙ e))
    where
      go : (o t v h f : Bool) → t ≡ decides o v h f → changed o t ≡ true → o ≡ true
      go true t v h f q e = refl
      go false true v h f q e = absurd (true≢false q)
      go false false v h f q e = absurd (true≢false (sym e))

  pub lowered_few : lowered < 2 ^ s.lines
  lowered_few =
      within_few s.lines lowered w.undecided
      (λ i e. asked_inside i (first (is_member asked i) _ (sym (unset_is i) ∙ first (is_member (unset_of a b w) i) _ (sym (lowered_is i) ∙ e)))) few

  module _ (ys : List ℕ) (carried : Carried s (suc k) ys a b w needs) (i : ℕ) (p : is_member b i ≡ true) (q : is_member a i ≡ false) where
    -- a line that a step can change is asked where it is open
    same_open : is_member asked i ≡ is_member (open_set s (suc k) ys) i
    same_open = asked_is i ∙ rw (p, q, and-true (is_member w.undecided i)) (carried.0.still i p q)

    line_next : (is_member (outer_set s k (x ∷ ys)) i ≡ changed (is_member w.set i) (is_member changes i)) × (is_member (open_set s k (x ∷ ys)) i ≡ changed (is_member asked i) (is_member changes i))
    line_next =
        let n = next_set s votes k x ys i (room i) needs (carried.1 i p q) in
        rw (changes_is i, same_open, carried.0.value i p q) n

    -- Where it is open and not set afterwards, it was so before, and what it needs is less by its operands that are set.
    line_needs_lem : is_member (open_set s k (x ∷ ys)) i ≡ true → is_member (outer_set s k (x ∷ ys)) i ≡ false
        → (row : List ℕ) → Lowered s k x lowered needs row → get_or row i 0 ≡ still_needs s k (x ∷ ys) i
    line_needs_lem o v row low =
        go (is_member asked i) (is_member w.set i) (eqb (set_at s k x i) 0) (leb (get_or needs i 0) (set_at s k x i)) (is_member changes i) (is_member lowered i) refl refl refl refl
        (changes_is i) (lowered_is i ∙ rw (unset_is i)) (sym line_next.1 ∙ o) (sym line_next.0 ∙ v)
      where
        from : is_member asked i ≡ true → is_member w.set i ≡ false → get_or needs i 0 ≡ still_needs s (suc k) ys i
        from e f = carried.1 i p q (sym same_open ∙ e) (sym (carried.0.value i p q) ∙ f)

        less : is_member asked i ≡ true → is_member w.set i ≡ false → still_needs s k (x ∷ ys) i ≡ get_or needs i 0 - set_at s k x i
        less e f = needs_more s votes k x ys i (room i) (open_line s (suc k) ys i (sym same_open ∙ e)) ∙ ap (λ (n : ℕ). n - set_at s k x i) (sym (from e f))

        go : (o v z l c d : Bool) → is_member asked i ≡ o → is_member w.set i ≡ v → eqb (set_at s k x i) 0 ≡ z → is_member lowered i ≡ d
            → c ≡ decides o v (not z && l) (selects s k (left_out x) i) → d ≡ ((o && cond o (not v) v) && (not z && not l))
            → changed o c ≡ true → changed v c ≡ false → get_or row i 0 ≡ still_needs s k (x ∷ ys) i
        go true false true l c d eo ev ez ed ec el op cl =
            let none : set_at s k x i ≡ 0 = eqb-true (set_at s k x i) 0 ez in
            low i ∙ rw (ed, el) (sym (less eo ev ∙ rw none))
        go true false false true c d eo ev ez ed ec el op cl = absurd (true≢false (sym (ap (changed true) (sym ec) ∙ op)))
        go true false false false c d eo ev ez ed ec el op cl = low i ∙ rw (ed, el) (sym (less eo ev))
        go true true z l true d eo ev ez ed ec el op cl = absurd (true≢false (sym op))
        go true true z l false d eo ev ez ed ec el op cl = absurd (true≢false cl)
        go false v z l true d eo ev ez ed ec el op cl = absurd (true≢false ec)
        go false v z l false d eo ev ez ed ec el op cl = absurd (true≢false (sym op))

  pub decided_next : (ys : List ℕ) → Carried s (suc k) ys a b w needs → Decided s k (x ∷ ys) a b after
  decided_next ys carried = record {
    value = λ i p q. member_differ w.set changes i ∙ sym (line_next ys carried i p q).0;
    still = λ i p q. member_differ asked changes i ∙ sym (line_next ys carried i p q).1;
    lines = within_few s.lines (bit_xor asked changes) w.undecided after_inside few;
  }

  pub needs_next : (ys : List ℕ) → Carried s (suc k) ys a b w needs → (row : List ℕ) → Lowered s k x lowered needs row → Needs s k (x ∷ ys) a b row
  needs_next ys carried row low i p q o v = line_needs_lem ys carried i p q o v row low

  -- so what is decided is right, whatever arguments stand for what was carried, and only lines of the system need less
  pub next : (lowered < 2 ^ s.lines) × ((ys : List ℕ) → Carried s (suc k) ys a b w needs → Next s k x ys a b needs record { pending = after; lowered = lowered })
  next = (lowered_few, λ ys carried. record { decided = decided_next ys carried; still_needs_lem = needs_next ys carried })

-- where no line is asked, nothing changes
module _ (s : System) (votes : VotesNeed s) (k x a b : ℕ) (w : Pending) (needs : List ℕ) (room : (i : ℕ) → i < s.lines → k < length (words_of s i))
    (few : w.undecided < 2 ^ s.lines) (out : ℕ) (out-is : out ≡ left_out x) (none : asked_of a b w ≡ 0) where
  within_none : (y i : ℕ) (t : Bool) → is_member 0 i ≡ (is_member (intersection (asked_of a b w) y) i && t)
  within_none y i t = rw (none, member_meet 0 y i, member_empty i) refl

  pub next_none : (0 < 2 ^ s.lines)
      × ((ys : List ℕ) → Carried s (suc k) ys a b w needs → Next s k x ys a b needs record { pending = record { set = w.set; undecided = 0 }; lowered = 0 })
  next_none =
      rw (none, xor_zero_r w.set) at (next s votes k x a b w needs room few 0 0 0 (λ i. within_none _ i _) (λ i. within_none _ i _) out out-is (λ i. within_none _ i _))

-- where no line needs less
pub lowered_none : (s : System) (k x : ℕ) (needs : List ℕ) {lines : ℕ} → lines ≡ 0 → Lowered s k x lines needs needs
lowered_none s k x needs e i = rw (e, member_empty i) (omega arith)

-- with every argument known

pub decided_all : (s : System) (xs : List ℕ) (a b : ℕ) (w : Pending) → Decided s 0 xs a b w → bounded_step a b w.set ≡ bounded_step a b (query s xs)
decided_all s xs a b w d = same_members (bounded_step a b w.set) (bounded_step a b (query s xs)) λ i.
    member_join a (intersection b w.set) i
    ∙ rw (member_meet b w.set i, member_join a (intersection b (query s xs)) i, member_meet b (query s xs) i) (at i (is_member a i) (is_member b i) refl refl)
  where
    at : (i : ℕ) (s' t : Bool) → is_member a i ≡ s' → is_member b i ≡ t → (s' || (t && is_member w.set i)) ≡ (s' || (t && is_member (query s xs) i))
    at i true t p q = refl
    at i false false p q = refl
    at i false true p q = d.value i q p ∙ ap (λ (x : ℕ). is_member x i) (outer_all s xs)
