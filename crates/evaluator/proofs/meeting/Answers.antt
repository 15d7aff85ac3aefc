use mathlib.Core.Bool.{Bool, true, false, cond, not, ◌&&◌, and-true}
use mathlib.Core.Path.{◌≡◌, refl, ◌∙◌, ap}
use Prim.Native.Nat.{ℕ, ◌-◌, ◌*◌, ◌≤◌, ◌<◌}
use native.Mathlib.Omega.{arith}
use borrow.Author.Tests.{eq-eqb, ne_eqb, eqb-true, eqb-false, le-leb, lt-leb}
use lib.Bits.{bit_xor}
use lib.Count.{count_trailing_zeros}
use lib.Dec.{eqb, leb}
use lib.ListN.{length, get_or}
use Rattle.sets.specs.Set.{is_member, intersection, members}
use Rattle.sets.proofs.Members.{members_empty, members_some}
use Rattle.sets.proofs.Membership.{member_differ}
use Rattle.system.specs.Query.{count_set}
use Rattle.sets.proofs.PassedLines.{found_all, found_same, found_one}
use Rattle.evaluator.proofs.LookedLines.{masked, count_masked, Looked, looked, in_lines}
use Rattle.evaluator.proofs.meeting.Invariants.{part_of, some_of}
use Rattle.evaluator.proofs.meeting.Goals as goal
use Rattle.evaluator.proofs.meeting.Goals.{After-u64_at, In-loop-rest, Joined-operands-ne0, then-operands-ne0, else-operands-ne0, else-need-gt1-via-then-need-gt1+else-member_count-need, else-need-gt1-via-else-need-gt1}

-- the line that is looked at
at_line : (c : In-loop-rest) →
    let z = c.args in
    let rest = c.loop-rest.rest in
    Looked (length z.file.bytes.now) z.file.model.lines c.level_words-at.result (8 * z.file.model.levels) rest (count_trailing_zeros 64 rest)
at_line c =
    looked c.args.file.held.laid_out c.requires.0 c.level_words-at.ensures refl c.requires.1 c.loop-rest.rest c.loop-rest.invariant.some.passed.few c.loop-rest-test.true

pub u64_at-requires : goal.u64_at-requires
u64_at-requires c = (at_line (goal.at.u64_at-requires c).In-loop-rest).room

-- the bits that a line's word selects are as many as its operands that are set
counted : (c : After-u64_at) →
    let z = c.args in
    count_set (masked z.file.bytes.now c.level_words-at.result (8 * z.file.model.levels) z.x (count_trailing_zeros 64 c.loop-rest.rest)) ≡ members (intersection c.u64_at.result z.x)
counted c =
    let z = c.args in
    count_masked z.file.bytes.now c.level_words-at.result (8 * z.file.model.levels) z.x
    (count_trailing_zeros 64 c.loop-rest.rest) c.u64_at.result c.u64_at.ensures (omega arith) (omega arith)

-- a set has members if it is not empty
some_found : (x : ℕ) → eqb (members x) 0 ≡ eqb x 0
some_found x = go (eqb x 0) refl
  where
    go : (t : Bool) → eqb x 0 ≡ t → eqb (members x) 0 ≡ t
    go true e = eq-eqb (members x) 0 (ap members (eqb-true x 0 e) ∙ members_empty)
    go false e = ne_eqb (members x) 0 (λ (z : members x ≡ 0). omega (arith, members_some x (eqb-false x 0 e)))

module _ {n : ℕ} (found : ℕ) (same : n ≡ members found) where
  -- so some are set where there is an operand
  some_are : some_of n ≡ not (eqb found 0)
  some_are = rw (same, some_found found)

  -- they are a part of what is needed if they are fewer
  part_short : (need : ℕ) → members found < need → part_of need n ≡ not (eqb found 0)
  part_short need h = rw (same, some_found found, lt-leb need (members found) h) (and-true (not (eqb found 0)))

  -- and not if they are enough, as one is where no more is needed
  part_enough : (need : ℕ) → (1 ≤ members found → need ≤ members found) → part_of need n ≡ false
  part_enough need h = rw (same, some_found found) (go (eqb found 0) refl)
    where
      go : (t : Bool) → eqb found 0 ≡ t → (not t && not (leb need (members found))) ≡ false
      go true e = refl
      go false e = ap not (le-leb need (members found) (h (members_some found (eqb-false found 0 e))))

-- the line itself where there is an operand, and else no line
one_is : (c : Joined-operands-ne0) →
    let rest = c.loop-rest.rest in
    c.if-operands-ne0.one ≡ cond (not (eqb (intersection c.u64_at.result c.args.x) 0)) (bit_xor rest (intersection rest (rest - 1))) 0
one_is c =
    let found = intersection c.u64_at.result c.args.x in
    elim c.if-operands-ne0.branch [
      | then-operands-ne0 w ↦ w.one-is ∙ rw (ne_eqb found 0 w.if-operands-ne0.true)
      | else-operands-ne0 w ↦ w.one-is ∙ rw (eq-eqb found 0 w.if-operands-ne0.false)
    ]

pub loop-rest-preserved-then-member_count-need : goal.loop-rest-preserved-then-member_count-need
loop-rest-preserved-then-member_count-need c =
    let at = goal.at.loop-rest-preserved-then-member_count-need c in
    let low = (at_line at.In-loop-rest).low in
    let n = counted at.After-u64_at in
    let one = one_is at.Joined-operands-ne0 in
    let short : members (intersection c.u64_at.result c.args.x) < get_or c.args.needs.now (count_trailing_zeros 64 c.loop-rest.rest) 0 = omega arith in
    record {
      some = found_one _ _ low c.loop-rest.invariant.some _ _ (some_are _ n) one;
      part = found_one _ _ low c.loop-rest.invariant.part _ _ (part_short _ n _ short) one;
    }

pub loop-rest-preserved : goal.loop-rest-preserved
loop-rest-preserved c =
    let at = goal.at.loop-rest-preserved c in
    let low = (at_line at.In-loop-rest).low in
    let n = counted at.After-u64_at in
    let found = members (intersection c.u64_at.result c.args.x) in
    let enough : 1 ≤ found → get_or c.args.needs.now (count_trailing_zeros 64 c.loop-rest.rest) 0 ≤ found = λ some. elim c.else-need-gt1.branch [
      | else-need-gt1-via-then-need-gt1+else-member_count-need w ↦ omega arith
      | else-need-gt1-via-else-need-gt1 w ↦ omega arith
    ] in
    record {
      some = found_one _ _ low c.loop-rest.invariant.some _ _ (some_are _ n) (one_is at.Joined-operands-ne0);
      part = found_same _ _ low c.loop-rest.invariant.part (part_enough _ n _ enough);
    }

-- those with operands but without the lowered ones have all that they need
all_told : (s z l : Bool) → cond (s && z) (not (s && (z && not l))) (s && (z && not l)) ≡ (s && (z && l))
all_told true true true = refl
all_told true true false = refl
all_told true false l = refl
all_told false z l = refl

pub returns : goal.returns
returns c =
    let z = c.args in
    let l = c.loop-rest in
    let end : l.rest ≡ 0 = c.loop-rest-test.false in
    let begin = c.level_words-at.ensures in
    let hit = found_all _ z.lines l.hit (rw end at l.invariant.some) in
    let lowered = found_all _ z.lines l.lowered (rw end at l.invariant.part) in record {
      met = (λ i. member_differ l.hit l.lowered i ∙ rw (hit i, lowered i) (all_told (is_member z.lines i) _ _)
          ∙ in_lines c.args.file.held.laid_out c.requires.0 begin refl c.requires.1 z.x i (λ t bits. t && (some_of (count_set bits) && leb (get_or z.needs.now i 0) (count_set bits))) (λ bs cs. refl));
      lowered = (λ i. lowered i ∙ in_lines c.args.file.held.laid_out c.requires.0 begin refl c.requires.1 z.x i (λ t bits. t && part_of (get_or z.needs.now i 0) (count_set bits)) (λ bs cs. refl));
    }
