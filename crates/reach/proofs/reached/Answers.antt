use mathlib.Core.Bool.{false}
use mathlib.Core.Path.{◌≡◌, sym}
use Prim.Native.Nat.{ℕ, ◌<◌}
use native.Mathlib.Nat.{lt_of_lt_of_le}
use native.Mathlib.Omega.{arith}
use borrow.Author.Tests.{eq-eqb}
use lib.Bits.{bit_xor, xor_lt}
use lib.Count.{count_trailing_zeros}
use lib.ListN.{length}
use lib.Pow.{pow_mono}
use Rattle.sets.specs.Set.{is_member, full}
use Rattle.sets.proofs.Order.{digit, trans⊑}
use Rattle.sets.proofs.Membership.{Lowest, lowest, one_shifted, differ_none}
use Rattle.sets.proofs.Range.{full_below, member_below}
use Rattle.reach.proofs.Search.{In}
use Rattle.reach.proofs.Following.{searched_none, searched_more, searched_all, less_left, found_first}
use Rattle.reach.proofs.reached.Goals as goal
use Rattle.reach.proofs.reached.Goals.{In-loop-followed}

pub loop-followed-init : goal.loop-followed-init
loop-followed-init c = searched_none _ _ _ _ c.requires.allowed_bound.0 c.requires.allowed_bound.1

-- the position that is followed next: the lowest that is found and not followed yet
record Follows (n found followed p : ℕ) : Type 0 where
  low : p < 64
  one : p < n
  is_found : In found p
  new : is_member followed p ≡ false

followed_next : (c : In-loop-followed) →
    let l = c.loop-followed in
    Follows (length c.args.next.now) l.found l.followed (count_trailing_zeros 64 (bit_xor l.found l.followed))
followed_next c =
    let l = c.loop-followed in
    let n = length c.args.next.now in
    let t = count_trailing_zeros 64 (bit_xor l.found l.followed) in
    let few = xor_lt n l.found l.followed (full_below n l.found l.invariant.few) (full_below n l.followed (trans⊑ _ _ (full n) l.invariant.part l.invariant.few)) in
    let low : Lowest 64 (bit_xor l.found l.followed) t = lowest 64 (bit_xor l.found l.followed) (lt_of_lt_of_le few (pow_mono c.requires.next_len_bound)) (λ z. c.loop-followed-test.true (sym (differ_none l.found l.followed z))) in
    let first = found_first l.found l.followed l.invariant.part t (eq-eqb (digit (bit_xor l.found l.followed) t) 1 low.is_in) in
    record { low = low.low; one = member_below n l.found t (full_below n l.found l.invariant.few) first.0; is_found = first.0; new = first.1 }

pub overflow_cast-p : goal.overflow_cast-p
overflow_cast-p c = omega (arith, (followed_next (goal.at.overflow_cast-p c).In-loop-followed).low)

pub overflow_shl-followed : goal.overflow_shl-followed
overflow_shl-followed c = (followed_next (goal.at.overflow_shl-followed c).In-loop-followed).low

pub offset_bounds-next-p : goal.offset_bounds-next-p
offset_bounds-next-p c = omega (arith, (followed_next (goal.at.offset_bounds-next-p c).In-loop-followed).low)

pub bounds-next-p : goal.bounds-next-p
bounds-next-p c = (followed_next (goal.at.bounds-next-p c).In-loop-followed).one

pub loop-followed-smaller : goal.loop-followed-smaller
loop-followed-smaller c =
    let next = followed_next (goal.at.loop-followed-smaller c).In-loop-followed in
    rw (one_shifted _ next.low) (less_left _ _ _ _ c.requires.allowed_bound.0 c.requires.allowed_bound.1 c.loop-followed.invariant _ next.is_found next.new)

pub loop-followed-preserved : goal.loop-followed-preserved
loop-followed-preserved c =
    let next = followed_next (goal.at.loop-followed-preserved c).In-loop-followed in
    rw (one_shifted _ next.low) (searched_more _ _ _ _ c.requires.allowed_bound.0 c.requires.allowed_bound.1 c.loop-followed.invariant _ next.is_found next.new)

pub returns : goal.returns
returns c =
    let l = c.loop-followed in
    let all : l.followed ≡ l.found = c.loop-followed-test.false in
    searched_all _ _ _ _ c.requires.allowed_bound.0 c.requires.allowed_bound.1 l.found (rw all at l.invariant)
