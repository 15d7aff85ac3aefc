-- The search that follows each position once: what has been found and followed so far, one position more, and the end, where all that was found is followed.
-- Assumes nothing.
use mathlib.Core.Bool.{Bool, true, false, true≢false}
use mathlib.Core.Logic.{◌⊎◌, inl, inr}
use mathlib.Core.Path.{◌≡◌, refl, sym, ◌∙◌, ap}
use Prim.Native.Nat.{ℕ, ◌-◌, ◌^◌, ◌<◌}
use native.Mathlib.Omega.{arith}
use borrow.Author.Tests.{eqb-true, eq-eqb}
use lib.Bits.{bit_xor}
use Rattle.sets.specs.Set.{is_member, full, union, intersection, members}
use Rattle.sets.proofs.Order.{◌⊑◌, le_member, member_le, trans⊑, antisym⊑, refl⊑, empty_least, meet_left, meet_right, join_left, join_right, join_lub}
use Rattle.sets.proofs.Range.{below_full}
use Rattle.sets.proofs.Members.{members_full, members_most, members_strict}
use Rattle.sets.proofs.Membership.{member_empty, member_differ, member_power, in_both, in_either}
use Rattle.reach.specs.Met.{Met, here, onward, Leads}
use Rattle.reach.specs.Search.{reached}
use Rattle.reach.proofs.Search.{In, met_inside, reached_is}

-- what is found, and of that what is followed: its allowed successors are found too
pub record Searched (n : ℕ) (next : ℕ → ℕ) (allowed start found followed : ℕ) : Type 0 where
  pub begun : start ⊑ found
  pub few : found ⊑ full n
  pub part : followed ⊑ found
  pub met : (q : ℕ) → In found q → (p : ℕ) × In start p × Met (Leads next allowed) p q
  pub closed : (p q : ℕ) → In followed p → Leads next allowed p q → In found q

module _ (n : ℕ) (next : ℕ → ℕ) (allowed start : ℕ) (within : allowed < 2 ^ n) (begin : start < 2 ^ n) where
  abbrev Now : ℕ → ℕ → Type 0
  Now = Searched n next allowed start

  pub searched_none : Now start 0
  searched_none = record {
    begun = refl⊑ start;
    few = below_full n start begin;
    part = empty_least start;
    met = λ q h. (q, h, here);
    closed = λ p q h l. absurd (true≢false (sym h ∙ member_empty p));
  }

  pub searched_all : (found : ℕ) → Now found found → found ≡ reached n next allowed start
  searched_all found s = antisym⊑ (member_le _ _ there) (member_le _ _ back)
    where
      there : (q : ℕ) → In found q → In (reached n next allowed start) q
      there q h = (reached_is n next allowed within start begin q).1 (s.met q h)

      back : (q : ℕ) → In (reached n next allowed start) q → In found q
      back q h =
          let (p, hp, t) = (reached_is n next allowed within start begin q).0 h in
          met_inside found s.closed (le_member _ _ s.begun p hp) t

  -- one position more is followed, which was found and not followed yet
  module _ {found followed : ℕ} (s : Now found followed) (p : ℕ) (is_found : In found p) (new : is_member followed p ≡ false) where
    abbrev found' : ℕ
    found' = union found (intersection (next p) allowed)

    abbrev followed' : ℕ
    followed' = union followed (2 ^ p)

    only : (q : ℕ) → In (2 ^ p) q → q ≡ p
    only q h = eqb-true q p (sym (member_power p q) ∙ h)

    itself : In (2 ^ p) p
    itself = member_power p p ∙ eq-eqb p p refl

    pub searched_more : Now found' followed'
    searched_more = record {
      begun = trans⊑ start found found' s.begun (join_left found (intersection (next p) allowed));
      few = join_lub found (intersection (next p) allowed) (full n) s.few (trans⊑ _ allowed (full n) (meet_right (next p) allowed) (below_full n allowed within));
      part = trans⊑ followed' found found' (join_lub followed (2 ^ p) found s.part (member_le _ _ (λ q h. rw (only q h) is_found))) (join_left found (intersection (next p) allowed));
      met = λ q h. met_more q (in_either found (intersection (next p) allowed) q h);
      closed = λ o q h l. closed_more o q l (in_either followed (2 ^ p) o h);
    }
      where
        met_more : (q : ℕ) → In found q ⊎ In (intersection (next p) allowed) q → (o : ℕ) × In start o × Met (Leads next allowed) o q
        met_more q (inl h) = s.met q h
        met_more q (inr h) =
            let (o, ho, t) = s.met p is_found in
            (o, ho, onward t (record { successor = le_member _ _ (meet_left (next p) allowed) q h; admitted = le_member _ _ (meet_right (next p) allowed) q h }))

        closed_more : (o q : ℕ) → Leads next allowed o q → In followed o ⊎ In (2 ^ p) o → In found' q
        closed_more o q l (inl h) = le_member _ _ (join_left found (intersection (next p) allowed)) q (s.closed o q h l)
        closed_more o q l (inr h) =
            le_member _ _ (join_right found (intersection (next p) allowed)) q
            (in_both (next p) allowed q (rw (only o h) at l.successor) l.admitted)

    -- the positions that are not followed yet are fewer
    pub less_left : n - members followed' < n - members followed
    less_left = omega (
      arith,
      members_strict followed followed' (join_left followed (2 ^ p)) (λ e. true≢false (sym (le_member _ _ (join_right followed (2 ^ p)) p itself) ∙ ap (λ (x : ℕ). is_member x p) (sym e) ∙ new)),
      members_most followed' (full n) (trans⊑ followed' found' (full n) searched_more.part searched_more.few),
      members_full n,
    )

-- a position of one set and not of the other, which is a part of it
pub found_first : (found followed : ℕ) → followed ⊑ found → (p : ℕ) → In (bit_xor found followed) p → In found p × (is_member followed p ≡ false)
found_first found followed part p h = go (is_member found p) refl (is_member followed p) refl
  where
    go : (s : Bool) → is_member found p ≡ s → (t : Bool) → is_member followed p ≡ t → In found p × (is_member followed p ≡ false)
    go true e false f = (e, f)
    go true e true f = absurd (true≢false (sym h ∙ member_differ found followed p ∙ rw (e, f)))
    go false e t f = absurd (true≢false (sym (le_member _ _ part p (sym (member_differ found followed p ∙ rw (e)) ∙ h)) ∙ e))
