-- The rounds find precisely what can be met: n of them are enough, since a round that adds nothing is the last that could, and every other adds a position.
-- Assumes nothing.
use mathlib.Core.Bool.{Bool, true, false, cond, true≢false}
use mathlib.Core.Logic.{◌⊎◌, inl, inr, ◌↔◌}
use mathlib.Core.Path.{◌≡◌, refl, sym, ◌∙◌, ap, subst}
use Prim.Native.Nat.{ℕ, zero, suc, ◌+◌, ◌^◌, ◌≤◌, ◌<◌}
use native.Mathlib.Omega.{arith}
use native.Mathlib.Decide.{ℕ_discrete}
use native.Mathlib.Nat.{eq-or-lt_of_le, le_of_suc-le-suc, not-suc-le-zero}
use Rattle.sets.specs.Set.{is_member, full, union, intersection, members}
use Rattle.sets.proofs.Order.{◌⊑◌, le_member, refl⊑, trans⊑, meet_left, meet_right, join_left, join_right, join_lub}
use Rattle.sets.proofs.Range.{below_full, full_below, member_below}
use Rattle.sets.proofs.Members.{members_full, members_most, members_strict}
use Rattle.sets.proofs.Membership.{member_empty, in_both, in_either}
use Rattle.reach.specs.Met.{Met, here, onward, Leads}
use Rattle.reach.specs.Search.{successors, one_round, rounds, reached}

-- p is in the set x
abbrev pub In : ℕ → ℕ → Type 0
In x p = is_member x p ≡ true

no_member : (p : ℕ) → In 0 p → ⊥
no_member p h = true≢false (sym h ∙ member_empty p)

-- a step in front
pub met_from : {Step : ℕ → ℕ → Type 0} {p q r : ℕ} → Step p q → Met Step q r → Met Step p r
met_from s here = onward here s
met_from s (onward t u) = onward (met_from s t) u

-- a path keeps what its steps keep, and other steps can be taken for them
pub met_along : {R S : ℕ → ℕ → Type 0} (P : ℕ → Type 0) → ((p q : ℕ) → P p → R p q → P q × S p q) → {p q : ℕ} → P p → Met R p q → P q × Met S p q
met_along P steps h here = (h, here)
met_along P steps h (onward {q} {r} t s) =
    let (kept, path) = met_along P steps h t in
    let (next, step) = steps q r kept s in
    (next, onward path step)

-- other steps for the same path
pub met_map : {R S : ℕ → ℕ → Type 0} → ((p q : ℕ) → R p q → S p q) → {p q : ℕ} → Met R p q → Met S p q
met_map f t = (met_along (λ _. Unit {0}) (λ p q h s. (h, f p q s)) tt t).1

-- a set that no step leaves has all that can be met from its members
pub met_inside : {Step : ℕ → ℕ → Type 0} (x : ℕ) → ((p q : ℕ) → In x p → Step p q → In x q) → {p q : ℕ} → In x p → Met Step p q → In x q
met_inside x closed i t = (met_along (In x) (λ p q h s. (closed p q h s, s)) i t).0

-- ---- one round ----

-- a member's successors are among the successors
successors_in : (next : ℕ → ℕ) (n x p q : ℕ) → p < n → In x p → In (next p) q → In (successors next n x) q
unfolding successors
successors_in next zero x p q l hp hq = absurd (not-suc-le-zero l)
successors_in next (suc n) x p q l hp hq = go (eq-or-lt_of_le (le_of_suc-le-suc l)) (λ l. successors_in next n x p q l hp hq)
  where
    go : (p ≡ n) ⊎ (p < n) → (p < n → In (successors next n x) q) → In (union (successors next n x) (cond (is_member x n) (next n) 0)) q
    go (inl e) ih = le_member _ _ (join_right (successors next n x) (cond (is_member x n) (next n) 0)) q (rw (← e, hp) hq)
    go (inr l) ih = le_member _ _ (join_left (successors next n x) (cond (is_member x n) (next n) 0)) q (ih l)

-- and each of them is some member's
in_successors : (next : ℕ → ℕ) (n x q : ℕ) → In (successors next n x) q → (p : ℕ) × In x p × In (next p) q
unfolding successors
in_successors next zero x q h = absurd (no_member q h)
in_successors next (suc n) x q h = go (in_either (successors next n x) (cond (is_member x n) (next n) 0) q h) (in_successors next n x q)
  where
    last : (t : Bool) → is_member x n ≡ t → In (cond t (next n) 0) q → (p : ℕ) × In x p × In (next p) q
    last true e h = (n, e, h)
    last false e h = absurd (no_member q h)

    go : In (successors next n x) q ⊎ In (cond (is_member x n) (next n) 0) q → (In (successors next n x) q → (p : ℕ) × In x p × In (next p) q)
        → (p : ℕ) × In x p × In (next p) q
    go (inl h) ih = ih h
    go (inr h) ih = last (is_member x n) refl h

-- the successors of the first n positions alone are asked for
successors_same : (next other : ℕ → ℕ) (n : ℕ) → ((p : ℕ) → p < n → next p ≡ other p) → (x : ℕ) → successors next n x ≡ successors other n x
unfolding successors
successors_same next other zero same x = refl
successors_same next other (suc n) same x = rw (successors_same next other n (λ p l. same p (omega arith)) x, same n (omega arith))

-- ---- n rounds ----

module _ (n : ℕ) (next : ℕ → ℕ) (allowed : ℕ) (within : allowed < 2 ^ n) where
  grows : (x : ℕ) → x ⊑ one_round n next allowed x
  grows x = join_left x (intersection (successors next n x) allowed)

  stays : (x : ℕ) → x ⊑ full n → one_round n next allowed x ⊑ full n
  stays x h =
      let y : ℕ = intersection (successors next n x) allowed in
      join_lub x y (full n) h (trans⊑ y allowed (full n) (meet_right (successors next n x) allowed) (below_full n allowed within))

  -- a round that adds nothing is followed by such rounds
  settled : (m x : ℕ) → one_round n next allowed x ≡ x → rounds n next allowed m x ≡ x
  unfolding rounds
  settled zero x e = refl
  settled (suc m) x e = ap (λ (y : ℕ). rounds n next allowed m y) e ∙ settled m x e

  -- a round that adds something adds a member
  more_members : (x : ℕ) → (one_round n next allowed x ≡ x → ⊥) → members x < members (one_round n next allowed x)
  more_members x d = members_strict x (one_round n next allowed x) (grows x) (λ e. d (sym e))

  -- m rounds settle a set that lacks at most m positions
  settles : (m x : ℕ) → x ⊑ full n → n ≤ members x + m → one_round n next allowed (rounds n next allowed m x) ≡ rounds n next allowed m x
  unfolding rounds
  settles zero x h room = go (ℕ_discrete (one_round n next allowed x) x)
    where
      go : Dec (one_round n next allowed x ≡ x) → one_round n next allowed x ≡ x
      go (yes e) = e
      go (no d) = absurd (omega (arith, more_members x d, members_most (one_round n next allowed x) (full n) (stays x h), members_full n))
  settles (suc m) x h room = go (ℕ_discrete (one_round n next allowed x) x) (settles m (one_round n next allowed x) (stays x h))
    where
      go : Dec (one_round n next allowed x ≡ x)
          → (n ≤ members (one_round n next allowed x) + m → one_round n next allowed (rounds n next allowed m (one_round n next allowed x)) ≡ rounds n next allowed m (one_round n next allowed x))
          → one_round n next allowed (rounds n next allowed m (one_round n next allowed x)) ≡ rounds n next allowed m (one_round n next allowed x)
      go (yes e) ih = rw (e, settled m x e) e
      go (no d) ih = ih (omega (arith, more_members x d))

  rounds_grow : (m x : ℕ) → x ⊑ rounds n next allowed m x
  unfolding rounds
  rounds_grow zero x = refl⊑ x
  rounds_grow (suc m) x =
      trans⊑ x (one_round n next allowed x) (rounds n next allowed m (one_round n next allowed x)) (grows x) (rounds_grow m (one_round n next allowed x))

  rounds_stay : (m x : ℕ) → x ⊑ full n → rounds n next allowed m x ⊑ full n
  unfolding rounds
  rounds_stay zero x h = h
  rounds_stay (suc m) x h = rounds_stay m (one_round n next allowed x) (stays x h)

  -- what m rounds find can be met
  rounds_met : (m x q : ℕ) → In (rounds n next allowed m x) q → (p : ℕ) × In x p × Met (Leads next allowed) p q
  unfolding rounds
  rounds_met zero x q h = (q, h, here)
  rounds_met (suc m) x q h = let (p, hp, t) = rounds_met m (one_round n next allowed x) q h in go p t (in_either x (intersection (successors next n x) allowed) p hp)
    where
      go : (p : ℕ) → Met (Leads next allowed) p q → In x p ⊎ In (intersection (successors next n x) allowed) p → (p : ℕ) × In x p × Met (Leads next allowed) p q
      go p t (inl hp) = (p, hp, t)
      go p t (inr hp) =
          let (o, ho, hs) = in_successors next n x p (le_member _ _ (meet_left (successors next n x) allowed) p hp) in
          (o, ho, met_from (record { successor = hs; admitted = le_member _ _ (meet_right (successors next n x) allowed) p hp }) t)

  module _ (x : ℕ) (start : x < 2 ^ n) where
    pub reached_below : reached n next allowed x < 2 ^ n
    reached_below = full_below n (reached n next allowed x) (rounds_stay n x (below_full n x start))

    -- no step leaves what is reached
    step_reached : (p q : ℕ) → In (reached n next allowed x) p → Leads next allowed p q → In (reached n next allowed x) q
    step_reached p q hp l =
        let z : ℕ = reached n next allowed x in
        let same : one_round n next allowed z ≡ z = settles n x (below_full n x start) (omega arith) in
        subst (λ (y : ℕ). In y q) same
        (le_member _ _ (join_right z (intersection (successors next n z) allowed)) q
        (in_both (successors next n z) allowed q (successors_in next n z p q (member_below n z p reached_below hp) hp l.successor) l.admitted))

    -- The search is right: q is reached exactly if it can be met from a member of x.
    pub reached_is : (q : ℕ) → In (reached n next allowed x) q ↔ ((p : ℕ) × In x p × Met (Leads next allowed) p q)
    reached_is q = (rounds_met n x q, λ t. met_inside (reached n next allowed x) step_reached (le_member _ _ (rounds_grow n x) t.0 t.1) t.2)

-- The successors of n positions alone are asked for.
pub reached_same : (next other : ℕ → ℕ) (n : ℕ) → ((p : ℕ) → p < n → next p ≡ other p) → (allowed x : ℕ) → reached n next allowed x ≡ reached n other allowed x
unfolding rounds
reached_same next other n same allowed x = go n x
  where
    go : (m x : ℕ) → rounds n next allowed m x ≡ rounds n other allowed m x
    go zero x = refl
    go (suc m) x = rw (successors_same next other n same x) (go m (one_round n other allowed x))
