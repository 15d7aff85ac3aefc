-- Sets of n lines are lawful values, with the number of members as their rank, so that every theorem here holds of them.
-- The last ones are stated for sets: what a run over universal trees and what a plain run come to.
-- Assumes nothing.
use mathlib.Core.Bool.{Bool}
use mathlib.Core.List.{List}
use mathlib.Core.Path.{◌≡◌, sym, ◌∙◌}
use Prim.Native.Nat.{ℕ, ◌+◌, ◌^◌, ◌≤◌, ◌<◌}
use native.Mathlib.Decide.{ℕ_discrete}
use native.Mathlib.Omega.{arith}
use borrow.Author.Tests.{eqb-true, eq-eqb}
use lib.Dec.{eqb}
use Rattle.sets.specs.Set.{full, intersection, members}
use Rattle.sets.proofs.Order as order
use Rattle.sets.proofs.Range.{below_full}
use Rattle.sets.proofs.Members.{members_empty, members_full, members_strict}
use Rattle.sets.proofs.Extreme.{least_fixed_lem, least_least, greatest_fixed_lem, greatest_greatest}
use Rattle.trees.specs.Fit.{Universal}
use Rattle.fixpoint.specs.Lawful.{Lawful, MonotoneQuery, Range, Between}
use Rattle.fixpoint.specs.Levels.{least_among, greatest_among}
use Rattle.fixpoint.specs.Nested.{nested}
use Rattle.fixpoint.specs.Restricted.{restricted}
use Rattle.fixpoint.specs.Plain.{plain}
use Rattle.fixpoint.specs.Sets.{sets}
use Rattle.fixpoint.proofs.Nested.{nested_laws}
use Rattle.fixpoint.proofs.Restricted.{restricted_laws}
use Rattle.fixpoint.proofs.Universal.{universal_exact}
use Rattle.fixpoint.proofs.Plain.{Tells, plain_value, plain_bound}

pub sets_lawful : (n : ℕ) → Lawful (sets n)
sets_lawful n = record {
  refl⊑ = order.refl⊑;
  trans⊑ = λ {a} {b} {c}. order.trans⊑ a b c;
  antisym⊑ = order.antisym⊑;
  decide = ℕ_discrete;
  meet_left = order.meet_left;
  meet_right = order.meet_right;
  meet_glb = λ {a} {b} {c}. order.meet_glb a b c;
  join_left = order.join_left;
  join_right = order.join_right;
  join_lub = λ {a} {b} {c}. order.join_lub a b c;
  step_low = λ {a} {b}. order.step_low a b;
  step_high = λ {a} {b}. order.step_high a b;
  step_mono = λ {a} {a'} {b} {b'} {x} {x'}. order.step_mono a a' b b' x x';
  step_inner = λ {a} {b} {c} {e}. order.step_inner a b c e;
  lfp_fixed = λ g m b. least_fixed_lem n g m (λ x. (b x).1);
  lfp_least = λ g m b. least_least n g m (λ x. (b x).1);
  gfp_fixed = λ g m b. greatest_fixed_lem n g m (λ x. (b x).1);
  gfp_greatest = λ g m b. greatest_greatest n g m (λ x. (b x).1);
  rank_strict = λ {a} {b} l h u ne. members_strict a b h ne;
}

pub eqb_tells : Tells eqb
eqb_tells = record { sound = λ {x} {y}. eqb-true x y; complete = λ x. eq-eqb x x (λ i. x) }

pub members_span : (n : ℕ) → members (full n) ≤ members 0 + n
members_span n = omega (arith, members_full n, members_empty)

-- a lower bound within an upper bound of n lines
pub sets_range : (n a b : ℕ) → intersection a b ≡ a → b < 2 ^ n → Range (sets n) a b
sets_range n a b h l = record { low = order.empty_least a; mid = h; high = below_full n b l }

module _ (n : ℕ) (sign : ℕ → Bool) (f : List ℕ → ℕ) (f-mono : MonotoneQuery (sets n) f) (a b : ℕ) (r : Range (sets n) a b) where
  -- Demand 3 of sets: over two trees that are universal for n the restricted set is the nested fixpoint
  pub universal_nested : (k : ℕ) (xs u v : List ℕ) → Universal n (least_among sign k) u → Universal n (greatest_among sign k) v
      → restricted (sets n) sign f k xs a b u v ≡ nested (sets n) sign f k xs a b
  universal_nested k xs u v = universal_exact (sets n) (sets_lawful n) sign f f-mono n k (members_span n) xs a b r u v

  -- a plain run of n + 1 rounds or more a level comes to the nested fixpoint, however many more
  pub plain_nested : (m : ℕ) → n < m → (k : ℕ) (xs : List ℕ) → (plain (sets n) eqb m sign f a b k xs).value ≡ nested (sets n) sign f k xs a b
  plain_nested = plain_value (sets n) (sets_lawful n) eqb eqb_tells n (members_span n) a b r sign f f-mono

  pub plain_enough : (m m' : ℕ) → n < m → n < m' → (k : ℕ) (xs : List ℕ) → plain (sets n) eqb m sign f a b k xs ≡ plain (sets n) eqb m' sign f a b k xs
  plain_enough = plain_bound (sets n) (sets_lawful n) eqb eqb_tells n (members_span n) a b r sign f f-mono

  -- all three lie between the bounds
  pub nested_between : (k : ℕ) (xs : List ℕ) → Between (sets n) a (nested (sets n) sign f k xs a b) b
  nested_between k xs = (nested_laws (sets n) (sets_lawful n) sign f f-mono k).between xs r

  pub restricted_between : (k : ℕ) (xs u v : List ℕ) → Between (sets n) a (restricted (sets n) sign f k xs a b u v) b
  restricted_between k xs u v = (restricted_laws (sets n) (sets_lawful n) sign f f-mono k).between xs u v r

  pub plain_between : (m : ℕ) → n < m → (k : ℕ) (xs : List ℕ) → Between (sets n) a (plain (sets n) eqb m sign f a b k xs).value b
  plain_between m h k xs = rw (plain_nested m h k xs) (nested_between k xs)

  -- the plain route and a run over universal trees come to the same set
  pub routes_agree : (m : ℕ) → n < m → (k : ℕ) (xs u v : List ℕ) → Universal n (least_among sign k) u → Universal n (greatest_among sign k) v
      → (plain (sets n) eqb m sign f a b k xs).value ≡ restricted (sets n) sign f k xs a b u v
  routes_agree m h k xs u v pu pv = plain_nested m h k xs ∙ sym (universal_nested k xs u v pu pv)
