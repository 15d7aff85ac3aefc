-- A line without operands (request W2) is judged by its kind and the bounds alone: of kind any it is in the set exactly if the lower bound has it, of
-- kind all exactly if the upper bound has it. This holds of the restricted set over any trees, and of the nested fixpoint.
-- Assumes nothing.
use mathlib.Core.Bool.{Bool, true, false, cond, ◌&&◌, ◌||◌, and_self, or_self}
use mathlib.Core.List.{List, [], ◌∷◌}
use mathlib.Core.Path.{◌≡◌, refl, sym, ◌∙◌, ap}
use Prim.Native.Nat.{ℕ, zero, suc, ◌<◌}
use native.Mathlib.Omega.{arith}
use lib.ListN.{get_or}
use Rattle.sets.specs.Set.{is_member, intersection, bounded_step}
use Rattle.sets.proofs.Order.{le_member}
use Rattle.sets.proofs.Membership.{member_meet, member_join}
use Rattle.trees.proofs.Children.{of_some, children_some}
use Rattle.fixpoint.specs.Lawful.{Range}
use Rattle.fixpoint.specs.Levels.{least_among, greatest_among}
use Rattle.fixpoint.specs.Restricted.{restricted, rise, fall, level}
use Rattle.fixpoint.specs.Sets.{sets}
use Rattle.system.specs.System.{System, sign}
use Rattle.system.specs.Query.{WithoutOperands, query}
use Rattle.system.proofs.WithoutOperands.{any_of_none, all_of_none}
use Rattle.routes.specs.Routes.{built_least, built_greatest, nested_set, restricted_set}
use Rattle.routes.proofs.Promises.{built_nested}

-- a query that gives line i the value t whatever the arguments
module _ (n : ℕ) (sign : ℕ → Bool) (f : List ℕ → ℕ) (i : ℕ) (t : Bool) (constant : (xs : List ℕ) → is_member (f xs) i ≡ t) where
  -- line i in a step between bounds that have it or not
  abbrev stepped : Bool → Bool → Bool
  stepped low high = low || (high && t)

  -- a second step, from either bound moved by a first, changes nothing
  again_low : (p q : Bool) → stepped (stepped p q) q ≡ stepped p q
  again_low true q = refl
  again_low false q = or_self (q && t)

  again_high : (p q : Bool) → stepped p (stepped p q) ≡ stepped p q
  again_high true q = refl
  again_high false true = and_self t
  again_high false false = refl

  abbrev Stepped : ℕ → ℕ → ℕ → Type 0
  Stepped a b x = is_member x i ≡ stepped (is_member a i) (is_member b i)

  one_step : (a b : ℕ) (xs : List ℕ) → Stepped a b (bounded_step a b (f xs))
  one_step a b xs = member_join a (intersection b (f xs)) i ∙ rw (member_meet b (f xs) i, constant xs)

  -- one level, over a child and those after it
  module _ (below : ℕ → ℕ → ℕ → List ℕ → List ℕ → ℕ) (holds : (c a b : ℕ) (u v : List ℕ) → Stepped a b (below c a b u v)) where
    rise_stepped : (b : ℕ) (v : List ℕ) (a : ℕ) (u : List ℕ) (us : List (List ℕ)) → Stepped a b (rise below b v a (u ∷ us))
    unfolding rise
    rise_stepped b v a u [] = holds a a b u v
    rise_stepped b v a u (w ∷ us) = rise_stepped b v (below a a b u v) w us ∙ rw (holds a a b u v) (again_low (is_member a i) (is_member b i))

    fall_stepped : (a : ℕ) (u : List ℕ) (b : ℕ) (v : List ℕ) (vs : List (List ℕ)) → Stepped a b (fall below a u b (v ∷ vs))
    unfolding fall
    fall_stepped a u b v [] = holds b a b u v
    fall_stepped a u b v (w ∷ vs) = fall_stepped a u (below b a b u v) w vs ∙ rw (holds b a b u v) (again_high (is_member a i) (is_member b i))

    level_stepped : (greatest : Bool) (hu hv a b : ℕ) (u v : List ℕ) → Stepped a b (level below greatest hu hv a b u v)
    unfolding level
    level_stepped true hu hv a b u v = of_some (λ vs. Stepped a b (fall below a u b vs)) (fall_stepped a u b) (children_some hv v)
    level_stepped false hu hv a b u v = of_some (λ us. Stepped a b (rise below b v a us)) (rise_stepped b v a) (children_some hu u)

  restricted_stepped : (k : ℕ) (xs : List ℕ) (a b : ℕ) (u v : List ℕ) → Stepped a b (restricted (sets n) sign f k xs a b u v)
  unfolding restricted
  restricted_stepped zero xs a b u v = one_step a b xs
  restricted_stepped (suc k) xs a b u v =
      level_stepped (λ c. restricted (sets n) sign f k (c ∷ xs)) (λ c. restricted_stepped k (c ∷ xs)) (sign k) (least_among sign (suc k)) (greatest_among sign (suc k)) a b u v

module _ (s : System) (i : ℕ) (l : i < s.lines) (none : WithoutOperands s i) (a b : ℕ) (r : Range (sets s.lines) a b) where
  -- over any trees, and in the nested fixpoint, whatever the value t of no operands
  module _ (t : Bool) (constant : (xs : List ℕ) → is_member (query s xs) i ≡ t) where
    constant_restricted : (u v : List ℕ) → is_member (restricted_set s a b u v) i ≡ cond t (is_member b i) (is_member a i)
    constant_restricted u v =
        restricted_stepped s.lines (sign s) (query s) i t constant s.levels [] a b u v
        ∙ at t (is_member a i) (is_member b i) (le_member a b r.mid i)
      where
        at : (t p q : Bool) → (p ≡ true → q ≡ true) → (p || (q && t)) ≡ cond t q p
        at true true q h = sym (h refl)
        at true false true h = refl
        at true false false h = refl
        at false true q h = refl
        at false false true h = refl
        at false false false h = refl

    constant_nested : is_member (nested_set s a b) i ≡ cond t (is_member b i) (is_member a i)
    constant_nested =
        ap (λ (x : ℕ). is_member x i) (sym (built_nested s a b r (omega arith)))
        ∙ constant_restricted (built_least s s.lines) (built_greatest s s.lines)

  module _ (kind : get_or s.kinds i 0 ≡ 0) where
    pub any_of_none_restricted : (u v : List ℕ) → is_member (restricted_set s a b u v) i ≡ is_member a i
    any_of_none_restricted = constant_restricted false (λ xs. any_of_none s i l none xs kind)

    pub any_of_none_nested : is_member (nested_set s a b) i ≡ is_member a i
    any_of_none_nested = constant_nested false (λ xs. any_of_none s i l none xs kind)

  module _ (kind : get_or s.kinds i 0 ≡ 1) where
    pub all_of_none_restricted : (u v : List ℕ) → is_member (restricted_set s a b u v) i ≡ is_member b i
    all_of_none_restricted = constant_restricted true (λ xs. all_of_none s i l none xs kind)

    pub all_of_none_nested : is_member (nested_set s a b) i ≡ is_member b i
    all_of_none_nested = constant_nested true (λ xs. all_of_none s i l none xs kind)
