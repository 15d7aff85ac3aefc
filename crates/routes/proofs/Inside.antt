-- What the levels give lies between the intersection and the union of the bounds, whatever the bounds are. So the bounds only narrow on the way in, and
-- what is carried of the lines that they leave open holds between the narrower ones.
-- Assumes nothing.
use mathlib.Core.Bool.{Bool, true, false}
use mathlib.Core.List.{List, [], ◌∷◌}
use mathlib.Core.Path.{◌≡◌}
use Prim.Native.Nat.{ℕ, zero, suc, ◌≤◌, min, max}
use native.Mathlib.Omega.{arith}
use borrow.Author.Tests.{eq-eqb, ne_eqb}
use Rattle.sets.specs.Set.{is_member, bounded_step}
use Rattle.sets.proofs.Order.{digit, digit_step}
use Rattle.sets.proofs.Membership.{member_digit}
use Rattle.trees.specs.Tree.{children}
use Rattle.fixpoint.specs.Levels.{least_among, greatest_among}
use Rattle.fixpoint.specs.Restricted.{restricted, rise, fall, level}
use Rattle.fixpoint.specs.Sets.{sets}
use Rattle.system.specs.System.{System}
use Rattle.evaluator.specs.ByLevels.{Carried}
use Rattle.evaluator.specs.declared.Pending.{Pending}

pub record Inside (a b x : ℕ) : Type 0 where
  pub low : (i : ℕ) → min (digit a i) (digit b i) ≤ digit x i
  pub high : (i : ℕ) → digit x i ≤ max (digit a i) (digit b i)

inside_low : (a b : ℕ) → Inside a b a
inside_low a b = record { low = λ i. omega arith; high = λ i. omega arith }

inside_high : (a b : ℕ) → Inside a b b
inside_high a b = record { low = λ i. omega arith; high = λ i. omega arith }

inside_step : (a b x : ℕ) → Inside a b (bounded_step a b x)
inside_step a b x = record { low = λ i. omega (arith, digit_step a b x i); high = λ i. omega (arith, digit_step a b x i) }

-- narrower bounds on either side
inside_from_low : {a b x y : ℕ} → Inside a b x → Inside x b y → Inside a b y
inside_from_low f g = record { low = λ i. omega (arith, f.low i, g.low i); high = λ i. omega (arith, f.high i, g.high i) }

inside_from_high : {a b x y : ℕ} → Inside a b x → Inside a x y → Inside a b y
inside_from_high f g = record { low = λ i. omega (arith, f.low i, g.low i); high = λ i. omega (arith, f.high i, g.high i) }

module _ (below : ℕ → ℕ → ℕ → List ℕ → List ℕ → ℕ) (inside : (c a b : ℕ) (u v : List ℕ) → Inside a b (below c a b u v)) where
  pub rise_inside : (b : ℕ) (v : List ℕ) (a : ℕ) (us : List (List ℕ)) → Inside a b (rise below b v a us)
  unfolding rise
  rise_inside b v a [] = inside_low a b
  rise_inside b v a (u ∷ us) = inside_from_low (inside a a b u v) (rise_inside b v (below a a b u v) us)

  pub fall_inside : (a : ℕ) (u : List ℕ) (b : ℕ) (vs : List (List ℕ)) → Inside a b (fall below a u b vs)
  unfolding fall
  fall_inside a u b [] = inside_high a b
  fall_inside a u b (v ∷ vs) = inside_from_high (inside b a b u v) (fall_inside a u (below b a b u v) vs)

  level_inside : (t : Bool) (hu hv a b : ℕ) (u v : List ℕ) → Inside a b (level below t hu hv a b u v)
  unfolding level
  level_inside true hu hv a b u v = fall_inside a u b (children hv v)
  level_inside false hu hv a b u v = rise_inside b v a (children hu u)

pub restricted_inside : (n : ℕ) (sign : ℕ → Bool) (f : List ℕ → ℕ) (k : ℕ) (xs : List ℕ) (a b : ℕ) (u v : List ℕ) → Inside a b (restricted (sets n) sign f k xs a b u v)
unfolding restricted
restricted_inside n sign f zero xs a b u v = inside_step a b (f xs)
restricted_inside n sign f (suc k) xs a b u v =
    level_inside (λ c. restricted (sets n) sign f k (c ∷ xs)) (λ c. restricted_inside n sign f k (c ∷ xs)) (sign k) (least_among sign (suc k)) (greatest_among sign (suc k)) a b u v

-- what is carried between two bounds is carried between others that leave no more lines open
module _ {s : System} {k : ℕ} {ys : List ℕ} {a b : ℕ} {w : Pending} (needs : List ℕ) where
  carried_between : {c e : ℕ} → ((i : ℕ) → is_member e i ≡ true → is_member c i ≡ false → (is_member b i ≡ true) × (is_member a i ≡ false))
      → Carried s k ys a b w needs → Carried s k ys c e w needs
  carried_between in-wider (d, n) = (
    record { value = λ i p q. d.value i (in-wider i p q).0 (in-wider i p q).1; still = λ i p q. d.still i (in-wider i p q).0 (in-wider i p q).1; lines = d.lines },
    (λ i p q. n i (in-wider i p q).0 (in-wider i p q).1),
  )

  -- so between narrower ones, on either side
  module _ {x : ℕ} (f : Inside a b x) where
    pub carried_low : Carried s k ys a b w needs → Carried s k ys x b w needs
    carried_low = carried_between (λ i p q. (p, ne_eqb (digit a i) 1 (λ e. omega (arith, f.low i, member_digit b i true p, member_digit x i false q))))

    pub carried_high : Carried s k ys a b w needs → Carried s k ys a x w needs
    carried_high = carried_between (λ i p q. (eq-eqb (digit b i) 1 (omega (arith, f.high i, member_digit x i true p, member_digit a i false q)), q))
