-- The values upside down are lawful too, so that what is shown of least levels and their tree holds of greatest levels and theirs.
-- Assumes nothing.
use mathlib.Core.Bool.{Bool, true, false, cond, not}
use mathlib.Core.List.{List}
use mathlib.Core.Path.{◌≡◌, refl, sym}
use Prim.Native.Nat.{ℕ, zero, suc, ◌-◌, ◌≤◌, ◌<◌}
use native.Mathlib.Omega.{arith}
use Rattle.fixpoint.specs.Values.{Values}
use Rattle.fixpoint.specs.Lawful.{Lawful, Monotone, Bounded, Below, nil⊑, cons⊑, Range, Between}
use Rattle.fixpoint.specs.Levels.{least_among, greatest_among}
use Rattle.fixpoint.proofs.Order.{rank_mono}

abbrev pub dual : Values → Values
dual 𝓥 = record {
  C = 𝓥.C;
  ◌⊑◌ = λ a b. 𝓥.◌⊑◌ b a;
  bot = 𝓥.top;
  top = 𝓥.bot;
  meet = 𝓥.join;
  join = 𝓥.meet;
  step = λ a b x. 𝓥.step b a x;
  lfp = 𝓥.gfp;
  gfp = 𝓥.lfp;
  rank = λ x. 𝓥.rank 𝓥.top - 𝓥.rank x;
}

module _ (𝓥 : Values) where
  open 𝓥 use {C}

  pub dual_monotone : {g : C → C} → Monotone 𝓥 g → Monotone (dual 𝓥) g
  dual_monotone m x y h = m y x h

  pub dual_bounded : {g : C → C} → Bounded 𝓥 g → Bounded (dual 𝓥) g
  dual_bounded b x = ((b x).1, (b x).0)

  pub dual_range : {a b : C} → Range 𝓥 a b → Range (dual 𝓥) b a
  dual_range r = record { low = r.high; mid = r.mid; high = r.low }

  pub range_dual : {a b : C} → Range (dual 𝓥) b a → Range 𝓥 a b
  range_dual r = record { low = r.high; mid = r.mid; high = r.low }

  pub dual_between : {a x b : C} → Between 𝓥 a x b → Between (dual 𝓥) b x a
  dual_between w = record { above = w.below; below = w.above }

  pub between_dual : {a x b : C} → Between (dual 𝓥) b x a → Between 𝓥 a x b
  between_dual w = record { above = w.below; below = w.above }

  pub below_dual : {xs ys : List C} → Below (dual 𝓥) xs ys → Below 𝓥 ys xs
  below_dual nil⊑ = nil⊑
  below_dual (cons⊑ h p) = cons⊑ h (below_dual p)

-- the laws, upside down
module _ (𝓥 : Values) where
  open 𝓥 use {top, rank}

  pub dual_lawful : Lawful 𝓥 → Lawful (dual 𝓥)
  dual_lawful 𝓛 = record {
    refl⊑ = 𝓛.refl⊑;
    trans⊑ = λ p q. 𝓛.trans⊑ q p;
    antisym⊑ = λ p q. 𝓛.antisym⊑ q p;
    decide = 𝓛.decide;
    meet_left = 𝓛.join_left;
    meet_right = 𝓛.join_right;
    meet_glb = λ p q. 𝓛.join_lub p q;
    join_left = 𝓛.meet_left;
    join_right = 𝓛.meet_right;
    join_lub = λ p q. 𝓛.meet_glb p q;
    step_low = λ x p. 𝓛.step_high x p;
    step_high = λ x p. 𝓛.step_low x p;
    step_mono = λ p q s. 𝓛.step_mono q p s;
    step_inner = λ x p q s t. 𝓛.step_inner x t s q p;
    lfp_fixed = λ g m b. 𝓛.gfp_fixed g (dual_monotone (dual 𝓥) m) (dual_bounded (dual 𝓥) b);
    lfp_least = λ g m b. 𝓛.gfp_greatest g (dual_monotone (dual 𝓥) m) (dual_bounded (dual 𝓥) b);
    gfp_fixed = λ g m b. 𝓛.lfp_fixed g (dual_monotone (dual 𝓥) m) (dual_bounded (dual 𝓥) b);
    gfp_greatest = λ g m b. 𝓛.lfp_least g (dual_monotone (dual 𝓥) m) (dual_bounded (dual 𝓥) b);
    rank_strict = λ {a} {b} l m h ne.
        let p : rank b < rank a = 𝓛.rank_strict h m l (λ e. ne (sym e)) in
        let q : rank a ≤ rank top = rank_mono 𝓥 𝓛 (𝓛.trans⊑ h m) l (𝓛.refl⊑ top) in
        omega arith;
  }

-- the signs turned over
abbrev pub flip : (ℕ → Bool) → ℕ → Bool
flip sign k = not (sign k)

turned : (s : Bool) (m n : ℕ) → cond (not s) m n ≡ cond s n m
turned true m n = refl
turned false m n = refl

pub least_flip : (sign : ℕ → Bool) (k : ℕ) → least_among (flip sign) k ≡ greatest_among sign k
unfolding least_among greatest_among
least_flip sign zero = refl
least_flip sign (suc k) = rw (least_flip sign k) (turned (sign k) _ _)

pub greatest_flip : (sign : ℕ → Bool) (k : ℕ) → greatest_among (flip sign) k ≡ least_among sign k
unfolding least_among greatest_among
greatest_flip sign zero = refl
greatest_flip sign (suc k) = rw (greatest_flip sign k) (turned (sign k) _ _)
