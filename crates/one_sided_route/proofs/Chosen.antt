-- A stage over a list of equations of which some are due, place by place, and how many they are.
-- Assumes nothing.
use mathlib.Core.Bool.{Bool, true, false, cond}
use mathlib.Core.List.{List, [], ◌∷◌, map}
use mathlib.Core.Path.{◌≡◌, refl, ap}
use Prim.Native.Nat.{ℕ, zero, suc, ◌+◌, ◌≤◌, ◌<◌}
use native.Mathlib.Omega.{arith}
use lib.ListN.{length, get_or, take}
use Rattle.one_sided.specs.Equations.{Equation}
use Rattle.one_sided_stages.specs.Stages.{flag_count}

module _ (due : Equation → Bool) where
  -- a stage that evaluates what is due: the equations, with the values that they had
  unfoldable pub chosen : (Equation → ℕ) → List Equation → List ℕ → List ℕ
  chosen value [] cs = []
  chosen value (e ∷ es) [] = []
  chosen value (e ∷ es) (c ∷ cs) = cond (due e) (value e) c ∷ chosen value es cs

  -- how many are due
  unfoldable pub chosen_count : List Equation → ℕ
  chosen_count [] = 0
  chosen_count (e ∷ es) = cond (due e) (suc (chosen_count es)) (chosen_count es)

module _ (due : Equation → Bool) (value : Equation → ℕ) where
  pub chosen_length : (es : List Equation) (cs : List ℕ) → length es ≤ length cs → length (chosen due value es cs) ≡ length es
  unfolding chosen
  chosen_length [] cs h = refl
  chosen_length (e ∷ es) [] h = absurd (omega arith)
  chosen_length (e ∷ es) (c ∷ cs) h = ap suc (chosen_length es cs (omega arith))

  pub chosen_at : (none : Equation) (es : List Equation) (cs : List ℕ) (i : ℕ) → i < length es → length es ≤ length cs
      → get_or (chosen due value es cs) i 0 ≡ cond (due (get_or es i none)) (value (get_or es i none)) (get_or cs i 0)
  unfolding chosen
  chosen_at none [] cs i p h = absurd (omega arith)
  chosen_at none (e ∷ es) [] i p h = absurd (omega arith)
  chosen_at none (e ∷ es) (c ∷ cs) zero p h = refl
  chosen_at none (e ∷ es) (c ∷ cs) (suc i) p h = chosen_at none es cs i (omega arith) (omega arith)

-- where every equation is due
module _ (value : Equation → ℕ) where
  pub chosen_all : (es : List Equation) (cs : List ℕ) → length es ≤ length cs → chosen (λ e. true) value es cs ≡ map value es
  unfolding chosen
  chosen_all [] cs h = refl
  chosen_all (e ∷ es) [] h = absurd (omega arith)
  chosen_all (e ∷ es) (c ∷ cs) h = ap (λ (xs : List ℕ). value e ∷ xs) (chosen_all es cs (omega arith))

pub count_all : (es : List Equation) → chosen_count (λ e. true) es ≡ length es
unfolding chosen_count
count_all [] = refl
count_all (e ∷ es) = ap suc (count_all es)

module _ (due : Equation → Bool) where
  pub count_within : (es : List Equation) → chosen_count due es ≤ length es
  unfolding chosen_count
  count_within [] = omega arith
  count_within (e ∷ es) = go (due e) (count_within es)
    where
      go : (b : Bool) → chosen_count due es ≤ length es → cond b (suc (chosen_count due es)) (chosen_count due es) ≤ suc (length es)
      go true ih = omega arith
      go false ih = omega arith

  -- one equation more
  count_more : (none : Equation) (es : List Equation) (i : ℕ) → i < length es
      → chosen_count due (take (suc i) es) ≡ cond (due (get_or es i none)) (chosen_count due (take i es) + 1) (chosen_count due (take i es))
  unfolding chosen_count
  count_more none [] i h = absurd (omega arith)
  count_more none (e ∷ es) zero h = refl
  count_more none (e ∷ es) (suc i) h = go (due e) (due (get_or es i none)) (count_more none es i (omega arith))
    where
      go : (b b' : Bool) → chosen_count due (take (suc i) es) ≡ cond b' (chosen_count due (take i es) + 1) (chosen_count due (take i es))
          → cond b (suc (chosen_count due (take (suc i) es))) (chosen_count due (take (suc i) es))
          ≡ cond b' (cond b (suc (chosen_count due (take i es))) (chosen_count due (take i es)) + 1) (cond b (suc (chosen_count due (take i es))) (chosen_count due (take i es)))
      go true true ih = omega (arith, ih)
      go true false ih = omega (arith, ih)
      go false true ih = ih
      go false false ih = ih

  -- the flags of the equations that are due count them
  pub flags_count : (none : Equation) (es : List Equation) (flags : List Bool) (w : ℕ) → w ≤ length es → ((i : ℕ) → i < w → get_or flags i false ≡ due (get_or es i none))
      → flag_count flags w ≡ chosen_count due (take w es)
  unfolding flag_count chosen_count
  flags_count none es flags zero h p = refl
  flags_count none es flags (suc w) h p =
      rw (p w (omega arith), flags_count none es flags w (omega arith) (λ i q. p i (omega arith)), count_more none es w (omega arith)) (go (due (get_or es w none)))
    where
      go : (b : Bool) → cond b (suc (chosen_count due (take w es))) (chosen_count due (take w es)) ≡ cond b (chosen_count due (take w es) + 1) (chosen_count due (take w es))
      go true = omega arith
      go false = refl
