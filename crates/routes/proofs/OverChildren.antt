-- A level goes over the children of its tree one after the other: what it gives over one child more is that child's value, with the queries of both.
-- Said of `rise`; a `fall` is a `rise` upside down (fixpoint's fall_is_rise).
-- Assumes nothing.
use mathlib.Core.List.{List, [], ◌∷◌, ◌++◌}
use mathlib.Core.Path.{◌≡◌, refl, sym, ◌∙◌, ap}
use Prim.Native.Nat.{ℕ, ◌+◌}
use native.Mathlib.Omega.{arith}
use Rattle.fixpoint.specs.Restricted.{rise, sum_over}
use Rattle.routes.specs.declared.shared.Found.{Found}
use Rattle.routes.specs.Parts.{Gives}

rise_append : {C : Type 0} (p : C → C → C → List ℕ → List ℕ → C) (b : C) (v : List ℕ) (a : C) (us ws : List (List ℕ)) → rise p b v a (us ++ ws) ≡ rise p b v (rise p b v a us) ws
unfolding rise
rise_append p b v a [] ws = refl
rise_append p b v a (u ∷ us) ws = rise_append p b v (p a a b u v) us ws

pub sum_append : (count : List ℕ → ℕ) (us ws : List (List ℕ)) → sum_over count (us ++ ws) ≡ sum_over count us + sum_over count ws
unfolding sum_over
sum_append count [] ws = omega arith
sum_append count (u ∷ us) ws = omega (arith, sum_append count us ws)

-- what two parts of a level give together: the second's set, and the queries of both
abbrev pub then : Found → Found → Found
then r t = record { set = t.set; count = r.count + t.count }

module _ (p : ℕ → ℕ → ℕ → List ℕ → List ℕ → ℕ) (b : ℕ) (v : List ℕ) (count : List ℕ → ℕ) where
  -- r is what the level gives over the children ws, from the value a
  abbrev Rises : Found → ℕ → List (List ℕ) → Type 0
  Rises r a ws = Gives r (rise p b v a ws) (sum_over count ws)

  pub rises_none : (a : ℕ) → Rises (record { set = a; count = 0 }) a []
  unfolding rise sum_over
  rises_none a = record { value = refl; queries = refl }

  -- over one child more
  pub rises_child : (r c : Found) (a : ℕ) (passed : List (List ℕ)) (w : List ℕ) → Rises r a passed → Gives c (p r.set r.set b w v) (count w) → Rises (then r c) a (passed ++ w ∷ [])
  unfolding rise sum_over
  rises_child r c a passed w f g =
      record {
        value = g.value ∙ ap (λ (x : ℕ). p x x b w v) f.value ∙ sym (rise_append p b v a passed (w ∷ []));
        queries = omega (arith, f.queries, g.queries, sum_append count passed (w ∷ []));
      }
