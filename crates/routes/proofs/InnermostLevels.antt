-- The innermost level goes over leaves: each takes one query, at this level's value so far.
-- Assumes nothing.
use mathlib.Core.Bool.{Bool, cond}
use mathlib.Core.List.{List, [], ◌∷◌, ◌++◌}
use mathlib.Core.Path.{◌≡◌, sym}
use Prim.Native.Nat.{ℕ, ◌+◌}
use lib.ListN.{replicate, replicate-append-replicate}
use Rattle.sets.specs.Set.{bounded_step}
use Rattle.system.specs.System.{System}
use Rattle.system.specs.Query.{query}
use Rattle.evaluator.specs.Sides.{moved}
use Rattle.evaluator.specs.declared.Bounds.{Bounds}
use Rattle.routes.specs.declared.shared.Found.{Found}
use Rattle.routes.proofs.ChildrenPassed.{child_passed}
use Rattle.routes.proofs.Levels.{OverGives, no_level}

-- the set so far, with as many queries as leaves
abbrev pub after_leaves : ℕ → ℕ → Found
after_leaves x i = record { set = x; count = i }

-- one leaf more, at this level's value x; its step gives y
module _ (s : System) (ys : List ℕ) (bounds : Bounds) (u v : List ℕ) (greatest : Bool) (x y i : ℕ) where
  one_more : replicate {A = List ℕ} (i + 1) [] ≡ replicate i [] ++ [] ∷ []
  one_more = sym (replicate-append-replicate {A = List ℕ} i 1 [])

  pub one_leaf : OverGives s 0 ys bounds u v greatest (replicate i []) (after_leaves x i)
      → (let between = moved greatest bounds x in y ≡ bounded_step between.low between.high (query s (x ∷ ys)))
      → OverGives s 0 ys bounds u v greatest (replicate (i + 1) []) (after_leaves y (i + 1))
  one_leaf so_far e =
      rw one_more (child_passed s 0 ys bounds u v greatest (after_leaves x i) (after_leaves y 1) (replicate i []) [] so_far
      (no_level s (x ∷ ys) (moved greatest bounds x) (cond greatest u []) (cond greatest [] v) y e))
