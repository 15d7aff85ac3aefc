-- What a level is, by its sign: the restricted set of one level more is the level over the children of its tree.
-- Assumes nothing.
use mathlib.Core.Bool.{Bool, true, false, cond}
use mathlib.Core.List.{List, [], ◌∷◌}
use mathlib.Core.Path.{◌≡◌, refl}
use Prim.Native.Nat.{ℕ, suc, ◌+◌, ◌-◌, ◌*◌, ◌<◌}
use native.Mathlib.Omega.{arith}
use Rattle.sets.specs.Set.{bounded_step}
use Rattle.trees.specs.Tree.{children, leaves}
use Rattle.fixpoint.specs.Restricted.{restricted, level, restricted_queries, level_queries as queries_by_sign}
use Rattle.fixpoint.proofs.Levels.{least_at_least, least_at_greatest, greatest_at_least, greatest_at_greatest}
use Rattle.system.specs.System.{System, sign}
use Rattle.system.specs.Query.{query}
use Rattle.evaluator.specs.declared.Bounds.{Bounds}
use Rattle.routes.specs.declared.shared.Found.{Found}
use Rattle.routes.specs.Parts.{Gives, least_of, greatest_of, restricted_from, queries_from, rise_from, rise_queries, fall_from, fall_queries, level_from, level_queries}
use Rattle.routes.proofs.Inside.{Inside, restricted_inside, rise_inside, fall_inside}

-- what the levels k, .., 1 give over two trees, and what level k + 1 gives over the children ts of its tree; ys are the arguments of the levels above
module _ (s : System) (k : ℕ) (ys : List ℕ) (bounds : Bounds) (u v : List ℕ) where
  abbrev pub LevelGives : Found → Type 0
  LevelGives r = Gives r (restricted_from s k ys bounds.low bounds.high u v) (queries_from s k u v)

  abbrev pub OverGives : Bool → List (List ℕ) → Found → Type 0
  OverGives greatest ts r = Gives r (level_from greatest s k ys bounds ts u v) (level_queries greatest s k ts u v)

  -- what a level gives lies between the bounds' intersection and their union
  pub over_inside : (greatest : Bool) (ts : List (List ℕ)) (r : Found) → OverGives greatest ts r → Inside bounds.low bounds.high r.set
  over_inside true ts r g = rw g.value (fall_inside _ (λ c. restricted_inside s.lines (sign s) (query s) k (c ∷ ys)) bounds.low u bounds.high ts)
  over_inside false ts r g = rw g.value (rise_inside _ (λ c. restricted_inside s.lines (sign s) (query s) k (c ∷ ys)) bounds.high v bounds.low ts)

-- what a least level gives over the children us of its tree, and a greatest level over the children vs of its own, between two bounds
module _ (s : System) (k : ℕ) (ys : List ℕ) (a b : ℕ) where
  abbrev pub LeastGives : List (List ℕ) → List ℕ → Found → Type 0
  LeastGives us v r = Gives r (rise_from s k ys a b us v) (rise_queries s k us v)

  abbrev pub GreatestGives : List ℕ → List (List ℕ) → Found → Type 0
  GreatestGives u vs r = Gives r (fall_from s k ys a b u vs) (fall_queries s k u vs)

  -- it lies between the bounds' intersection and their union
  pub least_inside : (us : List (List ℕ)) (v : List ℕ) (r : Found) → LeastGives us v r → Inside a b r.set
  least_inside us v r g = over_inside s k ys (record { low = a; high = b }) [] v false us r g

  pub greatest_inside : (u : List ℕ) (vs : List (List ℕ)) (r : Found) → GreatestGives u vs r → Inside a b r.set
  greatest_inside u vs r g = over_inside s k ys (record { low = a; high = b }) u [] true vs r g

-- The levels left and the leaves of the two trees together: twice the levels, since a level stands between two calls.
abbrev pub falling_number : ℕ → List ℕ → List ℕ → ℕ
falling_number k u v = 2 * k + (leaves u + leaves v)

-- with no level left, the query is made
pub no_level : (s : System) (xs : List ℕ) (bounds : Bounds) (u v : List ℕ) (y : ℕ) → y ≡ bounded_step bounds.low bounds.high (query s xs)
    → LevelGives s 0 xs bounds u v (record { set = y; count = 1 })
unfolding restricted restricted_queries
no_level s xs bounds u v y e = record { value = e; queries = refl }

pub one_less : (k : ℕ) → 0 < k → k ≡ suc (k - 1)
one_less k h = omega arith

-- of two trees, that of a level, and its height
abbrev pub own : Bool → List ℕ → List ℕ → List ℕ
own greatest u v = cond greatest v u

abbrev pub own_of : Bool → System → ℕ → ℕ
own_of greatest s k = cond greatest (greatest_of s k) (least_of s k)

-- level k is the next above the levels j, .., 1
module _ (s : System) {k j : ℕ} (next : k ≡ suc j) where
  -- its tree is one higher than its children, and the other tree as high as for the levels below
  pub heights : (greatest : Bool) → sign s j ≡ greatest
      → (least_of s k ≡ cond greatest (least_of s j) (suc (least_of s j))) × (greatest_of s k ≡ cond greatest (suc (greatest_of s j)) (greatest_of s j))
  heights true e = rw next (least_at_greatest (sign s) j e, greatest_at_greatest (sign s) j e)
  heights false e = rw next (least_at_least (sign s) j e, greatest_at_least (sign s) j e)

  -- the queries of one level more are those of the level
  pub queries_over : (greatest : Bool) → sign s j ≡ greatest → (u v : List ℕ)
      → queries_from s k u v ≡ level_queries greatest s j (children (own_of greatest s k) (own greatest u v)) u v
  unfolding restricted_queries queries_by_sign
  queries_over true e u v = rw (next, e)
  queries_over false e u v = rw (next, e)

  pub level_over : (greatest : Bool) → sign s j ≡ greatest → (ys : List ℕ) (bounds : Bounds) (u v : List ℕ) (r : Found)
      → OverGives s j ys bounds u v greatest (children (own_of greatest s k) (own greatest u v)) r → LevelGives s k ys bounds u v r
  unfolding restricted level restricted_queries queries_by_sign
  level_over true e ys bounds u v r g = rw (next, e) (rw next at g)
  level_over false e ys bounds u v r g = rw (next, e) (rw next at g)
