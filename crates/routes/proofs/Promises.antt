-- What the routes come to, for every system: the plain run and the restricted set over universal trees are the nested fixpoint,
-- the restricted set's queries are the product of the leaves, and the built-in trees are universal.
-- Assumes nothing.
use mathlib.Core.List.{List, []}
use mathlib.Core.Path.{◌≡◌, sym, ◌∙◌, ap₂}
use Prim.Native.Nat.{ℕ, zero, suc, ◌*◌, ◌≤◌, ◌<◌}
use native.Mathlib.Omega.{arith}
use lib.Pow.{ones_lt}
use Rattle.sets.specs.Set.{full}
use Rattle.sets.proofs.Order.{empty_least}
use Rattle.trees.specs.Tree.{IsTree, leaves}
use Rattle.trees.specs.Fit.{Universal}
use Rattle.trees.specs.Built.{built, leaf_count}
use Rattle.trees.proofs.Built.{built_tree}
use Rattle.trees.proofs.Universal.{built_universal}
use Rattle.fixpoint.specs.Lawful.{Range, Between}
use Rattle.fixpoint.specs.Sets.{sets}
use Rattle.fixpoint.proofs.Queries.{queries_product}
use Rattle.fixpoint.proofs.Sets.{sets_range, universal_nested, plain_nested, plain_enough, restricted_between, plain_between}
use Rattle.system.specs.System.{System, sign}
use Rattle.system.specs.Query.{query}
use Rattle.system.proofs.Monotone.{query_monotone}
use Rattle.routes.specs.Routes.{least_levels, greatest_levels, built_least, built_greatest, nested_set, plain_run, restricted_set, restricted_count}
use Rattle.routes.specs.Parts.{plain_from}

-- no line and all lines are bounds
pub whole_range : (n : ℕ) → Range (sets n) 0 (full n)
whole_range n = sets_range n 0 (full n) (empty_least (full n)) (ones_lt n)

-- The queries over two trees of the right heights, and over the built-in trees for any numbers of lines.
pub lent_product : (s : System) (u v : List ℕ) → IsTree (least_levels s) u → IsTree (greatest_levels s) v → restricted_count s u v ≡ leaves u * leaves v
lent_product s = queries_product (sign s) s.levels

built_leaves : (n h : ℕ) → leaves (built (suc n) h) ≡ leaf_count (suc n) h
unfolding leaf_count
built_leaves n h = λ i. leaves (built (suc n) h)

pub built_product : (s : System) (p q : ℕ) → 1 ≤ p → 1 ≤ q
    → restricted_count s (built_least s p) (built_greatest s q) ≡ leaf_count p (least_levels s) * leaf_count q (greatest_levels s)
built_product s zero q hp hq = absurd (omega arith)
built_product s (suc p) zero hp hq = absurd (omega arith)
built_product s (suc p) (suc q) hp hq =
    lent_product s (built_least s (suc p)) (built_greatest s (suc q)) (built_tree p (least_levels s)) (built_tree q (greatest_levels s))
    ∙ ap₂ ◌*◌ (built_leaves p (least_levels s)) (built_leaves q (greatest_levels s))

module _ (s : System) (a b : ℕ) (r : Range (sets s.lines) a b) where
  pub lent_nested : (u v : List ℕ) → Universal s.lines (least_levels s) u → Universal s.lines (greatest_levels s) v → restricted_set s a b u v ≡ nested_set s a b
  lent_nested = universal_nested s.lines (sign s) (query s) (query_monotone s) a b r s.levels []

  pub built_nested : 1 ≤ s.lines → restricted_set s a b (built_least s s.lines) (built_greatest s s.lines) ≡ nested_set s a b
  built_nested h = lent_nested (built_least s s.lines) (built_greatest s s.lines) (universal s.lines (least_levels s) h) (universal s.lines (greatest_levels s) h)
    where
      universal : (n h : ℕ) → 1 ≤ n → Universal n h (built n h)
      universal zero h l = absurd (omega arith)
      universal (suc n) h l = built_universal n h

  pub plain_is_nested : (plain_run s a b).value ≡ nested_set s a b
  plain_is_nested = plain_nested s.lines (sign s) (query s) (query_monotone s) a b r (suc s.lines) (omega arith) s.levels []

  -- more rounds a level than lines change nothing
  pub plain_rounds : (rounds : ℕ) → s.lines < rounds → plain_from rounds s a b s.levels [] ≡ plain_run s a b
  plain_rounds rounds h = plain_enough s.lines (sign s) (query s) (query_monotone s) a b r rounds (suc s.lines) h (omega arith) s.levels []

  -- the two routes come to the same set
  pub routes_agree : 1 ≤ s.lines → (plain_run s a b).value ≡ restricted_set s a b (built_least s s.lines) (built_greatest s s.lines)
  routes_agree h = plain_is_nested ∙ sym (built_nested h)

  -- and both lie between the bounds
  pub plain_inside : Between (sets s.lines) a (plain_run s a b).value b
  plain_inside = plain_between s.lines (sign s) (query s) (query_monotone s) a b r (suc s.lines) (omega arith) s.levels []

  pub restricted_inside : (u v : List ℕ) → Between (sets s.lines) a (restricted_set s a b u v) b
  restricted_inside u v = restricted_between s.lines (sign s) (query s) (query_monotone s) a b r s.levels [] u v
