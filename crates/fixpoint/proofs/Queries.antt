-- The queries of a restricted value are the leaves of one tree times the leaves of the other, for every two trees of the right heights,
-- universal or not (document 001, Lemma 3.2).
-- Assumes nothing.
use mathlib.Core.Bool.{Bool, true, false}
use mathlib.Core.List.{List}
use mathlib.Core.Path.{◌≡◌, refl, sym, ◌∙◌, ap, ap₂}
use Prim.Native.Nat.{ℕ, zero, suc, ◌+◌, ◌*◌}
use native.Mathlib.Nat.{mul_comm, mul-add, mul-zero}
use Rattle.trees.specs.Tree.{children, leaves, IsTree}
use Rattle.trees.proofs.Children.{Trees, none, more, total, children_total, children_trees, height_zero}
use Rattle.fixpoint.specs.Levels.{least_among, greatest_among}
use Rattle.fixpoint.specs.Restricted.{restricted_queries, level_queries, sum_over}
use Rattle.fixpoint.proofs.Levels.{least_at_least, least_at_greatest, greatest_at_least, greatest_at_greatest}

-- counts that are m times the leaves add up to m times the leaves together
sum_leaves : {h : ℕ} (m : ℕ) (count : List ℕ → ℕ) → ((t : List ℕ) → IsTree h t → count t ≡ m * leaves t)
    → {ts : List (List ℕ)} → Trees h ts → sum_over count ts ≡ m * total ts
unfolding sum_over total
sum_leaves m count e none = sym (mul-zero m)
sum_leaves m count e (more {t} {ts} i is) = ap₂ ◌+◌ (e t i) (sum_leaves m count e is) ∙ sym (mul-add m (leaves t) (total ts))

-- over the children of one tree
over_children : {h h' : ℕ} (m : ℕ) (count : List ℕ → ℕ) → ((t : List ℕ) → IsTree h t → count t ≡ m * leaves t)
    → (w : List ℕ) → h' ≡ suc h → IsTree h' w → sum_over count (children h' w) ≡ m * leaves w
over_children {h} {h'} m count e w s i =
    rw s (sum_leaves m count e (children_trees h w (rw s at i)) ∙ ap (λ (n : ℕ). m * n) (children_total (suc h) w))

module _ (sign : ℕ → Bool) where
  abbrev Product : ℕ → Type 0
  Product k = (u v : List ℕ) → IsTree (least_among sign k) u → IsTree (greatest_among sign k) v → restricted_queries sign k u v ≡ leaves u * leaves v

  product_by : (k : ℕ) → Product k → (s : Bool) → sign k ≡ s → Product (suc k)
  unfolding restricted_queries level_queries
  product_by k ih true e u v iu iv =
      rw e (over_children (leaves u) (λ w. restricted_queries sign k u w) (λ w iw. ih u w (rw (least_at_greatest sign k e) at iu) iw) v (greatest_at_greatest sign k e) iv)
  product_by k ih false e u v iu iv =
      rw e (over_children (leaves v) (λ w. restricted_queries sign k w v) (λ w iw. ih w v iw (rw (greatest_at_least sign k e) at iv) ∙ mul_comm (leaves w) (leaves v)) u (least_at_least sign k e) iu
      ∙ mul_comm (leaves v) (leaves u))

  pub queries_product : (k : ℕ) (u v : List ℕ) → IsTree (least_among sign k) u → IsTree (greatest_among sign k) v → restricted_queries sign k u v ≡ leaves u * leaves v
  unfolding restricted_queries least_among greatest_among
  queries_product zero u v iu iv = rw (height_zero iu, height_zero iv)
  queries_product (suc k) u v iu iv = product_by k (queries_product k) (sign k) refl u v iu iv
