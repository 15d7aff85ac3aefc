-- The built-in trees S(n, h) are trees of their height, with the children that they are built of. Their children and their leaf counts
-- follow document 01's own recurrences: the bound in the definition shows nowhere.
-- Assumes nothing.
use mathlib.Core.List.{List, [], ◌∷◌, ◌++◌}
use mathlib.Core.Path.{◌≡◌, refl, sym, ◌∙◌, ap}
use Prim.Native.Nat.{ℕ, zero, suc, ◌+◌, ◌-◌, ◌/◌, ◌≤◌, ◌<◌}
use native.Mathlib.Nat.{le_refl}
use native.Mathlib.Omega.{arith}
use lib.ListN.{length, get_or, length-append, get_or-append, replicate, replicate-append-replicate}
use lib.Seq.{get_or_at, get_or-append-add}
use Rattle.trees.specs.Tree.{children, grow, leaves, IsTree, leaf}
use Rattle.trees.specs.Built.{halved_children, built, built_children, leaf_count}
use Rattle.trees.proofs.Halves.{by_halves}
use Rattle.trees.proofs.Children.{Trees, none, more, trees_append, total, total_append, one_of_total, Some, append_some, of_some, children_grow, grow_leaves, grow_tree}

module _ (below : ℕ → List ℕ) where
  no_children : (m : ℕ) → halved_children m below zero ≡ []
  unfolding halved_children
  no_children zero = refl
  no_children (suc m) = refl

  -- two bounds of n or more give the same children
  same : (m k n : ℕ) → n ≤ m → n ≤ k → halved_children m below n ≡ halved_children k below n
  unfolding halved_children
  same zero k zero p q = sym (no_children k)
  same zero k (suc n) p q = absurd (omega arith)
  same (suc m) k zero p q = sym (no_children k)
  same (suc m) zero (suc n) p q = absurd (omega arith)
  same (suc m) (suc k) (suc n) p q =
      cc (same m k (suc n / 2) (omega arith) (omega arith), same m k (n / 2) (omega arith) (omega arith))

  -- n itself is bound enough
  pub enough : (m n : ℕ) → n ≤ m → halved_children m below n ≡ halved_children n below n
  enough m n p = same m n n p (le_refl n)

  -- the children are trees where `below` gives trees
  halved_trees : (h : ℕ) → ((n : ℕ) → IsTree h (below (suc n))) → (m n : ℕ) → Trees h (halved_children m below n)
  unfolding halved_children
  halved_trees h is zero n = none
  halved_trees h is (suc m) zero = none
  halved_trees h is (suc m) (suc n) =
      trees_append (halved_trees h is m _) (more (is n) (halved_trees h is m _))

-- S(0, h) has no children
pub built_children_zero : (h : ℕ) → built_children 0 h ≡ []
unfolding halved_children
built_children_zero h = refl

-- the children of S(n, h) are those of S(n/2, h), then S(n, h - 1), then those of S((n - 1)/2, h)
pub built_children_step : (n h : ℕ) → built_children (suc n) h ≡ built_children (suc n / 2) h ++ built (suc n) h ∷ built_children (n / 2) h
unfolding halved_children
built_children_step n h =
    cc (enough (λ m. built m h) n (suc n / 2) (omega arith), enough (λ m. built m h) n (n / 2) (omega arith))

built_children_halves : (n h : ℕ) → 0 < n → built_children n h ≡ built_children (n / 2) h ++ built n h ∷ built_children ((n - 1) / 2) h
built_children_halves zero h l = absurd (omega arith)
built_children_halves (suc n) h l =
    let e : suc n - 1 ≡ n = omega arith in
    rw e (built_children_step n h)

-- S(n, h) has n children
pub built_children_length : (n h : ℕ) → length (built_children n h) ≡ n
built_children_length n h =
    by_halves (λ (m : ℕ). length (built_children m h) ≡ m) (rw (built_children_zero h))
    (λ m first last. rw (built_children_step m h, length-append) (omega (arith, first, last))) n

-- the child at a place: among those of the first half, between the halves, or among those of the second
module _ (n h i : ℕ) (some : 0 < n) where
  pub child_first : i < n / 2 → get_or (built_children n h) i [] ≡ get_or (built_children (n / 2) h) i []
  child_first l = rw (built_children_halves n h some) (get_or-append (built_children (n / 2) h) _ [] i (rw built_children_length l))

  pub child_middle : i ≡ n / 2 → get_or (built_children n h) i [] ≡ built n h
  child_middle e = rw (built_children_halves n h some) (get_or_at (built_children (n / 2) h) _ _ [] i (built_children_length (n / 2) h ∙ sym e))

  pub child_last : n / 2 < i → get_or (built_children n h) i [] ≡ get_or (built_children ((n - 1) / 2) h) (i - n / 2 - 1) []
  child_last l =
      let place : i ≡ length (built_children (n / 2) h) + suc (i - n / 2 - 1) = omega (arith, built_children_length (n / 2) h) in
      rw (built_children_halves n h some)
      (ap (λ (j : ℕ). get_or (built_children (n / 2) h ++ built n h ∷ built_children ((n - 1) / 2) h) j []) place
      ∙ get_or-append-add (built_children (n / 2) h) (built n h ∷ built_children ((n - 1) / 2) h) (suc (i - n / 2 - 1)) [])

-- the children of S(n, 1) are n leaves
pub built_children_leaves : (n : ℕ) → built_children n 0 ≡ replicate n []
unfolding built
built_children_leaves =
    by_halves (λ (n : ℕ). built_children n 0 ≡ replicate n []) (built_children_zero 0)
    (λ n first last.
    let all : suc n / 2 + suc (n / 2) ≡ suc n = omega arith in
    built_children_step n 0
    ∙ rw (first, last) (replicate-append-replicate {A = List ℕ} (suc n / 2) (suc (n / 2)) [] ∙ ap (λ (m : ℕ). replicate m []) all))

pub built_children_some : (n h : ℕ) → Some (built_children (suc n) h)
built_children_some n h = rw (built_children_step n h) (append_some (built_children (suc n / 2) h) (built (suc n) h) (built_children (n / 2) h))

pub built_tree : (n h : ℕ) → IsTree h (built (suc n) h)
unfolding built
built_tree n zero = leaf
built_tree n (suc h) =
    of_some (λ ts. Trees h ts → IsTree (suc h) (grow (suc h) ts)) (grow_tree h) (built_children_some n h)
    (halved_trees (λ m. built m h) h (λ k. built_tree k h) (suc n) (suc n))

pub built_children_trees : (n h : ℕ) → Trees h (built_children n h)
built_children_trees n h = halved_trees (λ m. built m h) h (λ k. built_tree k h) n n

pub children_built : (n h : ℕ) → children (suc h) (built (suc n) (suc h)) ≡ built_children (suc n) h
unfolding built
children_built n h =
    of_some (λ ts. Trees h ts → children (suc h) (grow (suc h) ts) ≡ ts) (children_grow h) (built_children_some n h) (built_children_trees (suc n) h)

pub total_built_children : (n h : ℕ) → total (built_children n h) ≡ leaf_count n (suc h)
unfolding built leaf_count total halved_children
total_built_children zero h = refl
total_built_children (suc n) h = sym (of_some (λ ts. leaves (grow (suc h) ts) ≡ total ts) (grow_leaves (suc h)) (built_children_some n h))

-- a child has no more leaves than its tree
pub child_leaves : (n h i : ℕ) → i < n → leaves (get_or (built_children n h) i []) ≤ leaves (built n (suc h))
unfolding leaf_count
child_leaves zero h i l = absurd (omega arith)
child_leaves (suc n) h i l =
    omega (arith, total_built_children (suc n) h, one_of_total (built_children (suc n) h) i (rw built_children_length l))

-- the leaf counts, by the same halves

pub leaf_none : (h : ℕ) → leaf_count 0 h ≡ 0
unfolding leaf_count
leaf_none h = refl

pub leaf_zero : (n : ℕ) → leaf_count (suc n) 0 ≡ 1
unfolding leaf_count built
leaf_zero n = refl

pub leaf_step : (n h : ℕ) → leaf_count (suc n) (suc h) ≡ leaf_count (suc n / 2) (suc h) + leaf_count (suc n) h + leaf_count (n / 2) (suc h)
unfolding total leaf_count
leaf_step n h =
    omega (
      arith,
      total_built_children (suc n) h,
      ap total (built_children_step n h),
      total_append (built_children (suc n / 2) h) (built (suc n) h ∷ built_children (n / 2) h),
      total_built_children (suc n / 2) h,
      total_built_children (n / 2) h,
    )

pub leaf_one : (n : ℕ) → leaf_count n 1 ≡ n
leaf_one =
    by_halves (λ (n : ℕ). leaf_count n 1 ≡ n) (leaf_none 1) (λ n first last. omega (arith, leaf_step n 0, leaf_zero n, first, last))
