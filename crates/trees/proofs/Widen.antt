-- A tree with fewer leaves is widened by single branches below the root; it fits wherever the wider tree does.
-- Assumes nothing.
use mathlib.Core.Bool.{Bool, true, false, cond}
use mathlib.Core.List.{List, [], ◌∷◌, ◌++◌}
use mathlib.Core.Path.{◌≡◌, refl}
use Prim.Native.Nat.{ℕ, zero, suc, ◌+◌, ◌≤◌}
use native.Mathlib.Omega.{arith}
use borrow.Author.Tests.{eq-eqb}
use lib.Dec.{eqb}
use lib.ListN.{replicate, length-append, length-replicate}
use Rattle.trees.specs.Tree.{IsTree, leaf, gap, leaves, children, onto_first}
use Rattle.trees.specs.Fit.{FitsIn, Placed, done, here, skip}
use Rattle.trees.proofs.Children.{Some, children_some}

-- k branches more
abbrev pub widen : ℕ → ℕ → List ℕ → List ℕ
widen h k t = t ++ replicate k h

branches : (h k : ℕ) → children h (replicate k h) ≡ [] ∷ replicate k []
unfolding children
branches h zero = refl
branches h (suc k) = simp (eq-eqb h h refl, branches h k)

widen_children : (h k : ℕ) (t : List ℕ) → children h (widen h k t) ≡ children h t ++ replicate k []
unfolding children
widen_children h k [] = branches h k
widen_children h k (g ∷ t) = go (eqb g h) (children_some h t) (widen_children h k t)
  where
    go : (b : Bool) → Some (children h t) → children h (widen h k t) ≡ children h t ++ replicate k []
        → cond b ([] ∷ children h (widen h k t)) (onto_first g (children h (widen h k t))) ≡ cond b ([] ∷ children h t) (onto_first g (children h t)) ++ replicate k []
    go true s e = rw e
    go false s e = rw (e, s.are)

placed_front : {R : List ℕ → List ℕ → Type 0} (us ts ss : List (List ℕ)) → Placed R (ts ++ ss) us → Placed R ts us
placed_front [] [] ss p = done
placed_front {R = R} [] (t ∷ ts) ss p = elim p [ ]
placed_front (u ∷ us) [] ss p = done
placed_front (u ∷ us) (t ∷ ts) ss (here r p) = here r (placed_front us ts ss p)
placed_front (u ∷ us) (t ∷ ts) ss (skip p) = skip (placed_front us (t ∷ ts) ss p)

pub widen_fits : (h k : ℕ) (t u : List ℕ) → FitsIn h (widen h k t) u → FitsIn h t u
unfolding FitsIn
widen_fits zero k t u p = tt
widen_fits (suc h) k t u p = placed_front (children (suc h) u) (children (suc h) t) (replicate k []) (rw (widen_children (suc h) k t) at p)

pub widen_leaves : (h k : ℕ) (t : List ℕ) → leaves (widen h k t) ≡ k + leaves t
widen_leaves h k t = omega (arith, length-append t (replicate k h), length-replicate k h)

pub widen_tree : (h k : ℕ) {t : List ℕ} → 1 ≤ h → IsTree h t → IsTree h (widen h k t)
widen_tree h zero b leaf = leaf
widen_tree h (suc k) b leaf = gap {g = h} b (omega arith) (widen_tree h k b leaf)
widen_tree h k b (gap low high i) = gap low high (widen_tree h k b i)
