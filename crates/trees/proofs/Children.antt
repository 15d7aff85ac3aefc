-- Trees and the children of their roots. A tree has as many leaves as its children have together.
-- Trees of height h grow into a tree of height h + 1, whose children they are, and the children of a tree of height h + 1 are such trees, from which it grows again.
-- Assumes nothing.
use mathlib.Core.Bool.{Bool, true, false}
use mathlib.Core.List.{List, [], ◌∷◌, ◌++◌}
use mathlib.Core.Path.{◌≡◌, refl, ◌∙◌, ap}
use Prim.Native.Nat.{ℕ, suc, ◌+◌, ◌≤◌, ◌<◌}
use native.Mathlib.Nat.{suc-add}
use native.Mathlib.Omega.{arith}
use borrow.Author.Tests.{ne_eqb, eq-eqb, eqb-true, eqb-false}
use lib.Dec.{eqb}
use lib.ListN.{length, get_or, take, drop, replicate, length-append}
use lib.Seq.{split_at}
use Rattle.trees.specs.Tree.{children, grow, leaves, IsTree, leaf, gap}

-- all of them are trees of height h
pub data Trees (h : ℕ) : List (List ℕ) → Type 0 where
  none : Trees h []
  more : {t : List ℕ} {ts : List (List ℕ)} → IsTree h t → Trees h ts → Trees h (t ∷ ts)

-- their leaves together
unfoldable pub total : List (List ℕ) → ℕ
total [] = 0
total (t ∷ ts) = leaves t + total ts

-- there is at least one of them
pub record Some (ts : List (List ℕ)) : Type 0 where
  pub first : List ℕ
  pub rest : List (List ℕ)
  pub are : ts ≡ first ∷ rest

-- what holds of every list with a first tree holds of some trees
pub of_some : {ts : List (List ℕ)} (P : List (List ℕ) → Type 0) → ((p : List ℕ) (ps : List (List ℕ)) → P (p ∷ ps)) → Some ts → P ts
of_some P f s = rw s.are (f s.first s.rest)

-- a tree of height 0 is one leaf
pub height_zero : {gs : List ℕ} → IsTree 0 gs → gs ≡ []
height_zero leaf = refl
height_zero (gap low high i) = absurd (omega arith)

-- lists of trees

pub trees_append : {h : ℕ} {ts us : List (List ℕ)} → Trees h ts → Trees h us → Trees h (ts ++ us)
trees_append none js = js
trees_append (more i is) js = more i (trees_append is js)

pub trees_front : {h : ℕ} (ts us : List (List ℕ)) → Trees h (ts ++ us) → Trees h ts
trees_front [] us is = none
trees_front (t ∷ ts) us (more i is) = more i (trees_front ts us is)

pub trees_back : {h : ℕ} (ts us : List (List ℕ)) → Trees h (ts ++ us) → Trees h us
trees_back [] us is = is
trees_back (t ∷ ts) us (more i is) = trees_back ts us is

pub total_append : (ts us : List (List ℕ)) → total (ts ++ us) ≡ total ts + total us
unfolding total
total_append [] us = omega arith
total_append (t ∷ ts) us = omega (arith, total_append ts us)

pub one_of_total : (ts : List (List ℕ)) (i : ℕ) → i < length ts → leaves (get_or ts i []) ≤ total ts
unfolding total
one_of_total ts i l =
    omega (arith, ap total (split_at ts i [] l), total_append (take i ts) (get_or ts i [] ∷ drop (suc i) ts))

pub append_some : (ts : List (List ℕ)) (u : List ℕ) (us : List (List ℕ)) → Some (ts ++ u ∷ us)
append_some [] u us = record { first = u; rest = us; are = refl }
append_some (t ∷ ts) u us = record { first = t; rest = ts ++ u ∷ us; are = refl }

-- a gap more in front of the first tree
onto : {h g : ℕ} {p : List ℕ} {ps : List (List ℕ)} → 1 ≤ g → g ≤ h → Trees h (p ∷ ps) → Trees h ((g ∷ p) ∷ ps)
onto low high (more i is) = more (gap low high i) is

-- what trees grow into

-- a tree of height h is its own only part between gaps equal to h + 1
pub part_alone : (h : ℕ) (p : List ℕ) → IsTree h p → children (suc h) p ≡ p ∷ []
unfolding children
part_alone h [] i = refl
part_alone h (g ∷ p) (gap low high i) = simp (ne_eqb g (suc h) (omega arith), part_alone h p i)

-- and the first part, up to such a gap
pub part_first : (h : ℕ) (p q : List ℕ) → IsTree h p → children (suc h) (p ++ suc h ∷ q) ≡ p ∷ children (suc h) q
unfolding children
part_first h [] q i = simp (eq-eqb (suc h) (suc h) refl)
part_first h (g ∷ p) q (gap low high i) = simp (ne_eqb g (suc h) (omega arith), part_first h p q i)

pub children_grow : (h : ℕ) (p : List ℕ) (ps : List (List ℕ)) → Trees h (p ∷ ps) → children (suc h) (grow (suc h) (p ∷ ps)) ≡ p ∷ ps
unfolding grow
children_grow h p [] (more i is) = part_alone h p i
children_grow h p (q ∷ ps) (more i is) = part_first h p (grow (suc h) (q ∷ ps)) i ∙ ap (λ (l : List (List ℕ)). p ∷ l) (children_grow h q ps is)

pub grow_leaves : (h : ℕ) (p : List ℕ) (ps : List (List ℕ)) → leaves (grow h (p ∷ ps)) ≡ total (p ∷ ps)
unfolding grow total
grow_leaves h p [] = omega arith
grow_leaves h p (q ∷ ps) = omega (arith, length-append p (h ∷ grow h (q ∷ ps)), grow_leaves h q ps)

tree_suc : {h : ℕ} {p : List ℕ} → IsTree h p → IsTree (suc h) p
tree_suc leaf = leaf
tree_suc (gap low high i) = gap low (omega arith) (tree_suc i)

append_tree : {h : ℕ} {p q : List ℕ} → IsTree h p → IsTree (suc h) q → IsTree (suc h) (p ++ suc h ∷ q)
append_tree {h} leaf j = gap {g = suc h} (omega arith) (omega arith) j
append_tree (gap low high i) j = gap low (omega arith) (append_tree i j)

pub grow_tree : (h : ℕ) (p : List ℕ) (ps : List (List ℕ)) → Trees h (p ∷ ps) → IsTree (suc h) (grow (suc h) (p ∷ ps))
unfolding grow
grow_tree h p [] (more i is) = tree_suc i
grow_tree h p (q ∷ ps) (more i is) = append_tree i (grow_tree h q ps is)

-- the children of a root

-- the children of a tree of height 1 are its leaves
pub children_leaves : (gaps : List ℕ) → IsTree 1 gaps → children 1 gaps ≡ replicate (leaves gaps) []
unfolding children
children_leaves [] i = refl
children_leaves (g ∷ gaps) (gap low high i) =
    simp (eq-eqb g 1 (omega arith), suc-add (length gaps) 1) (ap (λ (l : List (List ℕ)). [] ∷ l) (children_leaves gaps i))

-- p and then ps are the parts of gs between the gaps equal to h
data Parts (h : ℕ) : List ℕ → List ℕ → List (List ℕ) → Type 0 where
  end : Parts h [] [] []
  cut : {gs p : List ℕ} {ps : List (List ℕ)} → Parts h gs p ps → Parts h (h ∷ gs) [] (p ∷ ps)
  inside : {g : ℕ} {gs p : List ℕ} {ps : List (List ℕ)} → (g ≡ h → ⊥) → Parts h gs p ps → Parts h (g ∷ gs) (g ∷ p) ps

-- the children, in that form
record Found (h : ℕ) (gs : List ℕ) : Type 0 where
  some : Some (children h gs)
  parts : Parts h gs some.first some.rest

found : (h : ℕ) (gs : List ℕ) → Found h gs
unfolding children
found h [] = record { some = record { first = []; rest = []; are = refl }; parts = end }
found h (g ∷ gs) = step (found h gs) (eqb g h) refl
  where
    step : Found h gs → (b : Bool) → eqb g h ≡ b → Found h (g ∷ gs)
    step f true e =
        record {
          some = record { first = []; rest = f.some.first ∷ f.some.rest; are = simp (e, f.some.are) };
          parts = rw (eqb-true g h e) (cut f.parts);
        }
    step f false e =
        record {
          some = record { first = g ∷ f.some.first; rest = f.some.rest; are = simp (e, f.some.are) };
          parts = inside (eqb-false g h e) f.parts;
        }

-- a tree has at least one child, whatever its gaps
pub children_some : (h : ℕ) (gs : List ℕ) → Some (children h gs)
children_some h gs = (found h gs).some

parts_total : {h : ℕ} {gs p : List ℕ} {ps : List (List ℕ)} → Parts h gs p ps → total (p ∷ ps) ≡ leaves gs
unfolding total
parts_total end = refl
parts_total (cut r) = omega (arith, parts_total r)
parts_total (inside ne r) = omega (arith, parts_total r)

pub children_total : (h : ℕ) (gs : List ℕ) → total (children h gs) ≡ leaves gs
children_total h gs = ap total (found h gs).some.are ∙ parts_total (found h gs).parts

-- a tree grows from its children again
grow_onto : (h g : ℕ) (p : List ℕ) (ps : List (List ℕ)) → grow h ((g ∷ p) ∷ ps) ≡ g ∷ grow h (p ∷ ps)
unfolding grow
grow_onto h g p [] = refl
grow_onto h g p (q ∷ ps) = refl

parts_grow : {h : ℕ} {gs p : List ℕ} {ps : List (List ℕ)} → Parts h gs p ps → grow h (p ∷ ps) ≡ gs
unfolding grow
parts_grow end = refl
parts_grow {h} (cut r) = ap (λ (l : List ℕ). h ∷ l) (parts_grow r)
parts_grow {h} (inside {g} {p = p} {ps = ps} ne r) = grow_onto h g p ps ∙ ap (λ (l : List ℕ). g ∷ l) (parts_grow r)

pub grow_children : (h : ℕ) (gs : List ℕ) → grow h (children h gs) ≡ gs
grow_children h gs = ap (grow h) (found h gs).some.are ∙ parts_grow (found h gs).parts

parts_trees : {h : ℕ} {gs p : List ℕ} {ps : List (List ℕ)} → Parts (suc h) gs p ps → IsTree (suc h) gs → Trees h (p ∷ ps)
parts_trees end i = more leaf none
parts_trees (cut r) (gap low high i) = more leaf (parts_trees r i)
parts_trees (inside ne r) (gap low high i) = onto low (omega arith) (parts_trees r i)

pub children_trees : (h : ℕ) (gs : List ℕ) → IsTree (suc h) gs → Trees h (children (suc h) gs)
children_trees h gs i = rw (found (suc h) gs).some.are (parts_trees (found (suc h) gs).parts i)
