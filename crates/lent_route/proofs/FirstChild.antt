-- The first gap of a tree's height cuts its root's first child off: the gaps before it are that child, and those after it have the other children.
-- Assumes nothing.
use mathlib.Core.List.{List, [], ◌∷◌}
use mathlib.Core.Path.{◌≡◌, sym, ◌∙◌, ap}
use Prim.Native.Nat.{ℕ, zero, suc, ◌+◌, ◌-◌, ◌<◌}
use native.Mathlib.Numerals.{add-one}
use native.Mathlib.Omega.{arith}
use lib.ListN.{length, get_or, take, drop, length-take, length-drop}
use lib.Seq.{split_at, take_all}
use Rattle.trees.specs.Tree.{IsTree, leaf, gap, children}
use Rattle.trees.proofs.Children.{part_alone, part_first}
use Rattle.routes.specs.Parts.{Lent}
use Rattle.lent_route.specs.Child.{NoneBefore}

-- parts of trees

front_tree : {h : ℕ} {gaps : List ℕ} (r : ℕ) → IsTree (suc h) gaps → NoneBefore gaps (suc h) r → IsTree h (take r gaps)
front_tree zero i free = leaf
front_tree (suc r) leaf free = leaf
front_tree {h} (suc r) (gap {g = g} low high i) free =
    let other : g ≡ suc h → ⊥ = free 0 (omega arith) in
    gap low (omega arith) (front_tree r i (λ j l. free (suc j) (omega arith)))

drop_tree : {h : ℕ} {gaps : List ℕ} (r : ℕ) → IsTree h gaps → IsTree h (drop r gaps)
drop_tree zero i = i
drop_tree (suc r) leaf = leaf
drop_tree (suc r) (gap low high i) = drop_tree r i

-- what is left of a lent tree may be lent too
pub rest_lent : {hu : ℕ} (u : List ℕ) (from : ℕ) → Lent hu u → Lent hu (drop from u)
rest_lent u from l = record { tree = drop_tree from l.tree; few = rw length-drop (omega (arith, l.few)) }

-- a lent tree, cut at its first gap of its height
module _ {h hu : ℕ} (u : List ℕ) (cut : ℕ) (suc-h : hu ≡ suc h) (lent : Lent hu u) (free : NoneBefore u hu cut) where
  front : IsTree h (take cut u)
  front = front_tree cut (rw suc-h at lent.tree) (rw suc-h at free)

  pub front_lent : Lent (hu - 1) (take cut u)
  front_lent =
      let e : hu - 1 ≡ h = omega arith in
      record { tree = rw e front; few = rw length-take (omega (arith, lent.few)) }

  pub cut_none : cut ≡ length u → children hu u ≡ take cut u ∷ []
  cut_none e =
      rw suc-h (ap (children (suc h)) (sym (take_all cut u (omega arith))) ∙ part_alone h (take cut u) front)

  pub cut_first : cut < length u → get_or u cut 0 ≡ hu → children hu u ≡ take cut u ∷ children hu (drop (cut + 1) u)
  cut_first l e =
      rw (add-one cut, suc-h) (ap (children (suc h)) (split_at u cut 0 l ∙ rw (e, suc-h)) ∙ part_first h (take cut u) (drop (suc cut) u) front)
