-- The levels over built-in trees: a level goes over the children of S(n, h) one by one, with no level below over leaves; it makes few queries.
-- Assumes nothing.
use mathlib.Core.Bool.{Bool, true, false, cond}
use mathlib.Core.List.{List, [], ◌∷◌, ◌++◌}
use mathlib.Core.Path.{◌≡◌, refl, sym, ap}
use Prim.Native.Nat.{ℕ, zero, suc, ◌+◌, ◌≤◌, ◌<◌, ◌^◌}
use native.Mathlib.Numerals.{add-one}
use native.Mathlib.Omega.{arith}
use lib.ListN.{get_or, take, drop, take-append-drop, replicate}
use lib.Seq.{take-suc, take_all}
use Rattle.trees.specs.Tree.{children, leaves}
use Rattle.trees.specs.Built.{built, built_children}
use Rattle.trees.proofs.Built.{built_children_length, built_children_leaves, children_built, child_leaves}
use Rattle.fixpoint.specs.Levels.{least_among, greatest_among}
use Rattle.system.specs.System.{System, sign}
use Rattle.evaluator.specs.Sides.{moved}
use Rattle.evaluator.specs.declared.Bounds.{Bounds}
use Rattle.routes.specs.declared.shared.Found.{Found}
use Rattle.routes.specs.Parts.{LineCount, least_of, greatest_of, level_queries}
use Rattle.routes.proofs.OverChildren.{then}
use Rattle.routes.proofs.ChildrenPassed.{child_passed, passed_few}
use Rattle.routes.proofs.Levels.{LevelGives, OverGives, falling_number, own_of, heights, queries_over, level_over}
use Rattle.routes.proofs.QueryBound.{built_few}

-- the children of S(n, h + 1), one by one

children_of_built : (n : ℕ) {h h' : ℕ} → 0 < n → h' ≡ suc h → children h' (built n h') ≡ built_children n h
children_of_built zero l e = absurd (omega arith)
children_of_built (suc n) {h} l e = rw e (children_built n h)

children_passed : (n h i m : ℕ) → i < n → get_or (built_children n h) i [] ≡ built m h → take (i + 1) (built_children n h) ≡ take i (built_children n h) ++ built m h ∷ []
children_passed n h i m l e = rw (add-one i, ← e) (take-suc (built_children n h) i [] (rw built_children_length l))

-- of two numbers of lines, that of a level's tree
abbrev pub own_lines : Bool → ℕ → ℕ → ℕ
own_lines greatest p q = cond greatest q p

-- the trees of the levels below are for as many lines as may be, if one is for a child of it
pub lines_few : (greatest : Bool) (p q n : ℕ) → LineCount p → LineCount q → (1 ≤ n) × (n ≤ own_lines greatest p q)
    → LineCount (cond greatest p n) × LineCount (cond greatest n q)
lines_few true p q n y z l = (y, (l.0, omega (arith, l.1, z.1)))
lines_few false p q n y z l = ((l.0, omega (arith, l.1, y.1)), z)

-- what the levels give over S(p, h) and S(q, g), h and g being the least and the greatest of these levels, and what level k + 1 gives over some children
module _ (s : System) (k : ℕ) (ys : List ℕ) (bounds : Bounds) (p q : ℕ) where
  abbrev pub LevelBuilt : Found → Type 0
  LevelBuilt = LevelGives s k ys bounds (built p (least_of s k)) (built q (greatest_of s k))

  abbrev pub OverBuilt : Bool → List (List ℕ) → Found → Type 0
  OverBuilt = OverGives s k ys bounds (built p (least_of s k)) (built q (greatest_of s k))

-- the children of a level's tree, and the first i of them
abbrev pub all_children : Bool → System → ℕ → ℕ → ℕ → List (List ℕ)
all_children greatest s k p q = built_children (own_lines greatest p q) (own_of greatest s k)

abbrev pub first_children : Bool → System → ℕ → ℕ → ℕ → ℕ → List (List ℕ)
first_children greatest s k p q i = take i (all_children greatest s k p q)

module _ (s : System) (k : ℕ) (ys : List ℕ) (bounds : Bounds) (p q : ℕ) where
  -- one child more, which is the tree for n lines
  pub child_built : (greatest : Bool) (i n : ℕ) (r c : Found) → i < own_lines greatest p q → get_or (all_children greatest s k p q) i [] ≡ built n (own_of greatest s k)
      → OverBuilt s k ys bounds p q greatest (first_children greatest s k p q i) r
      → LevelBuilt s k (r.set ∷ ys) (moved greatest bounds r.set) (cond greatest p n) (cond greatest n q) c
      → OverBuilt s k ys bounds p q greatest (first_children greatest s k p q (i + 1)) (then r c)
  child_built true i n r c l e f g =
      rw (children_passed q (greatest_of s k) i n l e) (child_passed s k ys bounds (built p (least_of s k)) (built q (greatest_of s k)) true r c _ _ f g)
  child_built false i n r c l e f g =
      rw (children_passed p (least_of s k) i n l e) (child_passed s k ys bounds (built p (least_of s k)) (built q (greatest_of s k)) false r c _ _ f g)

  pub all_built : (greatest : Bool) (i : ℕ) (r : Found) → own_lines greatest p q ≤ i
      → OverBuilt s k ys bounds p q greatest (first_children greatest s k p q i) r → OverBuilt s k ys bounds p q greatest (all_children greatest s k p q) r
  all_built greatest i r l g = rw (take_all i (all_children greatest s k p q) (rw built_children_length l)) at g

  -- with no level below, the children are leaves
  pub leaves_built : (greatest : Bool) (r : Found) → k ≡ 0 → ((u v : List ℕ) → OverGives s 0 ys bounds u v greatest (replicate (own_lines greatest p q) []) r)
      → OverBuilt s k ys bounds p q greatest (all_children greatest s k p q) r
  unfolding least_among greatest_among
  leaves_built true r z g = rw (z, built_children_leaves q) (g (built p (least_of s 0)) (built q (greatest_of s 0)))
  leaves_built false r z g = rw (z, built_children_leaves p) (g (built p (least_of s 0)) (built q (greatest_of s 0)))

-- one level more
module _ (s : System) {k j : ℕ} (next : k ≡ suc j) (p q : ℕ) where
  pub level_built : (greatest : Bool) → sign s j ≡ greatest → 0 < p → 0 < q → (ys : List ℕ) (bounds : Bounds) (r : Found)
      → OverBuilt s j ys bounds p q greatest (all_children greatest s j p q) r → LevelBuilt s k ys bounds p q r
  level_built true e y z ys bounds r g =
      let h = heights s next true e in
      level_over s next true e ys bounds _ _ r (rw (children_of_built q z h.1, h.0) g)
  level_built false e y z ys bounds r g =
      let h = heights s next false e in
      level_over s next false e ys bounds _ _ r (rw (children_of_built p y h.0, h.1) g)

-- all the queries of a level are few, and so are those of the first children
module _ (s : System) (k p q : ℕ) (few : k < 8) (y : LineCount p) (z : LineCount q) where
  all_few : (greatest : Bool) → sign s k ≡ greatest → level_queries greatest s k (all_children greatest s k p q) (built p (least_of s k)) (built q (greatest_of s k)) ≤ 64 ^ 8
  all_few true e =
      let h = heights s refl true e in
      rw (queries_over s refl true e, children_of_built q z.0 h.1, h.0) at (built_few s (suc k) p q few y z)
  all_few false e =
      let h = heights s refl false e in
      rw (queries_over s refl false e, children_of_built p y.0 h.0, h.1) at (built_few s (suc k) p q few y z)

  pub first_few : (greatest : Bool) → sign s k ≡ greatest → (i : ℕ)
      → level_queries greatest s k (first_children greatest s k p q i) (built p (least_of s k)) (built q (greatest_of s k)) ≤ 64 ^ 8
  first_few greatest e i =
      let all = all_children greatest s k p q in
      omega (arith, all_few greatest e, passed_few s k (built p (least_of s k)) (built q (greatest_of s k)) greatest (take i all) (drop i all) (sym (take-append-drop i all)))

-- The levels left and the leaves of the two trees (falling_number in routes), for the levels k, .., 1 and for a least and a greatest level above them.
module _ (s : System) (k p q : ℕ) where
  abbrev pub level_number : ℕ
  level_number = falling_number k (built p (least_of s k)) (built q (greatest_of s k))

  abbrev pub least_number : ℕ
  least_number = falling_number k (built p (suc (least_of s k))) (built q (greatest_of s k)) + 1

  abbrev pub greatest_number : ℕ
  greatest_number = falling_number k (built p (least_of s k)) (built q (suc (greatest_of s k))) + 1

-- a child's is less than that of the children's level
module _ (s : System) (k p q i n : ℕ) where
  pub least_number_lem : i < p → get_or (built_children p (least_of s k)) i [] ≡ built n (least_of s k) → level_number s k n q < least_number s k p q
  least_number_lem l e = omega (arith, ap leaves e, child_leaves p (least_of s k) i l)

  pub greatest_number_lem : i < q → get_or (built_children q (greatest_of s k)) i [] ≡ built n (greatest_of s k) → level_number s k p n < greatest_number s k p q
  greatest_number_lem l e = omega (arith, ap leaves e, child_leaves q (greatest_of s k) i l)
