-- The levels over lent trees: a level goes over the children of its tree one by one, each cut off by the next gap of the tree's height, with no
-- level below over leaves; it makes few queries.
-- Assumes nothing.
use mathlib.Core.Bool.{Bool, true, false, cond}
use mathlib.Core.List.{List, [], ◌∷◌, ◌++◌, append-nil}
use mathlib.Core.Path.{◌≡◌, refl, sym, ◌∙◌, ap}
use Prim.Native.Nat.{ℕ, suc, ◌+◌, ◌-◌, ◌≤◌, ◌<◌, ◌^◌}
use native.Mathlib.Decide.{dec_lt}
use native.Mathlib.Omega.{arith}
use lib.ListN.{length, take, drop, length-drop, replicate}
use lib.Seq.{append_snoc, drop-drop}
use Rattle.trees.specs.Tree.{children, leaves}
use Rattle.trees.proofs.Children.{children_leaves}
use Rattle.fixpoint.specs.Levels.{least_among, greatest_among}
use Rattle.system.specs.System.{System, sign}
use Rattle.evaluator.specs.Sides.{moved}
use Rattle.evaluator.specs.declared.Bounds.{Bounds}
use Rattle.routes.specs.declared.shared.Found.{Found}
use Rattle.routes.specs.Parts.{Lent, least_of, greatest_of, level_queries}
use Rattle.routes.proofs.OverChildren.{then}
use Rattle.routes.proofs.ChildrenPassed.{child_passed, passed_few}
use Rattle.routes.proofs.Levels.{LevelGives, OverGives, own, own_of, heights, queries_over, level_over}
use Rattle.routes.proofs.QueryBound.{lent_few}
use Rattle.lent_route.specs.declared.LentTree.{LentTree}
use Rattle.lent_route.specs.Child.{FirstChild}
use Rattle.lent_route.proofs.FirstChild.{rest_lent, front_lent, cut_none, cut_first}

-- the children of a tree that are passed, in front of those of what is left of its gaps
abbrev pub Split : ℕ → List ℕ → ℕ → List (List ℕ) → Type 0
Split h u from passed = children h u ≡ passed ++ children h (drop from u)

pub record NextChild (h : ℕ) (u : List ℕ) (from : ℕ) (child : List ℕ) (passed : List (List ℕ)) : Type 0 where
  pub within : from + length child ≤ length u
  pub lent : Lent (h - 1) child
  -- it has no more leaves than the tree
  pub leaves_few : leaves child ≤ leaves u
  -- the last child, or one in front of others
  pub last : from + length child ≡ length u → children h u ≡ passed ++ child ∷ []
  pub more : (from + length child ≡ length u → ⊥) → Split h u (from + length child + 1) (passed ++ child ∷ [])
  pub others : List (List ℕ)
  pub front : children h u ≡ (passed ++ child ∷ []) ++ others

pub next_child : {h below : ℕ} (u : List ℕ) (from : ℕ) (child : List ℕ) (passed : List (List ℕ)) → h ≡ suc below → Lent h u → from ≤ length u → Split h u from passed
    → FirstChild h (drop from u) child → NextChild h u from child passed
next_child {h} u from child passed suc-h tree inside split first =
    let rest = drop from u in
    let cut = length child in
    let lent = rest_lent u from tree in
    let fits : from + cut ≤ length u = omega (arith, first.within, length-drop from u, inside) in
    let behind : (ts : List (List ℕ)) → children h rest ≡ take cut rest ∷ ts → children h u ≡ (passed ++ child ∷ []) ++ ts =
    λ ts e. split ∙ ap (λ (l : List (List ℕ)). passed ++ l) (rw (← first.cut) at e) ∙ sym (append_snoc passed child ts) in
    let alone : from + cut ≡ length u → children h u ≡ (passed ++ child ∷ []) ++ [] =
    λ e. behind [] (cut_none rest cut suc-h lent first.before (omega (arith, length-drop from u))) in
    let ahead : (from + cut ≡ length u → ⊥) → children h u ≡ (passed ++ child ∷ []) ++ children h (drop (cut + 1) rest) =
    λ n. let l : cut < length rest = omega (arith, length-drop from u) in
    behind _ (cut_first rest cut suc-h lent first.before l (first.found l)) in
    let place : from + (cut + 1) ≡ from + cut + 1 = omega arith in
    let front : (others : List (List ℕ)) × (children h u ≡ (passed ++ child ∷ []) ++ others) =
    elim (dec_lt (from + cut) (length u)) [ yes l ↦ (_, ahead (λ e. omega arith)) | no g ↦ (_, alone (omega arith)) ] in
    record {
      within = fits;
      lent = rw (← first.cut) at (front_lent rest cut suc-h lent first.before);
      leaves_few = omega arith;
      last = λ e. alone e ∙ append-nil (passed ++ child ∷ []);
      more = λ n. rw (drop-drop (cut + 1) from u, place) at (ahead n);
      others = front.0;
      front = front.1;
    }

-- level k is the next above the levels j, .., 1, of this sign, and u and v are as high as the least and the greatest levels up to it
pub record Trees (s : System) (k j : ℕ) (greatest : Bool) (u v : LentTree) : Type 0 where
  pub next : k ≡ suc j
  pub sign_is : sign s j ≡ greatest
  pub least : u.height ≡ least_of s k
  pub most : v.height ≡ greatest_of s k

-- the tree of the level
pub record OwnTree (s : System) (k j : ℕ) (greatest : Bool) (u v t : LentTree) : Type 0 where
  pub height : t.height ≡ own_of greatest s k
  pub gaps : t.gaps.now ≡ own greatest u.gaps.now v.gaps.now
  -- it is one higher than its children
  pub higher : t.height ≡ suc (own_of greatest s j)

module _ {s : System} {k j : ℕ} where
  pub own_tree : (greatest : Bool) (u v t : LentTree) → Trees s k j greatest u v → t ≡ cond greatest v u → OwnTree s k j greatest u v t
  own_tree true u v t h e =
      let height = ap (λ (x : LentTree). x.height) e ∙ h.most in
      record { height = height; gaps = ap (λ (x : LentTree). x.gaps.now) e; higher = height ∙ (heights s h.next true h.sign_is).1 }
  own_tree false u v t h e =
      let height = ap (λ (x : LentTree). x.height) e ∙ h.least in
      record { height = height; gaps = ap (λ (x : LentTree). x.gaps.now) e; higher = height ∙ (heights s h.next false h.sign_is).0 }

  -- the trees of the levels below, with a child in place of this level's tree
  pub heights_below : (greatest : Bool) (u v child : LentTree) → Trees s k j greatest u v → child.height ≡ own_of greatest s j
      → ((cond greatest u child).height ≡ least_of s j) × ((cond greatest child v).height ≡ greatest_of s j)
  heights_below true u v child h e = (h.least ∙ (heights s h.next true h.sign_is).0, e)
  heights_below false u v child h e = (e, h.most ∙ (heights s h.next false h.sign_is).1)

  -- all the queries of a level are few
  pub all_few : (greatest : Bool) (u v t : LentTree) → Trees s k j greatest u v → OwnTree s k j greatest u v t
      → level_queries greatest s j (children t.height t.gaps.now) u.gaps.now v.gaps.now ≤ 64 ^ 8
  all_few greatest u v t h o =
      rw (o.height, o.gaps) (omega (
        arith,
        queries_over s h.next greatest h.sign_is u.gaps.now v.gaps.now,
        lent_few s k u.gaps.now v.gaps.now (rw h.least at u.lent) (rw h.most at v.lent),
      ))

  pub level_lent : (greatest : Bool) (u v t : LentTree) → Trees s k j greatest u v → OwnTree s k j greatest u v t → (ys : List ℕ) (bounds : Bounds) (r : Found)
      → OverGives s j ys bounds u.gaps.now v.gaps.now greatest (children t.height t.gaps.now) r → LevelGives s k ys bounds u.gaps.now v.gaps.now r
  level_lent greatest u v t h o ys bounds r g = level_over s h.next greatest h.sign_is ys bounds u.gaps.now v.gaps.now r (rw (o.height, o.gaps) at g)

no_height : (s : System) (greatest : Bool) → own_of greatest s 0 ≡ 0
unfolding least_among greatest_among
no_height s true = refl
no_height s false = refl

module _ (s : System) (k : ℕ) (ys : List ℕ) (bounds : Bounds) where
  pub child_lent : (greatest : Bool) (u v child : LentTree) (r c : Found) (passed : List (List ℕ)) → OverGives s k ys bounds u.gaps.now v.gaps.now greatest passed r
      → LevelGives s k (r.set ∷ ys) (moved greatest bounds r.set) (cond greatest u child).gaps.now (cond greatest child v).gaps.now c
      → OverGives s k ys bounds u.gaps.now v.gaps.now greatest (passed ++ child.gaps.now ∷ []) (then r c)
  child_lent true u v child r c passed f g = child_passed s k ys bounds u.gaps.now v.gaps.now true r c passed child.gaps.now f g
  child_lent false u v child r c passed f g = child_passed s k ys bounds u.gaps.now v.gaps.now false r c passed child.gaps.now f g

  -- with no level below, the children are leaves
  pub leaves_lent : (greatest : Bool) (t : LentTree) (u v : List ℕ) (r : Found) → k ≡ 0 → t.height ≡ suc (own_of greatest s k)
      → ((u v : List ℕ) → OverGives s 0 ys bounds u v greatest (replicate (leaves t.gaps.now) []) r)
      → OverGives s k ys bounds u v greatest (children t.height t.gaps.now) r
  leaves_lent greatest t u v r z e g =
      let one : t.height ≡ 1 = rw z at e ∙ ap suc (no_height s greatest) in
      rw (z, one, children_leaves t.gaps.now (rw one at t.lent.tree)) (g u v)

-- the queries of the children passed and of the next are among those of all
pub next_few : (s : System) (k : ℕ) (u v : List ℕ) (greatest : Bool) {h : ℕ} {gaps : List ℕ} {from : ℕ} {child : List ℕ} {passed : List (List ℕ)}
    → NextChild h gaps from child passed → level_queries greatest s k (passed ++ child ∷ []) u v ≤ level_queries greatest s k (children h gaps) u v
next_few s k u v greatest n = passed_few s k u v greatest _ n.others n.front
