-- A value that is its own nested fixpoint is reached over some tree of few leaves for the least levels, whatever the other tree
-- (document 001, Lemmas 4.5 and 4.9 in one); so a universal tree for the least levels reaches the nested fixpoint.
-- Assumes nothing.
use mathlib.Core.Bool.{Bool, true, false}
use mathlib.Core.List.{List, [], ◌∷◌}
use mathlib.Core.Path.{◌≡◌, refl, sym, ◌∙◌, ap, subst}
use Prim.Native.Nat.{ℕ, zero, suc, ◌+◌, ◌≤◌, ◌<◌}
use native.Mathlib.Omega.{arith}
use Rattle.trees.specs.Tree.{children, grow, leaves, IsTree, leaf}
use Rattle.trees.specs.Fit.{Universal}
use Rattle.trees.proofs.Children.{Trees, none, more, total, children_grow, grow_leaves, grow_tree}
use Rattle.fixpoint.specs.Values.{Values}
use Rattle.fixpoint.specs.Lawful.{Lawful, MonotoneQuery, cons⊑, Range, Between}
use Rattle.fixpoint.specs.Levels.{least_among, greatest_among}
use Rattle.fixpoint.specs.Nested.{nested, extreme}
use Rattle.fixpoint.specs.Restricted.{restricted, level, rise, fall}
use Rattle.fixpoint.proofs.Order.{eq_le, below_refl, range_up, range_down, between_bounded, rank_mono}
use Rattle.fixpoint.proofs.Levels.{least_at_least, least_at_greatest}
use Rattle.fixpoint.proofs.Nested.{nested_laws, level_mono, level_bounded, level_fixed}
use Rattle.fixpoint.proofs.Narrow.{narrow}
use Rattle.fixpoint.proofs.Restricted.{restricted_laws, rise_mono, level_keeps, level_below}
use Rattle.fixpoint.proofs.Fit.{fit_law}

module _ (𝓥 : Values) (𝓛 : Lawful 𝓥) (sign : ℕ → Bool) (f : List 𝓥.C → 𝓥.C) (f-mono : MonotoneQuery 𝓥 f) where
  open 𝓥 use {C, ◌⊑◌, bot, top, lfp, rank}
  open 𝓛 use {refl⊑, trans⊑, antisym⊑, decide}

  infix 40 ◌⊑◌
  abbrev val : ℕ → List C → C → C → C
  val = nested 𝓥 sign f

  abbrev res : ℕ → List C → C → C → List ℕ → List ℕ → C
  res = restricted 𝓥 sign f

  between : (k : ℕ) (xs : List C) {a b : C} → Range 𝓥 a b → Between 𝓥 a (val k xs a b) b
  between k = (nested_laws 𝓥 𝓛 sign f f-mono k).between

  res_between : (k : ℕ) (xs : List C) {a b : C} (u v : List ℕ) → Range 𝓥 a b → Between 𝓥 a (res k xs a b u v) b
  res_between k = (restricted_laws 𝓥 𝓛 sign f f-mono k).between

  -- a larger upper bound gives no less
  res_wider : (k : ℕ) (xs : List C) {a b b' : C} (u v : List ℕ) → Range 𝓥 a b → Range 𝓥 a b' → b ⊑ b' → res k xs a b u v ⊑ res k xs a b' u v
  res_wider k xs {a} u v r r' h = (restricted_laws 𝓥 𝓛 sign f f-mono k).mono u v r r' (below_refl 𝓥 𝓛 xs) (refl⊑ a) h

  -- bounds that the value itself narrows
  own : (k : ℕ) (xs : List C) {a b : C} → Range 𝓥 a b → val k xs a (val k xs a b) ≡ val k xs a b
  own k xs {a} {b} r =
      let w : Between 𝓥 a (val k xs a b) b = between k xs r in
      narrow 𝓥 𝓛 sign f f-mono k xs a b a (val k xs a b)
      (record { outer = r; ac = refl⊑ a; cv = w.above; ve = refl⊑ (val k xs a b); eb = w.below })

  -- a tree over which the levels k, .., 1 reach d from a, with at most as many leaves as d's rank is above a's
  record Found (k : ℕ) (xs : List C) (a d : C) : Type 0 where
    tree : List ℕ
    is_tree : IsTree (least_among sign k) tree
    small : leaves tree + rank a ≤ rank d
    reaches : (v : List ℕ) → d ⊑ res k xs a d tree v

  abbrev Key : ℕ → Type 0
  Key k = (xs : List C) (a d : C) → Range 𝓥 a d → (a ≡ d → ⊥) → val k xs a d ≡ d → Found k xs a d

  -- the same for a least level, as the children of its tree
  record Chain (k : ℕ) (xs : List C) (a d : C) : Type 0 where
    first : List ℕ
    rest : List (List ℕ)
    are_trees : Trees (least_among sign k) (first ∷ rest)
    small : total (first ∷ rest) + rank a ≤ rank d
    reaches : (v : List ℕ) → d ⊑ rise (λ c. res k (c ∷ xs)) d v a (first ∷ rest)

  module _ (k : ℕ) (ih : Key k) (s : sign k ≡ false) (xs : List C) (d : C) where
    -- what the level below gives at the lower bound
    abbrev next : C → C
    next a = val k (a ∷ xs) a d

    next_between : (a : C) → Range 𝓥 a d → Between 𝓥 a (next a) d
    next_between a r = between k (a ∷ xs) r

    is_lfp : (a : C) → val (suc k) xs a d ≡ lfp (λ x. val k (x ∷ xs) a d)
    unfolding nested extreme
    is_lfp a = rw s

    next_more : (a : C) → Range 𝓥 a d → (a ≡ d → ⊥) → val (suc k) xs a d ≡ d → a ≡ next a → ⊥
    next_more a r ne e q =
        ne (antisym⊑ r.mid (trans⊑ (eq_le 𝓥 𝓛 (sym e ∙ is_lfp a))
        (𝓛.lfp_least (λ x. val k (x ∷ xs) a d) (level_mono 𝓥 𝓛 sign f f-mono k xs r) (level_bounded 𝓥 𝓛 sign f f-mono k xs r) a (eq_le 𝓥 𝓛 (sym q)))))

    next_found : (a : C) → Range 𝓥 a d → (a ≡ d → ⊥) → val (suc k) xs a d ≡ d → Found k (a ∷ xs) a (next a)
    next_found a r ne e = ih (a ∷ xs) a (next a) (range_down 𝓥 𝓛 r (next_between a r)) (next_more a r ne e) (own k (a ∷ xs) r)

    next_own : (a : C) → Range 𝓥 a d → val (suc k) xs a d ≡ d → val (suc k) xs (next a) d ≡ d
    next_own a r e =
        let w : Between 𝓥 a (next a) d = next_between a r in
        narrow 𝓥 𝓛 sign f f-mono (suc k) xs a d (next a) d
        (record { outer = r; ac = w.above; cv = trans⊑ w.below (eq_le 𝓥 𝓛 (sym e)); ve = eq_le 𝓥 𝓛 e; eb = refl⊑ d }) ∙ e

    -- it is reached in the first child
    next_reached : (a : C) (r : Range 𝓥 a d) (F : Found k (a ∷ xs) a (next a)) (v : List ℕ) → next a ⊑ res k (a ∷ xs) a d F.tree v
    next_reached a r F v =
        let w : Between 𝓥 a (next a) d = next_between a r in
        trans⊑ (F.reaches v) (res_wider k (a ∷ xs) F.tree v (range_down 𝓥 𝓛 r w) r w.below)

    chain_one : (a : C) (r : Range 𝓥 a d) → Found k (a ∷ xs) a (next a) → next a ≡ d → Chain k xs a d
    unfolding rise total
    chain_one a r F q = record {
      first = F.tree;
      rest = [];
      are_trees = more F.is_tree none;
      small = omega (arith, F.small, ap rank q);
      reaches = λ v. trans⊑ (eq_le 𝓥 𝓛 (sym q)) (next_reached a r F v);
    }

    chain_more : (a : C) (r : Range 𝓥 a d) → Found k (a ∷ xs) a (next a) → Chain k xs (next a) d → Chain k xs a d
    unfolding rise total
    chain_more a r F N = record {
      first = F.tree;
      rest = N.first ∷ N.rest;
      are_trees = more F.is_tree N.are_trees;
      small = omega (arith, F.small, N.small);
      reaches = λ v.
          let w : Between 𝓥 a (next a) d = next_between a r in
          trans⊑ (N.reaches v)
          (rise_mono 𝓥 𝓛 (λ c. res k (c ∷ xs)) (level_keeps 𝓥 𝓛 sign f f-mono k xs) (λ c. res k (c ∷ xs)) (level_keeps 𝓥 𝓛 sign f f-mono k xs)
          (level_below 𝓥 𝓛 sign f f-mono k (below_refl 𝓥 𝓛 xs)) v (N.first ∷ N.rest)
          (range_up 𝓥 𝓛 r w) (range_up 𝓥 𝓛 r (res_between k (a ∷ xs) F.tree v r)) (next_reached a r F v) (refl⊑ d));
    }

    chain_by : (m : ℕ) (a : C) → rank d ≤ rank a + suc m → Range 𝓥 a d → (a ≡ d → ⊥) → val (suc k) xs a d ≡ d
        → ((b : C) → rank d ≤ rank b + m → Range 𝓥 b d → (b ≡ d → ⊥) → val (suc k) xs b d ≡ d → Chain k xs b d) → Dec (next a ≡ d) → Chain k xs a d
    chain_by m a h r ne e go_on (yes q) = chain_one a r (next_found a r ne e) q
    chain_by m a h r ne e go_on (no q) =
        let w : Between 𝓥 a (next a) d = next_between a r in
        let up : rank a < rank (next a) = 𝓛.rank_strict r.low w.above (trans⊑ w.below r.high) (next_more a r ne e) in
        chain_more a r (next_found a r ne e) (go_on (next a) (omega arith) (range_up 𝓥 𝓛 r w) q (next_own a r e))

    chain : (m : ℕ) (a : C) → rank d ≤ rank a + m → Range 𝓥 a d → (a ≡ d → ⊥) → val (suc k) xs a d ≡ d → Chain k xs a d
    chain zero a h r ne e = let up : rank a < rank d = 𝓛.rank_strict r.low r.mid r.high ne in absurd (omega arith)
    chain (suc m) a h r ne e = chain_by m a h r ne e (chain m) (decide (next a) d)

  -- a greatest level keeps above d what the level below keeps above d
  module _ (k : ℕ) (xs : List C) (a d : C) (t : List ℕ) (rd : Range 𝓥 a d) (hold : (v : List ℕ) → d ⊑ res k (d ∷ xs) a d t v) where
    fall_keeps : (b : C) (vs : List (List ℕ)) → Range 𝓥 a b → d ⊑ b → d ⊑ fall (λ c. res k (c ∷ xs)) a t b vs
    unfolding fall
    fall_keeps b [] r h = h
    fall_keeps b (v ∷ vs) r h =
        fall_keeps (res k (b ∷ xs) a b t v) vs (range_down 𝓥 𝓛 r (res_between k (b ∷ xs) t v r))
        (trans⊑ (hold v) ((restricted_laws 𝓥 𝓛 sign f f-mono k).mono t v rd r (cons⊑ h (below_refl 𝓥 𝓛 xs)) (refl⊑ a) h))

  module _ (k : ℕ) (ih : Key k) where
    key_greatest : sign k ≡ true → Key (suc k)
    unfolding restricted level
    key_greatest s xs a d r ne e =
        let q : val k (d ∷ xs) a d ≡ d = subst (λ (z : C). val k (z ∷ xs) a d ≡ z) e (level_fixed 𝓥 𝓛 sign f f-mono k xs r) in
        let F : Found k (d ∷ xs) a d = ih (d ∷ xs) a d r ne q in
        record {
          tree = F.tree;
          is_tree = rw (least_at_greatest sign k s) F.is_tree;
          small = F.small;
          reaches = λ v. rw s (fall_keeps k xs a d F.tree r F.reaches d (children (greatest_among sign (suc k)) v) r (refl⊑ d));
        }

    key_least : sign k ≡ false → Key (suc k)
    unfolding restricted level
    key_least s xs a d r ne e =
        let N : Chain k xs a d = chain k ih s xs d (rank d) a (omega arith) r ne e in
        let t : List ℕ = grow (suc (least_among sign k)) (N.first ∷ N.rest) in
        record {
          tree = t;
          is_tree = rw (least_at_least sign k s) (grow_tree (least_among sign k) N.first N.rest N.are_trees);
          small = subst (λ (n : ℕ). n + rank a ≤ rank d) (sym (grow_leaves (suc (least_among sign k)) N.first N.rest)) N.small;
          reaches = λ v. rw (s, least_at_least sign k s, children_grow (least_among sign k) N.first N.rest N.are_trees) (N.reaches v);
        }

    key_by : (s : Bool) → sign k ≡ s → Key (suc k)
    key_by true e = key_greatest e
    key_by false e = key_least e

  key : (k : ℕ) → Key k
  unfolding restricted nested
  key zero xs a d r ne e =
      let up : rank a < rank d = 𝓛.rank_strict r.low r.mid r.high ne in
      record { tree = []; is_tree = leaf; small = omega arith; reaches = λ v. eq_le 𝓥 𝓛 (sym e) }
  key (suc k) xs a d r ne e = key_by k (key k) (sign k) refl xs a d r ne e

  -- a tree that is universal for as many leaves as the rank spans reaches the nested fixpoint
  module _ (n k : ℕ) (span : rank top ≤ rank bot + n) (xs : List C) (a b : C) (r : Range 𝓥 a b) (u v : List ℕ) (univ : Universal n (least_among sign k) u) where
    reach_by : Dec (a ≡ val k xs a b) → val k xs a b ⊑ res k xs a b u v
    unfolding Universal
    reach_by (yes q) = trans⊑ (eq_le 𝓥 𝓛 (sym q)) (res_between k xs u v r).above
    reach_by (no q) =
        let d : C = val k xs a b in
        let w : Between 𝓥 a d b = between k xs r in
        let rd : Range 𝓥 a d = range_down 𝓥 𝓛 r w in
        let F : Found k xs a d = key k xs a d rd q (own k xs r) in
        let low : rank bot ≤ rank a = rank_mono 𝓥 𝓛 (refl⊑ bot) r.low (trans⊑ r.mid r.high) in
        let bounds = between_bounded 𝓥 𝓛 r w in
        let high : rank d ≤ rank top = rank_mono 𝓥 𝓛 bounds.0 bounds.1 (refl⊑ top) in
        trans⊑ (F.reaches v)
        (trans⊑ (res_wider k xs F.tree v rd r w.below)
        (fit_law 𝓥 𝓛 sign f f-mono k xs a b F.tree u v r (univ F.tree F.is_tree (omega (arith, F.small)))))

    pub reach : nested 𝓥 sign f k xs a b ⊑ restricted 𝓥 sign f k xs a b u v
    reach = reach_by (decide a (val k xs a b))
