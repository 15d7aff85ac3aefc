-- The built-in tree S(n, h) is universal for n, for every n of 1 or more and every height.
-- Of trees with at most n leaves together, the first that, with those before it, passes n/2 leaves goes into S(n, h); those before it
-- and those after it have at most n/2 and (n - 1)/2 leaves, and go into the children of S(n/2, h + 1) and of S((n - 1)/2, h + 1).
-- Assumes nothing.
use mathlib.Core.List.{List, [], ◌∷◌, ◌++◌}
use Prim.Native.Nat.{ℕ, zero, suc, ◌+◌, ◌-◌, ◌/◌, ◌≤◌, ◌<◌}
use native.Mathlib.Decide.{dec_le}
use native.Mathlib.Omega.{arith}
use Rattle.trees.specs.Tree.{children, leaves}
use Rattle.trees.specs.Fit.{Placed, done, here, skip, FitsIn, Universal}
use Rattle.trees.specs.Built.{built, built_children}
use Rattle.trees.proofs.Halves.{by_halves}
use Rattle.trees.proofs.Children.{Trees, more, trees_front, trees_back, total, total_append, children_trees, children_total}
use Rattle.trees.proofs.Built.{built_children_step, children_built}

module _ {R : List ℕ → List ℕ → Type 0} where
  -- places in a list are places behind more of them, and in front of more of them
  pub placed_behind : (us : List (List ℕ)) {ts vs : List (List ℕ)} → Placed R ts vs → Placed R ts (us ++ vs)
  placed_behind [] p = p
  placed_behind (u ∷ us) p = skip (placed_behind us p)

  pub placed_before : {ts us : List (List ℕ)} (vs : List (List ℕ)) → Placed R ts us → Placed R ts (us ++ vs)
  placed_before vs done = done
  placed_before vs (here r p) = here r (placed_before vs p)
  placed_before vs (skip p) = skip (placed_before vs p)

  pub placed_append : {ts us ts' us' : List (List ℕ)} → Placed R ts us → Placed R ts' us' → Placed R (ts ++ ts') (us ++ us')
  placed_append (done {us = us}) q = placed_behind us q
  placed_append (here r p) q = here r (placed_append p q)
  placed_append (skip p) q = skip (placed_append p q)

-- trees with at most k leaves together, or the first that passes k, with those before and after it
data Split (k : ℕ) : List (List ℕ) → Type 0 where
  within : {ts : List (List ℕ)} → total ts ≤ k → Split k ts
  passes : (ts : List (List ℕ)) (t : List ℕ) (us : List (List ℕ)) → total ts ≤ k → k < total ts + leaves t → Split k (ts ++ t ∷ us)

split : (k : ℕ) (ts : List (List ℕ)) → Split k ts
unfolding total
split k [] = within {ts = []} (omega arith)
split k (t ∷ ts) = step (dec_le (leaves t) k) (split (k - leaves t) ts)
  where
    later : {us : List (List ℕ)} → leaves t ≤ k → Split (k - leaves t) us → Split k (t ∷ us)
    later {us} p (within low) = within {ts = t ∷ us} (omega arith)
    later p (passes ts u us low high) = passes (t ∷ ts) u us (omega arith) (omega arith)

    step : Dec (leaves t ≤ k) → Split (k - leaves t) ts → Split k (t ∷ ts)
    step (yes p) s = later p s
    step (no p) s = passes [] t ts (omega arith) (omega arith)

-- us have places for any trees of height h with at most n leaves together
abbrev RoomFor : ℕ → ℕ → List (List ℕ) → Type 0
RoomFor h n us = (ts : List (List ℕ)) → Trees h ts → total ts ≤ n → Placed (FitsIn h) ts us

-- every tree has a leaf, so the only trees with no leaf together are none
room_none : (h : ℕ) {us : List (List ℕ)} → RoomFor h 0 us
unfolding total
room_none h [] is q = done
room_none h (t ∷ ts) is q = absurd (omega arith)

-- us take the trees before the first that passes half the leaves, u takes that one, and vs take those after it
room_step : (h n : ℕ) (us : List (List ℕ)) (u : List ℕ) (vs : List (List ℕ)) → RoomFor h (suc n / 2) us → Universal (suc n) h u → RoomFor h (n / 2) vs → RoomFor h (suc n) (us ++ u ∷ vs)
unfolding total Universal
room_step h n us u vs before at after ts = by (split (suc n / 2) ts)
  where
    last : (ts : List (List ℕ)) (t : List ℕ) (rest : List (List ℕ)) → suc n / 2 < total ts + leaves t → total (ts ++ t ∷ rest) ≤ suc n → Trees h (t ∷ rest) → Placed (FitsIn h) (t ∷ rest) (u ∷ vs)
    last ts t rest high q (more i is) =
        here (at t i (omega (arith, total_append ts (t ∷ rest)))) (after rest is (omega (arith, total_append ts (t ∷ rest))))

    by : {ts : List (List ℕ)} → Split (suc n / 2) ts → Trees h ts → total ts ≤ suc n → Placed (FitsIn h) ts (us ++ u ∷ vs)
    by (within {ts = ts} low) is q = placed_before (u ∷ vs) (before ts is low)
    by (passes ts t rest low high) is q =
        placed_append (before ts (trees_front ts (t ∷ rest) is) low) (last ts t rest high q (trees_back ts (t ∷ rest) is))

-- the children of S(n, h + 1) have places for any trees with at most n leaves together, where each S(n, h) is universal
room_built : (h : ℕ) → ((n : ℕ) → Universal (suc n) h (built (suc n) h)) → (n : ℕ) → RoomFor h n (built_children n h)
room_built h at =
    by_halves (λ (n : ℕ). RoomFor h n (built_children n h)) (room_none h)
    (λ n first last. rw (built_children_step n h) (room_step h n _ _ _ first (at n) last))

pub built_universal : (n h : ℕ) → Universal (suc n) h (built (suc n) h)
unfolding Universal FitsIn
built_universal n zero t i l = tt
built_universal n (suc h) t i l =
    rw (children_built n h)
    (room_built h (λ m. built_universal m h) (suc n) (children (suc h) t) (children_trees h t i)
    (omega (arith, children_total (suc h) t)))
