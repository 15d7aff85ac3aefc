-- One pass over the gaps of u tells whether t fits in u.
-- By the height: while the pass goes over one child of u, only the child of t whose leaf was placed last matters, and the pass is that child's own;
-- at the gap between two children of u it goes on to the next child of t if this one was finished, and else back to its first leaf.
-- Assumes nothing.
use mathlib.Core.Bool.{Bool, true, false, cond}
use mathlib.Core.List.{List, [], ◌∷◌, ◌++◌}
use mathlib.Core.Logic.{◌⊎◌, inl, inr}
use mathlib.Core.Path.{◌≡◌, refl, sym, ◌∙◌, ap, ap₂, subst}
use Prim.Native.Nat.{ℕ, zero, suc, ◌+◌, ◌≤◌, ◌<◌}
use native.Mathlib.Decide.{dec_le}
use native.Mathlib.Nat.{add-suc, add-zero, zero-add}
use native.Mathlib.Omega.{arith}
use borrow.Author.Tests.{eq-eqb, ne_eqb, lt-ltb, le-ltb, eqb-true, eqb-false}
use lib.Dec.{eqb, ltb}
use lib.ListN.{length, get_or, take, drop, length-append, take-append-drop, get_or-append}
use lib.Seq.{get_or-append-add, get_or-append_seam, take-suc, take-length}
use Rattle.trees.specs.Tree.{IsTree, leaf, gap, children, grow}
use Rattle.trees.proofs.Children.{Trees, more, children_some, height_zero, children_trees, grow_children}
use Rattle.listing.specs.Tested.{place_all, fits}
use Rattle.listing.specs.Scan.{back, scan_step, scan, scan_fits}

-- three cases
data Order3 (x y : ℕ) : Type 0 where
  lower : x < y → Order3 x y
  equal : x ≡ y → Order3 x y
  higher : y < x → Order3 x y

order3 : (x y : ℕ) → Order3 x y
order3 x y = go (dec_le (suc x) y) (dec_le (suc y) x)
  where
    go : Dec (x < y) → Dec (y < x) → Order3 x y
    go (yes p) d = lower p
    go (no p) (yes q) = higher q
    go (no p) (no q) = equal (omega arith)

-- one step

module _ (t : List ℕ) (x i : ℕ) where
  pub step_done : i ≡ length t → scan_step t x i ≡ i
  unfolding scan_step
  step_done e = rw (eq-eqb i (length t) e)

  pub step_next : i < length t → x ≡ get_or t i 0 → scan_step t x i ≡ suc i
  unfolding scan_step
  step_next b e = rw (ne_eqb i (length t) (omega arith), eq-eqb x (get_or t i 0) e)

  pub step_back : i < length t → get_or t i 0 < x → scan_step t x i ≡ back t x i
  unfolding scan_step
  step_back b l = rw (ne_eqb i (length t) (omega arith), ne_eqb x (get_or t i 0) (omega arith), lt-ltb (get_or t i 0) x l)

  pub step_wait : i < length t → x < get_or t i 0 → scan_step t x i ≡ i
  unfolding scan_step
  step_wait b l = rw (ne_eqb i (length t) (omega arith), ne_eqb x (get_or t i 0) (omega arith), le-ltb (get_or t i 0) x (omega arith))

back_low : (t : List ℕ) (x i : ℕ) → back t x i ≤ i
unfolding back
back_low t x zero = omega arith
back_low t x (suc i) = go (ltb (get_or t i 0) x) (back_low t x i)
  where
    go : (b : Bool) → back t x i ≤ i → cond b (back t x i) (suc i) ≤ suc i
    go true l = omega arith
    go false l = omega arith

pub step_bound : (t : List ℕ) (x i : ℕ) → i ≤ length t → scan_step t x i ≤ length t
step_bound t x i b = go (dec_le (suc i) (length t)) (order3 x (get_or t i 0))
  where
    go : Dec (i < length t) → Order3 x (get_or t i 0) → scan_step t x i ≤ length t
    go (no p) o = omega (arith, step_done t x i (omega arith))
    go (yes p) (lower l) = omega (arith, step_wait t x i p l)
    go (yes p) (equal e) = omega (arith, step_next t x i p e)
    go (yes p) (higher l) = omega (arith, step_back t x i p l, back_low t x i)

pub scan_bound : (t us : List ℕ) (i : ℕ) → i ≤ length t → scan t i us ≤ length t
unfolding scan
scan_bound t [] i b = b
scan_bound t (x ∷ us) i b = scan_bound t us (scan_step t x i) (step_bound t x i b)

-- once all leaves are placed they stay so
pub scan_done : (t us : List ℕ) → scan t (length t) us ≡ length t
unfolding scan
scan_done t [] = refl
scan_done t (x ∷ us) = rw (step_done t x (length t) refl) (scan_done t us)

-- first over some gaps, then over the others
pub scan_append : (t us vs : List ℕ) (i : ℕ) → scan t i (us ++ vs) ≡ scan t (scan t i us) vs
unfolding scan
scan_append t [] vs i = refl
scan_append t (x ∷ us) vs i = scan_append t us vs (scan_step t x i)

-- s is a part of t, from leaf p on, under one node of height h
record Part (h : ℕ) (t : List ℕ) (p : ℕ) (s : List ℕ) : Type 0 where
  inside : p + length s ≤ length t
  at : (i : ℕ) → i < length s → get_or t (p + i) 0 ≡ get_or s i 0
  start : (x : ℕ) → x ≤ h → back t x p ≡ p
  stop : (p + length s ≡ length t) ⊎ (h < get_or t (p + length s) 0)

-- in a part, over gaps of its height, the pass is the part's own
module _ {h : ℕ} {t : List ℕ} {p : ℕ} {s : List ℕ} (part : Part h t p s) where
  back_part : (x i : ℕ) → x ≤ h → i ≤ length s → back t x (p + i) ≡ p + back s x i
  unfolding back
  back_part x zero b l = ap (back t x) (add-zero p) ∙ part.start x b ∙ sym (add-zero p)
  back_part x (suc i) b l =
      ap (back t x) (add-suc p i) ∙ ap (λ (g : ℕ). cond (ltb g x) (back t x (p + i)) (suc (p + i))) (part.at i (omega arith))
      ∙ go (ltb (get_or s i 0) x) (back_part x i b (omega arith))
    where
      go : (c : Bool) → back t x (p + i) ≡ p + back s x i → cond c (back t x (p + i)) (suc (p + i)) ≡ p + cond c (back s x i) (suc i)
      go true e = e
      go false e = omega arith

  step_part : (x i : ℕ) → x ≤ h → i ≤ length s → scan_step t x (p + i) ≡ p + scan_step s x i
  step_part x i b l = go (dec_le (suc i) (length s)) (order3 x (get_or s i 0))
    where
      at_stop : i ≡ length s → (p + length s ≡ length t) ⊎ (h < get_or t (p + length s) 0) → Dec (p + i < length t) → scan_step t x (p + i) ≡ p + i
      at_stop e (inl q) d = step_done t x (p + i) (omega arith)
      at_stop e (inr q) (yes r) = step_wait t x (p + i) r (let here : p + length s ≡ p + i = omega arith in let q' : h < get_or t (p + i) 0 = subst (λ (n : ℕ). h < get_or t n 0) here q in omega arith)
      at_stop e (inr q) (no r) = step_done t x (p + i) (omega (arith, part.inside))

      go : Dec (i < length s) → Order3 x (get_or s i 0) → scan_step t x (p + i) ≡ p + scan_step s x i
      go (no q) o = at_stop (omega arith) part.stop (dec_le (suc (p + i)) (length t)) ∙ ap (λ (n : ℕ). p + n) (sym (step_done s x i (omega arith)))
      go (yes q) (lower r) = step_wait t x (p + i) (omega (arith, part.inside)) (omega (arith, part.at i q)) ∙ ap (λ (n : ℕ). p + n) (sym (step_wait s x i q r))
      go (yes q) (equal r) = step_next t x (p + i) (omega (arith, part.inside)) (omega (arith, part.at i q)) ∙ omega (arith, step_next s x i q r)
      go (yes q) (higher r) =
          step_back t x (p + i) (omega (arith, part.inside)) (omega (arith, part.at i q)) ∙ back_part x i b l ∙ ap (λ (n : ℕ). p + n) (sym (step_back s x i q r))

  scan_part : {us : List ℕ} → IsTree h us → (i : ℕ) → i ≤ length s → scan t (p + i) us ≡ p + scan s i us
  unfolding scan
  scan_part leaf i l = refl
  scan_part (gap {g} {gs} low high is) i l =
      ap (λ (n : ℕ). scan t n gs) (step_part g i high l) ∙ scan_part is (scan_step s g i) (step_bound s g i l)

-- t, of height h + 1, from its leaf p on, is the children cs
record Rest (h : ℕ) (t : List ℕ) (p : ℕ) (cs : List (List ℕ)) : Type 0 where
  from : (i : ℕ) → get_or t (p + i) 0 ≡ get_or (grow (suc h) cs) i 0
  long : p + length (grow (suc h) cs) ≡ length t
  start : (x : ℕ) → x ≤ suc h → back t x p ≡ p

tree_at : {h : ℕ} {t : List ℕ} → IsTree h t → (i : ℕ) → i < length t → get_or t i 0 ≤ h
tree_at leaf i b = absurd (omega arith)
tree_at (gap low high is) zero b = high
tree_at (gap low high is) (suc i) b = tree_at is i (omega arith)

module _ {h : ℕ} {t : List ℕ} {p : ℕ} {c : List ℕ} where
  rest_inside : (cs : List (List ℕ)) → Rest h t p (c ∷ cs) → p + length c ≤ length t
  unfolding grow
  rest_inside [] r = omega (arith, r.long)
  rest_inside (q ∷ cs) r = omega (arith, r.long, length-append c (suc h ∷ grow (suc h) (q ∷ cs)))

  rest_all : Rest h t p (c ∷ []) → p + length c ≡ length t
  unfolding grow
  rest_all r = r.long

  rest_more : (q : List ℕ) (cs : List (List ℕ)) → Rest h t p (c ∷ q ∷ cs) → p + length c < length t
  unfolding grow
  rest_more q cs r = omega (arith, r.long, length-append c (suc h ∷ grow (suc h) (q ∷ cs)))

  -- the gap behind the first child
  rest_gap : (q : List ℕ) (cs : List (List ℕ)) → Rest h t p (c ∷ q ∷ cs) → get_or t (p + length c) 0 ≡ suc h
  unfolding grow
  rest_gap q cs r = r.from (length c) ∙ get_or-append_seam c (suc h) (grow (suc h) (q ∷ cs)) 0

  rest_at : (cs : List (List ℕ)) → Rest h t p (c ∷ cs) → (i : ℕ) → i < length c → get_or t (p + i) 0 ≡ get_or c i 0
  unfolding grow
  rest_at [] r i b = r.from i
  rest_at (q ∷ cs) r i b = r.from i ∙ get_or-append c (suc h ∷ grow (suc h) (q ∷ cs)) 0 i b

  rest_part : (cs : List (List ℕ)) → Rest h t p (c ∷ cs) → Part h t p c
  unfolding grow
  rest_part [] r = record { inside = rest_inside [] r; at = rest_at [] r; start = λ x l. r.start x (omega arith); stop = inl r.long }
  rest_part (q ∷ cs) r =
      record { inside = rest_inside (q ∷ cs) r; at = rest_at (q ∷ cs) r; start = λ x l. r.start x (omega arith); stop = inr (omega (arith, rest_gap q cs r)) }

  rest_next : (q : List ℕ) (cs : List (List ℕ)) → Rest h t p (c ∷ q ∷ cs) → Rest h t (suc (p + length c)) (q ∷ cs)
  unfolding grow back
  rest_next q cs r =
      record {
        from = λ i. let place : suc (p + length c) + i ≡ p + (length c + suc i) = omega arith in
            ap (λ (n : ℕ). get_or t n 0) place ∙ r.from (length c + suc i) ∙ get_or-append-add c (suc h ∷ grow (suc h) (q ∷ cs)) (suc i) 0;
        long = omega (arith, r.long, length-append c (suc h ∷ grow (suc h) (q ∷ cs)));
        start = λ x l. ap (λ (b : Bool). cond b (back t x (p + length c)) (suc (p + length c))) (le-ltb (get_or t (p + length c) 0) x (omega (arith, rest_gap q cs r)));
      }

  -- from inside the first child, back to its first leaf
  rest_back : (cs : List (List ℕ)) → Rest h t p (c ∷ cs) → IsTree h c → (i : ℕ) → i ≤ length c → back t (suc h) (p + i) ≡ p
  unfolding back
  rest_back cs r is zero b = ap (back t (suc h)) (add-zero p) ∙ r.start (suc h) (omega arith)
  rest_back cs r is (suc i) b =
      ap (back t (suc h)) (add-suc p i)
      ∙ ap (λ (z : Bool). cond z (back t (suc h) (p + i)) (suc (p + i))) (lt-ltb (get_or t (p + i) 0) (suc h) (omega (arith, rest_at cs r i (omega arith), tree_at is i (omega arith))))
      ∙ rest_back cs r is i (omega arith)

-- nothing is left to place
place_none : (test : List ℕ → List ℕ → Bool) (us : List (List ℕ)) → place_all test [] us ≡ true
unfolding place_all
place_none test [] = refl
place_none test (u ∷ us) = refl

-- over the children of u
module _ (h : ℕ) (t : List ℕ) (below : (c d : List ℕ) → IsTree h c → IsTree h d → fits h c d ≡ scan_fits c d) where
  -- the pass over one child of u
  child : {c d : List ℕ} {p : ℕ} (cs : List (List ℕ)) → Rest h t p (c ∷ cs) → IsTree h d → scan t p d ≡ p + scan c 0 d
  child {c} {d} {p} cs r j = ap (λ (n : ℕ). scan t n d) (sym (add-zero p)) ∙ scan_part (rest_part cs r) j 0 (omega arith)

  finished : {c d : List ℕ} → IsTree h c → IsTree h d → fits h c d ≡ true → scan c 0 d ≡ length c
  unfolding scan_fits
  finished {c} {d} i j e = eqb-true (scan c 0 d) (length c) (sym (below c d i j) ∙ e)

  unfinished : {c d : List ℕ} → IsTree h c → IsTree h d → fits h c d ≡ false → scan c 0 d < length c
  unfolding scan_fits
  unfinished {c} {d} i j e = omega (arith, eqb-false (scan c 0 d) (length c) (sym (below c d i j) ∙ e), scan_bound c d 0 (omega arith))

  -- the last child of u
  last_child : {c d : List ℕ} {p : ℕ} → IsTree h c → IsTree h d → (b : Bool) → fits h c d ≡ b → (cs : List (List ℕ)) → Rest h t p (c ∷ cs)
      → place_all (fits h) (cond b cs (c ∷ cs)) [] ≡ eqb (p + scan c 0 d) (length t)
  unfolding place_all grow
  last_child {c} {d} {p} i j true e [] r = sym (eq-eqb (p + scan c 0 d) (length t) (omega (arith, finished i j e, r.long)))
  last_child {c} {d} {p} i j true e (q ∷ cs) r = sym (ne_eqb (p + scan c 0 d) (length t) (omega (arith, finished i j e, rest_more q cs r)))
  last_child {c} {d} {p} i j false e [] r = sym (ne_eqb (p + scan c 0 d) (length t) (omega (arith, unfinished i j e, r.long)))
  last_child {c} {d} {p} i j false e (q ∷ cs) r = sym (ne_eqb (p + scan c 0 d) (length t) (omega (arith, unfinished i j e, rest_more q cs r)))

  -- a child of u with others behind it, whose gaps are gs
  next_child : {c d : List ℕ} {p : ℕ} (vs : List (List ℕ)) (gs : List ℕ) → IsTree h d
      → ((p : ℕ) (c : List ℕ) (cs : List (List ℕ)) → Trees h (c ∷ cs) → Rest h t p (c ∷ cs) → place_all (fits h) (c ∷ cs) vs ≡ eqb (scan t p gs) (length t))
      → (b : Bool) → fits h c d ≡ b → (cs : List (List ℕ)) → Trees h (c ∷ cs) → Rest h t p (c ∷ cs)
      → place_all (fits h) (cond b cs (c ∷ cs)) vs ≡ eqb (scan t (scan_step t (suc h) (p + scan c 0 d)) gs) (length t)
  next_child {c} {d} {p} vs gs j go_on true e [] (more i is) r =
      let all : p + scan c 0 d ≡ length t = omega (arith, finished i j e, rest_all r) in
      place_none (fits h) vs
      ∙ sym (eq-eqb (scan t (scan_step t (suc h) (p + scan c 0 d)) gs) (length t)
      (ap (λ (n : ℕ). scan t n gs) (step_done t (suc h) (p + scan c 0 d) all ∙ all) ∙ scan_done t gs))
  next_child {c} {d} {p} vs gs j go_on true e (q ∷ cs) (more i is) r =
      let end : p + scan c 0 d ≡ p + length c = ap (λ (n : ℕ). p + n) (finished i j e) in
      go_on (suc (p + length c)) q cs is (rest_next q cs r)
      ∙ ap (λ (n : ℕ). eqb (scan t n gs) (length t)) (sym (ap (scan_step t (suc h)) end ∙ step_next t (suc h) (p + length c) (rest_more q cs r) (sym (rest_gap q cs r))))
  next_child {c} {d} {p} vs gs j go_on false e cs (more i is) r =
      let early : scan c 0 d < length c = unfinished i j e in
      go_on p c cs (more i is) r
      ∙ ap (λ (n : ℕ). eqb (scan t n gs) (length t))
      (sym (step_back t (suc h) (p + scan c 0 d) (omega (arith, rest_inside cs r)) (omega (arith, rest_at cs r (scan c 0 d) early, tree_at i (scan c 0 d) early))
      ∙ rest_back cs r i (scan c 0 d) (omega arith)))

  over : (d : List ℕ) (ds : List (List ℕ)) → Trees h (d ∷ ds) → (p : ℕ) (c : List ℕ) (cs : List (List ℕ)) → Trees h (c ∷ cs) → Rest h t p (c ∷ cs)
      → place_all (fits h) (c ∷ cs) (d ∷ ds) ≡ eqb (scan t p (grow (suc h) (d ∷ ds))) (length t)
  unfolding place_all grow scan
  over d [] (more j js) p c cs (more i is) r =
      last_child i j (fits h c d) refl cs r ∙ ap (λ (n : ℕ). eqb n (length t)) (sym (child cs r j))
  over d (v ∷ vs) (more j js) p c cs is r =
      next_child (v ∷ vs) (grow (suc h) (v ∷ vs)) j (over v vs js) (fits h c d) refl cs is r
      ∙ ap (λ (n : ℕ). eqb n (length t)) (sym (scan_append t d (suc h ∷ grow (suc h) (v ∷ vs)) p ∙ ap (λ (n : ℕ). scan t (scan_step t (suc h) n) (grow (suc h) (v ∷ vs))) (child cs r j)))

rest_start : (h : ℕ) (t : List ℕ) (cs : List (List ℕ)) → grow (suc h) cs ≡ t → Rest h t 0 cs
unfolding back
rest_start h t cs e =
    record { from = λ i. rw e (ap (λ (n : ℕ). get_or t n 0) (zero-add i)); long = rw e (zero-add (length t)); start = λ x l. refl }

-- the pass tells whether t fits in u
pub scan_right : (h : ℕ) (t u : List ℕ) → IsTree h t → IsTree h u → fits h t u ≡ scan_fits t u
unfolding fits scan_fits scan
scan_right zero t u i j = rw (height_zero i, height_zero j)
scan_right (suc h) t u i j =
    let ts = children_some (suc h) t in
    let us = children_some (suc h) u in
    ap₂ (place_all (fits h)) ts.are us.are
    ∙ over h t (scan_right h) us.first us.rest (subst (Trees h) us.are (children_trees h u j)) 0 ts.first ts.rest (subst (Trees h) ts.are (children_trees h t i))
    (rest_start h t (ts.first ∷ ts.rest) (ap (grow (suc h)) (sym ts.are) ∙ grow_children (suc h) t))
    ∙ ap (λ (l : List ℕ). eqb (scan t 0 l) (length t)) (ap (grow (suc h)) (sym us.are) ∙ grow_children (suc h) u)

-- for a loop: what a step, a turn back and an early end come to

pub scan_next : (t u : List ℕ) (k : ℕ) → k < length u → scan t 0 (take (suc k) u) ≡ scan_step t (get_or u k 0) (scan t 0 (take k u))
unfolding scan
scan_next t u k b = ap (scan t 0) (take-suc u k 0 b) ∙ scan_append t (take k u) (get_or u k 0 ∷ []) 0

pub scan_all : (t u : List ℕ) → scan t 0 (take (length u) u) ≡ scan t 0 u
scan_all t u = ap (scan t 0) (take-length u)

pub scan_early : (t u : List ℕ) (k : ℕ) → scan t 0 (take k u) ≡ length t → scan_fits t u ≡ true
unfolding scan_fits
scan_early t u k e =
    eq-eqb (scan t 0 u) (length t)
    (ap (scan t 0) (sym (take-append-drop k u)) ∙ scan_append t (take k u) (drop k u) 0 ∙ ap (λ (n : ℕ). scan t n (drop k u)) e ∙ scan_done t (drop k u))

pub scan_late : (t u : List ℕ) → (scan t 0 u ≡ length t → ⊥) → scan_fits t u ≡ false
unfolding scan_fits
scan_late t u ne = ne_eqb (scan t 0 u) (length t) ne

pub back_first : (t : List ℕ) (x : ℕ) → back t x 0 ≡ 0
unfolding back
back_first t x = refl

pub back_more : (t : List ℕ) (x i : ℕ) → get_or t i 0 < x → back t x (suc i) ≡ back t x i
unfolding back
back_more t x i b = rw (lt-ltb (get_or t i 0) x b)

pub back_here : (t : List ℕ) (x i : ℕ) → x ≤ get_or t i 0 → back t x (suc i) ≡ suc i
unfolding back
back_here t x i b = rw (le-ltb (get_or t i 0) x b)
