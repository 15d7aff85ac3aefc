-- The leaves whose equations have a variable are those of one span: a leaf between two that have it has it too. And how the spans are found, leaf by leaf.
-- Assumes nothing.
use mathlib.Core.Bool.{Bool, true, false}
use mathlib.Core.List.{List}
use mathlib.Core.Logic.{◌⊎◌, inl, inr, ⊎_elim}
use mathlib.Core.Path.{◌≡◌, refl, sym, ◌∙◌, ap, subst}
use Prim.Native.Nat.{ℕ, zero, suc, ◌+◌, ◌-◌, ◌≤◌, ◌<◌}
use native.Mathlib.Decide.{dec_le, dec_lt, ℕ_discrete}
use native.Mathlib.Numerals.{add-one}
use native.Mathlib.Omega.{arith}
use borrow.Author.Count.{below_more}
use lib.ListN.{length, get_or, set, take, length-set}
use lib.Seq.{get_or-set_same, get_or-set_other}
use Rattle.trees.specs.Tree.{leaves}
use Rattle.fixpoint.specs.Levels.{greatest_among}
use Rattle.system.specs.System.{sign}
use Rattle.model.specs.declared.layout.Model.{Model}
use Rattle.model.specs.Held.{system_in}
use Rattle.one_sided.specs.Explicit.{last_over, last_leaf, argument_at}
use Rattle.one_sided.proofs.Leaves.{last_over_is, argument_at_lem}
use Rattle.one_sided_leaves.specs.Leaves.{arguments_in, variables_in, Entry, Reads, Spans, Widened}
use Rattle.one_sided_leaves.proofs.Blocks.{last_leaf_here, last_leaf_same, last_leaf_end, last_over_here, last_over_same, argument_greatest, argument_least, argument_within, places_of_arguments}

-- up to the last leaf of a block, all leaves have this last leaf
last_leaf_from : (l : ℕ) (v : List ℕ) (f y n : ℕ) → last_leaf l v f ≡ y → f + n < y → last_leaf l v (f + n) ≡ y
last_leaf_from l v f y zero e h = let z : f + 0 ≡ f = omega arith in ap (last_leaf l v) z ∙ e
last_leaf_from l v f y (suc n) e h =
    let z : f + suc n ≡ suc (f + n) = omega arith in
    ap (last_leaf l v) z ∙ go (dec_lt (f + n) (length v)) (dec_lt l (get_or v (f + n) 0)) (last_leaf_from l v f y n e (omega arith))
  where
    go : Dec (f + n < length v) → Dec (l < get_or v (f + n) 0) → last_leaf l v (f + n) ≡ y → last_leaf l v (suc (f + n)) ≡ y
    go (no p) _ ih =
        let q : length v ≤ f + n = omega arith in
        let r : last_leaf l v (f + n) ≡ suc (f + n) = last_leaf_end l v (f + n) q in
        absurd (omega arith)
    go (yes p) (yes o) ih =
        let r : last_leaf l v (f + n) ≡ suc (f + n) = last_leaf_here l v (f + n) p o in
        absurd (omega arith)
    go (yes p) (no o) ih =
        let q : get_or v (f + n) 0 ≤ l = omega arith in
        sym (last_leaf_same l v (f + n) p q) ∙ ih

last_leaf_between : (l : ℕ) (v : List ℕ) (f i y : ℕ) → last_leaf l v f ≡ y → f ≤ i → i < y → last_leaf l v i ≡ y
last_leaf_between l v f i y e p q =
    let z : f + (i - f) ≡ i = omega arith in
    ap (last_leaf l v) (sym z) ∙ last_leaf_from l v f y (i - f) e (omega arith)

-- from the leaf on before which a block begins, all its leaves have this beginning
last_over_between : (l : ℕ) (v : List ℕ) (g i y : ℕ) → last_over l v g ≡ y → y ≤ i → i ≤ g → last_over l v i ≡ y
last_over_between l v zero i y e p q = let z : i ≡ 0 = omega arith in ap (last_over l v) z ∙ e
last_over_between l v (suc g) i y e p q = go (dec_le i g) (dec_lt l (get_or v g 0)) (λ same. last_over_between l v g i y same p)
  where
    go : Dec (i ≤ g) → Dec (l < get_or v g 0) → (last_over l v g ≡ y → i ≤ g → last_over l v i ≡ y) → last_over l v i ≡ y
    go (no h) _ ih = let z : i ≡ suc g = omega arith in ap (last_over l v) z ∙ e
    go (yes h) (yes o) ih =
        let r : last_over l v (suc g) ≡ suc g = last_over_here l v g o in
        absurd (omega arith)
    go (yes h) (no o) ih =
        let low : get_or v g 0 ≤ l = omega arith in
        ih (sym (last_over_same l v g low) ∙ e) h

-- the variables of an equation
module _ (file : List ℕ) (m : Model) (v : List ℕ) where
  abbrev signs : ℕ → Bool
  signs = sign (system_in file m)

  reads_bound : (i : ℕ) → Reads file m v i i
  reads_bound i = record { place = 0; inside = omega arith; is = refl }

  reads_argument : (i k y : ℕ) → k < m.levels → argument_at signs v i k ≡ y → Reads file m v i y
  reads_argument i k y h e = record { place = suc k; inside = omega arith; is = argument_at_lem signs v i m.levels k h ∙ e }

  -- a variable of an equation is its bound or an argument
  data Read (i y : ℕ) : Type 0 where
    bound : i ≡ y → Read i y
    argument : (k : ℕ) → k < m.levels → argument_at signs v i k ≡ y → Read i y

  read_by : (i y : ℕ) → Reads file m v i y → Read i y
  read_by i y r = go r.place r.inside r.is
    where
      go : (p : ℕ) → p < suc m.levels → get_or (variables_in file m v i) p 0 ≡ y → Read i y
      go zero h e = bound e
      go (suc k) h e = let q : k < m.levels = omega arith in argument k q (sym (argument_at_lem signs v i m.levels k q) ∙ e)

  -- the leaves from one that has a later variable up to this variable have it too
  reads_before : (f i y : ℕ) → Reads file m v f y → f ≤ i → i < y → Reads file m v i y
  reads_before f i y r p q = go (read_by f y r)
    where
      go : Read f y → Reads file m v i y
      go (bound e) = absurd (omega arith)
      go (argument k h e) = by_sign (signs k) refl
        where
          by_sign : (s : Bool) → signs k ≡ s → Reads file m v i y
          by_sign true s =
              let z : last_over (greatest_among signs k) v f ≡ y = sym (argument_greatest signs v f k s) ∙ e in
              absurd (omega (arith, (last_over_is (greatest_among signs k) v f).within))
          by_sign false s =
              let z : last_leaf (greatest_among signs k) v f ≡ y = sym (argument_least signs v f k s) ∙ e in
              reads_argument i k y h (argument_least signs v i k s ∙ last_leaf_between (greatest_among signs k) v f i y z p q)

  -- the leaves after a variable up to one that has it have it too
  reads_after : (g i y : ℕ) → Reads file m v g y → y < i → i ≤ g → Reads file m v i y
  reads_after g i y r p q = go (read_by g y r)
    where
      go : Read g y → Reads file m v i y
      go (bound e) = absurd (omega arith)
      go (argument k h e) = by_sign (signs k) refl
        where
          by_sign : (s : Bool) → signs k ≡ s → Reads file m v i y
          by_sign true s =
              let z : last_over (greatest_among signs k) v g ≡ y = sym (argument_greatest signs v g k s) ∙ e in
              let w : y ≤ i = omega arith in
              reads_argument i k y h (argument_greatest signs v i k s ∙ last_over_between (greatest_among signs k) v g i y z w q)
          by_sign false s =
              let z : last_leaf (greatest_among signs k) v g ≡ y = sym (argument_least signs v g k s) ∙ e in
              absurd (omega arith)

  -- the spans widened by the first p leaves
  pub record Spanned (from to : List ℕ) (p : ℕ) : Type 0 where
    pub has : (i y : ℕ) → i < p → Reads file m v i y → (get_or from y 0 ≤ i) × (i < get_or to y 0)
    pub low : (y : ℕ) → y ≤ leaves v → get_or from y 0 ≤ y
    pub own : (y : ℕ) → y < leaves v → y < get_or to y 0
    pub high : (y : ℕ) → y ≤ leaves v → get_or to y 0 ≤ leaves v
    pub first : (y : ℕ) → y ≤ leaves v → get_or from y 0 < y → Reads file m v (get_or from y 0) y
    pub last : (y i : ℕ) → y ≤ leaves v → y < i → get_or to y 0 ≡ suc i → Reads file m v i y

  -- at first each variable has the leaf of which it is the bound
  spanned_none : (from to : List ℕ) → ((y : ℕ) → y ≤ leaves v → get_or from y 0 ≡ y) → ((y : ℕ) → y < leaves v → get_or to y 0 ≡ suc y) → get_or to (leaves v) 0 ≡ leaves v
      → Spanned from to 0
  spanned_none from to f t e = record {
    has = λ i y h. absurd (omega arith);
    low = λ y h. omega (arith, f y h);
    own = λ y h. omega (arith, t y h);
    high = λ y h. highest y h (dec_lt y (leaves v));
    first = λ y h q. absurd (omega (arith, f y h));
    last = λ y i h q r. absurd (none y i h q r (dec_lt y (leaves v)));
  }
    where
      end : (y : ℕ) → y ≤ leaves v → (y < leaves v → ⊥) → get_or to y 0 ≡ leaves v
      end y h p = let z : y ≡ leaves v = omega arith in ap (λ (k : ℕ). get_or to k 0) z ∙ e

      highest : (y : ℕ) → y ≤ leaves v → Dec (y < leaves v) → get_or to y 0 ≤ leaves v
      highest y h (yes p) = omega (arith, t y p)
      highest y h (no p) = omega (arith, end y h p)

      none : (y i : ℕ) → y ≤ leaves v → y < i → get_or to y 0 ≡ suc i → Dec (y < leaves v) → ⊥
      none y i h q r (yes p) = omega (arith, t y p)
      none y i h q r (no p) = omega (arith, end y h p)

  -- one leaf more
  pub spanned_more : (from to from' to' args : List ℕ) (p : ℕ) → p < leaves v → take m.levels args ≡ arguments_in file m v p → Spanned from to p
      → Widened args m.levels p from to from' to' → Spanned from' to' (p + 1)
  spanned_more from to from' to' args p inside are s w = record {
    has = λ i y h r. reached i y h r (dec_lt i p);
    low = λ y h. omega (arith, w.lower y, s.low y h);
    own = λ y h. omega (arith, w.higher y, s.own y h);
    high = λ y h. ⊎_elim (λ (e : get_or to' y 0 ≡ get_or to y 0). omega (arith, s.high y h)) (λ (e : (get_or to' y 0 ≡ suc p) × Entry args m.levels y). omega (arith, e.0)) (w.stops y);
    first = λ y h q. begun y h q (w.starts y);
    last = λ y i h q e. ended y i h q e (w.stops y);
  }
    where
      here : (y : ℕ) → Entry args m.levels y → Reads file m v p y
      here y t = reads_argument p t.place y t.inside (sym (places_of_arguments signs v p m.levels args are t.place t.inside) ∙ t.is)

      now_has : (y : ℕ) → Read p y → (get_or from' y 0 ≤ p) × (p < get_or to' y 0)
      now_has y (bound e) =
          let z : y ≤ leaves v = omega arith in
          let q : y < leaves v = omega arith in
          (omega (arith, w.lower y, s.low y z), omega (arith, w.higher y, s.own y q))
      now_has y (argument k h e) =
          let z : get_or args k 0 ≡ y = places_of_arguments signs v p m.levels args are k h ∙ e in
          subst (λ (x : ℕ). (get_or from' x 0 ≤ p) × (p < get_or to' x 0)) z (w.has k h)

      reached : (i y : ℕ) → i < p + 1 → Reads file m v i y → Dec (i < p) → (get_or from' y 0 ≤ i) × (i < get_or to' y 0)
      reached i y h r (yes q) =
          let was = s.has i y q r in
          (omega (arith, w.lower y, was.0), omega (arith, w.higher y, was.1))
      reached i y h r (no q) =
          let z : p ≡ i = omega arith in
          subst (λ (x : ℕ). (get_or from' y 0 ≤ x) × (x < get_or to' y 0)) z (now_has y (read_by p y (subst (λ (x : ℕ). Reads file m v x y) (sym z) r)))

      begun : (y : ℕ) → y ≤ leaves v → get_or from' y 0 < y → (get_or from' y 0 ≡ get_or from y 0) ⊎ ((get_or from' y 0 ≡ p) × Entry args m.levels y) → Reads file m v (get_or from' y 0) y
      begun y h q (inl e) = subst (λ (x : ℕ). Reads file m v x y) (sym e) (s.first y h (omega arith))
      begun y h q (inr e) = subst (λ (x : ℕ). Reads file m v x y) (sym e.0) (here y e.1)

      ended : (y i : ℕ) → y ≤ leaves v → y < i → get_or to' y 0 ≡ suc i → (get_or to' y 0 ≡ get_or to y 0) ⊎ ((get_or to' y 0 ≡ suc p) × Entry args m.levels y) → Reads file m v i y
      ended y i h q r (inl e) = s.last y i h q (sym e ∙ r)
      ended y i h q r (inr e) =
          let z : p ≡ i = omega (arith, e.0) in
          subst (λ (x : ℕ). Reads file m v x y) z (here y e.1)

  -- after all leaves
  pub spanned_all : (from to : List ℕ) → Spanned from to (leaves v) → Spans file m v from to
  spanned_all from to s = record {
    within = s.high;
    has = s.has;
    only = λ i y h p q. go i y h p q (dec_lt i y) (dec_lt y i);
  }
    where
      go : (i y : ℕ) → y ≤ leaves v → get_or from y 0 ≤ i → i < get_or to y 0 → Dec (i < y) → Dec (y < i) → Reads file m v i y
      go i y h p q (yes b) _ = reads_before (get_or from y 0) i y (s.first y h (omega arith)) p b
      go i y h p q (no b) (yes a) =
          let z : get_or to y 0 ≡ suc (get_or to y 0 - 1) = omega arith in
          let r : y < get_or to y 0 - 1 = omega arith in
          let t : i ≤ get_or to y 0 - 1 = omega arith in
          reads_after (get_or to y 0 - 1) i y (s.last y (get_or to y 0 - 1) h r z) a t
      go i y h p q (no b) (no a) = let z : i ≡ y = omega arith in subst (λ (x : ℕ). Reads file m v i x) z (reads_bound i)

-- The numbers at the first k of some places moved towards x, in one direction.
pub record Moved (R : ℕ → ℕ → Type 0) (places : List ℕ) (x : ℕ) (old new : List ℕ) (k : ℕ) : Type 0 where
  pub order : (y : ℕ) → R (get_or old y 0) (get_or new y 0)
  pub reached : (j : ℕ) → j < k → R x (get_or new (get_or places j 0) 0)
  pub either : (y : ℕ) → (get_or new y 0 ≡ get_or old y 0) ⊎ ((get_or new y 0 ≡ x) × Entry places k y)

module _ (R : ℕ → ℕ → Type 0) (same : (a : ℕ) → R a a) (chain : (a b c : ℕ) → R a b → R b c → R a c) (places : List ℕ) (x : ℕ) (old : List ℕ) where
  pub moved_none : Moved R places x old old 0
  moved_none = record { order = λ y. same (get_or old y 0); reached = λ j h. absurd (omega arith); either = λ y. inl refl }

  entry_more : (k y : ℕ) → Entry places k y → Entry places (k + 1) y
  entry_more k y e = record { place = e.place; inside = omega (arith, e.inside); is = e.is }

  module _ (new : List ℕ) (k : ℕ) (w : Moved R places x old new k) where
    -- the next place has x already, or is beyond it
    pub moved_kept : R x (get_or new (get_or places k 0) 0) → Moved R places x old new (k + 1)
    moved_kept h = record {
      order = w.order;
      reached = λ j p. go j (dec_lt j k) p;
      either = λ y. ⊎_elim (λ e. inl e) (λ e. inr (e.0, entry_more k y e.1)) (w.either y);
    }
      where
        go : (j : ℕ) → Dec (j < k) → j < k + 1 → R x (get_or new (get_or places j 0) 0)
        go j (yes q) p = w.reached j q
        go j (no q) p = let z : k ≡ j = omega arith in subst (λ (i : ℕ). R x (get_or new (get_or places i 0) 0)) z h

    -- x is stored at the next place
    pub moved_stored : R (get_or new (get_or places k 0) 0) x → get_or places k 0 < length new → Moved R places x old (set new (get_or places k 0) x) (k + 1)
    moved_stored h room = record {
      order = λ y. order' y (ℕ_discrete y at);
      reached = λ j p. reached' j p (ℕ_discrete (get_or places j 0) at);
      either = λ y. either' y (ℕ_discrete y at);
    }
      where
        at : ℕ
        at = get_or places k 0

        is : (y : ℕ) → y ≡ at → get_or (set new at x) y 0 ≡ x
        is y e = ap (λ (i : ℕ). get_or (set new at x) i 0) e ∙ get_or-set_same new at x 0 room

        other : (y : ℕ) → (y ≡ at → ⊥) → get_or (set new at x) y 0 ≡ get_or new y 0
        other y n = get_or-set_other new at y x 0 n

        order' : (y : ℕ) → Dec (y ≡ at) → R (get_or old y 0) (get_or (set new at x) y 0)
        order' y (yes e) =
            rw (is y e) (chain (get_or old y 0) (get_or new y 0) x (w.order y) (subst (λ (i : ℕ). R (get_or new i 0) x) (sym e) h))
        order' y (no n) = rw (other y n) (w.order y)

        reached' : (j : ℕ) → j < k + 1 → Dec (get_or places j 0 ≡ at) → R x (get_or (set new at x) (get_or places j 0) 0)
        reached' j p (yes e) = rw (is (get_or places j 0) e) (same x)
        reached' j p (no n) = rw (other (get_or places j 0) n) (w.reached j (earlier (dec_lt j k)))
          where
            earlier : Dec (j < k) → j < k
            earlier (yes q) = q
            earlier (no q) = let z : j ≡ k = omega arith in absurd (n (ap (λ (i : ℕ). get_or places i 0) z))

        either' : (y : ℕ) → Dec (y ≡ at) → (get_or (set new at x) y 0 ≡ get_or old y 0) ⊎ ((get_or (set new at x) y 0 ≡ x) × Entry places (k + 1) y)
        either' y (yes e) = inr (is y e, record { place = k; inside = omega arith; is = sym e })
        either' y (no n) = ⊎_elim (λ e. inl (other y n ∙ e)) (λ e. inr (other y n ∙ e.0, entry_more k y e.1)) (w.either y)

abbrev pub Down : ℕ → ℕ → Type 0
Down a b = b ≤ a

abbrev pub Up : ℕ → ℕ → Type 0
Up a b = a ≤ b

pub down_same : (a : ℕ) → Down a a
down_same a = omega arith

pub down_chain : (a b c : ℕ) → Down a b → Down b c → Down a c
down_chain a b c p q = omega arith

pub up_same : (a : ℕ) → Up a a
up_same a = omega arith

pub up_chain : (a b c : ℕ) → Up a b → Up b c → Up a c
up_chain a b c p q = omega arith

pub moved_as : {R : ℕ → ℕ → Type 0} {places : List ℕ} {x : ℕ} {old new new' : List ℕ} {k : ℕ} → new' ≡ new → Moved R places x old new k → Moved R places x old new' k
moved_as e w = rw e w

-- where a span begins has moved down, and where it ends, up
pub widened : (args : List ℕ) (d i : ℕ) (from to from' to' : List ℕ) → Moved Down args i from from' d → Moved Up args (i + 1) to to' d → Widened args d i from to from' to'
widened args d i from to from' to' f t =
    let z : i + 1 ≡ suc i = omega arith in
    record {
      lower = f.order;
      higher = t.order;
      has = λ k h. (f.reached k h, omega (arith, t.reached k h));
      starts = f.either;
      stops = λ y. ⊎_elim (λ e. inl e) (λ e. inr (e.0 ∙ z, e.1)) (t.either y);
    }

-- the first y variables have the leaf of which they are the bound
pub record Owned (from to : List ℕ) (y : ℕ) : Type 0 where
  pub long_from : length from ≡ 1025
  pub long_to : length to ≡ 1025
  pub begins : (z : ℕ) → z < y → get_or from z 0 ≡ z
  pub ends : (z : ℕ) → z < y → get_or to z 0 ≡ suc z

pub owned_none : (from to : List ℕ) → length from ≡ 1025 → length to ≡ 1025 → Owned from to 0
owned_none from to f t = record { long_from = f; long_to = t; begins = λ z h. absurd (omega arith); ends = λ z h. absurd (omega arith) }

pub owned_more : (from to : List ℕ) (y : ℕ) → y < 1025 → Owned from to y → Owned (set from y y) (set to y (y + 1)) (y + 1)
owned_more from to y few o = record {
  long_from = simp length-set o.long_from;
  long_to = simp length-set o.long_to;
  begins = below_more (λ (z : ℕ). get_or (set from y y) z 0 ≡ z) y
      (λ z h. get_or-set_other from y z y 0 (λ e. omega arith) ∙ o.begins z h)
      (get_or-set_same from y y 0 (omega (arith, o.long_from)));
  ends = below_more (λ (z : ℕ). get_or (set to y (y + 1)) z 0 ≡ suc z) y
      (λ z h. get_or-set_other to y z (y + 1) 0 (λ e. omega arith) ∙ o.ends z h)
      (get_or-set_same to y (y + 1) 0 (omega (arith, o.long_to)) ∙ add-one y);
}

module _ (file : List ℕ) (m : Model) (v : List ℕ) (few : length v ≤ 1023) where
  -- the last variable is the bound of no leaf
  pub spanned_begun : (from to : List ℕ) → Owned from to (leaves v) → Spanned file m v (set from (leaves v) (leaves v)) (set to (leaves v) (leaves v)) 0
  spanned_begun from to o =
      spanned_none file m v (set from y y) (set to y y)
      (λ z h. own z h (dec_lt z y))
      (λ z h. get_or-set_other to y z y 0 (λ q. omega arith) ∙ o.ends z (omega arith))
      (get_or-set_same to y y 0 (omega (arith, o.long_to)))
    where
      y : ℕ
      y = leaves v

      own : (z : ℕ) → z ≤ y → Dec (z < y) → get_or (set from y y) z 0 ≡ z
      own z h (yes p) = get_or-set_other from y z y 0 (λ q. omega arith) ∙ o.begins z p
      own z h (no p) = let q : z ≡ y = omega arith in ap (λ (x : ℕ). get_or (set from y y) x 0) q ∙ get_or-set_same from y y 0 (omega (arith, o.long_from)) ∙ sym q

  -- the arguments are places of the spans, and these are small
  pub spanned_small : (from to args : List ℕ) (p : ℕ) → p ≤ length v → take m.levels args ≡ arguments_in file m v p → Spanned file m v from to p
      → (k : ℕ) → k < m.levels → (get_or args k 0 < 1025) × (get_or from (get_or args k 0) 0 ≤ 1024) × (get_or to (get_or args k 0) 0 ≤ 1024)
  spanned_small from to args p h are s k q =
      let z : get_or args k 0 ≤ leaves v = omega (arith, places_of_arguments (signs file m v) v p m.levels args are k q, argument_within (signs file m v) v p k h) in
      (omega arith, omega (arith, s.low (get_or args k 0) z), omega (arith, s.high (get_or args k 0) z))
