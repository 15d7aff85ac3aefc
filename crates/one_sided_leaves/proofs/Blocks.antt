-- Blocks of leaves between gaps: where they begin and end, by the links from gap to gap, and the arguments that are read off them.
-- Assumes nothing.
use mathlib.Core.Bool.{Bool, true, false, cond}
use mathlib.Core.List.{List, [], ◌∷◌}
use mathlib.Core.Path.{◌≡◌, refl, sym, ◌∙◌, ap}
use Prim.Native.Nat.{ℕ, zero, suc, ◌+◌, ◌-◌, ◌≤◌, ◌<◌}
use native.Mathlib.Decide.{dec_le}
use native.Mathlib.Numerals.{add-one}
use native.Mathlib.Omega.{arith}
use borrow.Author.Count.{below_more}
use borrow.Author.Tests.{lt-ltb, le-ltb, ltb-false}
use lib.Dec.{ltb}
use lib.ListN.{length, get_or, set, take, drop, drop_of_length-le, length-drop, length-set}
use lib.Seq.{get_or-set_same, get_or-set_other, drop-cons, drop-drop, ext_get_or, get_or-take, length-take-le}
use Rattle.trees.specs.Tree.{leaves}
use Rattle.fixpoint.specs.Levels.{greatest_among}
use Rattle.fixpoint.proofs.Levels.{levels_sum, greatest_at_least, greatest_at_greatest}
use Rattle.one_sided.specs.Explicit.{last_over, first_over, last_leaf, argument_at, arguments_of}
use Rattle.one_sided.proofs.Leaves.{last_over_is, first_over_is, argument_at_lem, argument_count}
use Rattle.one_sided_leaves.specs.Leaves.{Starts, Ends}

-- the last leaf of a block, by the gap after leaf i + 1

pub last_leaf_here : (l : ℕ) (v : List ℕ) (i : ℕ) → i < length v → l < get_or v i 0 → last_leaf l v i ≡ suc i
unfolding first_over
last_leaf_here l v i h o =
    let z : i + 0 ≡ i = omega arith in
    rw (drop-cons v i 0 h, lt-ltb l (get_or v i 0) o) (ap suc z)

pub last_leaf_same : (l : ℕ) (v : List ℕ) (i : ℕ) → i < length v → get_or v i 0 ≤ l → last_leaf l v i ≡ last_leaf l v (suc i)
unfolding first_over
last_leaf_same l v i h o =
    let z : i + suc (first_over l (drop (suc i) v)) ≡ suc i + first_over l (drop (suc i) v) = omega arith in
    rw (drop-cons v i 0 h, le-ltb l (get_or v i 0) o) (ap suc z)

pub last_leaf_end : (l : ℕ) (v : List ℕ) (i : ℕ) → length v ≤ i → last_leaf l v i ≡ suc i
unfolding first_over
last_leaf_end l v i h =
    let z : i + 0 ≡ i = omega arith in
    rw (drop_of_length-le v {i = i} h) (ap suc z)

pub last_leaf_within : (l : ℕ) (v : List ℕ) (i : ℕ) → i ≤ length v → last_leaf l v i ≤ leaves v
last_leaf_within l v i h = omega (arith, (first_over_is l (drop i v)).within, length-drop i v)

-- up to the first gap over l there is none over a smaller h but those before the first over h
over_split : (h l : ℕ) (gs : List ℕ) → h ≤ l → first_over l gs ≡ first_over h gs + first_over l (drop (first_over h gs) gs)
unfolding first_over
over_split h l [] p = refl
over_split h l (g ∷ gs) p = go (ltb h g) refl (over_split h l gs p)
  where
    go : (b : Bool) → ltb h g ≡ b → first_over l gs ≡ first_over h gs + first_over l (drop (first_over h gs) gs)
        → cond (ltb l g) 0 (suc (first_over l gs)) ≡ cond (ltb h g) 0 (suc (first_over h gs)) + first_over l (drop (cond (ltb h g) 0 (suc (first_over h gs))) (g ∷ gs))
    go true e ih = rw e (omega arith)
    go false e ih = rw (e, le-ltb l g (omega (arith, ltb-false h g e))) (omega (arith, ih))

-- a block ends where the block of its part's last leaf ends
last_leaf_split : (h l : ℕ) (v : List ℕ) (j k : ℕ) → h ≤ l → suc k ≡ last_leaf h v j → last_leaf l v k ≡ last_leaf l v j
last_leaf_split h l v j k p e =
    let gs = drop j v in
    let z : k ≡ j + first_over h gs = omega arith in
    let same : first_over l (drop (first_over h gs) gs) ≡ first_over l (drop k v) = ap (first_over l) (drop-drop (first_over h gs) j v ∙ ap (λ (i : ℕ). drop i v) (sym z)) in
    omega (arith, over_split h l gs p, same)

-- the next gap over a gap that is not over l is in the same block
pub last_leaf_over : (l : ℕ) (v : List ℕ) (j k : ℕ) → j < length v → get_or v j 0 ≤ l → suc k ≡ last_leaf (get_or v j 0) v (suc j) → (j < k) × (k ≤ length v) × (last_leaf l v j ≡ last_leaf l v k)
last_leaf_over l v j k h low e =
    let within : last_leaf (get_or v j 0) v (suc j) ≤ leaves v = last_leaf_within (get_or v j 0) v (suc j) h in
    (omega arith, omega arith, last_leaf_same l v j h low ∙ sym (last_leaf_split (get_or v j 0) l v (suc j) k low e))

-- where a block begins

pub last_over_here : (l : ℕ) (v : List ℕ) (i : ℕ) → l < get_or v i 0 → last_over l v (suc i) ≡ suc i
unfolding last_over
last_over_here l v i o = rw (lt-ltb l (get_or v i 0) o)

pub last_over_same : (l : ℕ) (v : List ℕ) (i : ℕ) → get_or v i 0 ≤ l → last_over l v (suc i) ≡ last_over l v i
unfolding last_over
last_over_same l v i o = rw (le-ltb l (get_or v i 0) o)

pub last_over_none : (l : ℕ) (v : List ℕ) → last_over l v 0 ≡ 0
unfolding last_over
last_over_none l v = refl

-- a block begins where the block begins that its part begins in
last_over_split : (h l : ℕ) (v : List ℕ) (j : ℕ) → h ≤ l → last_over l v (last_over h v j) ≡ last_over l v j
unfolding last_over
last_over_split h l v zero p = refl
last_over_split h l v (suc j) p = go (ltb h (get_or v j 0)) refl (last_over_split h l v j p)
  where
    go : (b : Bool) → ltb h (get_or v j 0) ≡ b → last_over l v (last_over h v j) ≡ last_over l v j
        → last_over l v (cond (ltb h (get_or v j 0)) (suc j) (last_over h v j)) ≡ cond (ltb l (get_or v j 0)) (suc j) (last_over l v j)
    go true e ih = rw e
    go false e ih = rw (e, le-ltb l (get_or v j 0) (omega (arith, ltb-false h (get_or v j 0) e))) ih

-- the gap before j that is over gap j, which is not over l, is in the same block
pub last_over_back : (l : ℕ) (v before : List ℕ) (i j : ℕ) → Starts v before i → 0 < j → j ≤ i → get_or v (j - 1) 0 ≤ l → (get_or before j 0 < j) × (last_over l v j ≡ last_over l v (get_or before j 0))
last_over_back l v before i j s p h low =
    let z : suc (j - 1) ≡ j = omega arith in
    let e : get_or before j 0 ≡ last_over (get_or v (j - 1) 0) v (j - 1) = ap (λ (k : ℕ). get_or before k 0) (sym z) ∙ s (j - 1) (omega arith) in (
      omega (arith, e, (last_over_is (get_or v (j - 1) 0) v (j - 1)).within),
      ap (last_over l v) (sym z) ∙ last_over_same l v (j - 1) low ∙ sym (ap (last_over l v) e ∙ last_over_split (get_or v (j - 1) 0) l v (j - 1) low),
    )

pub last_over_at : (l : ℕ) (v : List ℕ) (j : ℕ) → 0 < j → l < get_or v (j - 1) 0 → last_over l v j ≡ j
last_over_at l v j p o =
    let z : suc (j - 1) ≡ j = omega arith in
    ap (last_over l v) (sym z) ∙ last_over_here l v (j - 1) o ∙ z

-- one gap more has its link

pub ends_more : (v over : List ℕ) (i x : ℕ) → i < length over → Ends v over (suc i) → x ≡ last_leaf (get_or v i 0) v (i + 1) → Ends v (set over i (x - 1)) i
ends_more v over i x room o e j h l = go (dec_le j i)
  where
    go : Dec (j ≤ i) → suc (get_or (set over i (x - 1)) j 0) ≡ last_leaf (get_or v j 0) v (suc j)
    go (yes p) =
        let z : j ≡ i = omega arith in
        let q : i + 1 ≡ suc i = omega arith in
        let up : x ≡ last_leaf (get_or v i 0) v (suc i) = e ∙ ap (last_leaf (get_or v i 0) v) q in
        rw z (ap suc (get_or-set_same over i (x - 1) 0 room) ∙ omega (arith, up))
    go (no p) = ap suc (get_or-set_other over i j (x - 1) 0 (λ z. omega arith)) ∙ o j (omega arith) l

pub starts_more : (v before : List ℕ) (i x : ℕ) → i + 1 < length before → Starts v before i → x ≡ last_over (get_or v i 0) v i → Starts v (set before (i + 1) x) (i + 1)
starts_more v before i x room s e =
    below_more _ _
    (λ j p. get_or-set_other before (i + 1) (suc j) x 0 (λ z. omega arith) ∙ s j p)
    (ap (λ (k : ℕ). get_or (set before (i + 1) x) k 0) (sym (add-one i)) ∙ get_or-set_same before (i + 1) x 0 room ∙ e)

-- a level's height is at most its number
pub height_within : (sign : ℕ → Bool) (k : ℕ) → greatest_among sign k ≤ k
height_within sign k = omega (arith, levels_sum sign k)

module _ (sign : ℕ → Bool) (v : List ℕ) where
  pub argument_greatest : (i k : ℕ) → sign k ≡ true → argument_at sign v i k ≡ last_over (greatest_among sign k) v i
  argument_greatest i k e = rw e

  pub argument_least : (i k : ℕ) → sign k ≡ false → argument_at sign v i k ≡ last_leaf (greatest_among sign k) v i
  argument_least i k e = rw e

  -- an argument is one of the variables
  pub argument_within : (i k : ℕ) → i ≤ length v → argument_at sign v i k ≤ leaves v
  argument_within i k h = go (sign k)
    where
      go : (s : Bool) → cond s (last_over (greatest_among sign k) v i) (last_leaf (greatest_among sign k) v i) ≤ leaves v
      go true = omega (arith, (last_over_is (greatest_among sign k) v i).within)
      go false = last_leaf_within (greatest_among sign k) v i h

  -- the arguments of an equation stand in the first d places
  arguments_by_places : (i d : ℕ) (args : List ℕ) → d ≤ length args → ((k : ℕ) → k < d → get_or args k 0 ≡ argument_at sign v i k) → take d args ≡ arguments_of sign v i d []
  arguments_by_places i d args h p =
      ext_get_or 0 (take d args) (arguments_of sign v i d [])
      (omega (arith, length-take-le d args h, argument_count sign v i d []))
      (λ k q. let r : k < d = omega (arith, length-take-le d args h) in get_or-take d args k 0 r ∙ p k r ∙ sym (argument_at_lem sign v i d k r))

  pub places_of_arguments : (i d : ℕ) (args : List ℕ) → take d args ≡ arguments_of sign v i d [] → (k : ℕ) → k < d → get_or args k 0 ≡ argument_at sign v i k
  places_of_arguments i d args e k h = sym (get_or-take d args k 0 h) ∙ ap (λ (ys : List ℕ). get_or ys k 0) e ∙ argument_at_lem sign v i d k h

-- The first k arguments of leaf i + 1 are stored, and the blocks of the levels outside are those of the leaves start + 1 and last + 1.
pub record Nested (sign : ℕ → Bool) (v : List ℕ) (i : ℕ) (args : List ℕ) (start last height k : ℕ) : Type 0 where
  pub long : length args ≡ 8
  pub high : height ≡ greatest_among sign k
  pub start_within : start ≤ length v
  pub last_within : last ≤ length v
  pub starts : (l : ℕ) → height ≤ l → last_over l v start ≡ last_over l v i
  pub lasts : (l : ℕ) → height ≤ l → last_leaf l v last ≡ last_leaf l v i
  pub stored : (j : ℕ) → j < k → get_or args j 0 ≡ argument_at sign v i j

module _ (sign : ℕ → Bool) (v : List ℕ) (i : ℕ) where
  pub nested_none : (args : List ℕ) → length args ≡ 8 → i ≤ length v → Nested sign v i args i i 0 0
  unfolding greatest_among
  nested_none args l h =
      record { long = l; high = refl; start_within = h; last_within = h; starts = λ m p. refl; lasts = λ m p. refl; stored = λ j p. absurd (omega arith) }

  module _ {args : List ℕ} {start last height k : ℕ} (n : Nested sign v i args start last height k) (room : k < 8) where
    stored_more : (x : ℕ) → x ≡ argument_at sign v i k → (j : ℕ) → j < k + 1 → get_or (set args k x) j 0 ≡ argument_at sign v i j
    stored_more x e =
        below_more _ _ (λ j p. get_or-set_other args k j x 0 (λ q. omega arith) ∙ n.stored j p) (get_or-set_same args k x 0 (omega (arith, n.long)) ∙ e)

    pub nested_greatest : (x : ℕ) → x ≡ last_over height v start → sign k ≡ true → Nested sign v i (set args k x) x last (height + 1) (k + 1)
    nested_greatest x e s = record {
      long = simp length-set n.long;
      high = omega (arith, n.high, greatest_at_greatest sign k s, ap (greatest_among sign) (add-one k));
      start_within = omega (arith, e, (last_over_is height v start).within, n.start_within);
      last_within = n.last_within;
      starts = λ l p. let q : height ≤ l = omega arith in ap (last_over l v) e ∙ last_over_split height l v start q ∙ n.starts l q;
      lasts = λ l p. n.lasts l (omega arith);
      stored =
          let q : height ≤ height = omega arith in
          stored_more x (e ∙ n.starts height q ∙ ap (λ (l : ℕ). last_over l v i) n.high ∙ sym (argument_greatest sign v i k s));
    }

    pub nested_least : (x : ℕ) → x ≡ last_leaf height v last → sign k ≡ false → Nested sign v i (set args k x) start (x - 1) height (k + 1)
    nested_least x e s =
        let up : suc (x - 1) ≡ last_leaf height v last = omega arith in
        record {
          long = simp length-set n.long;
          high = n.high ∙ sym (ap (greatest_among sign) (add-one k) ∙ greatest_at_least sign k s);
          start_within = n.start_within;
          last_within = omega (arith, last_leaf_within height v last n.last_within);
          starts = n.starts;
          lasts = λ l p. last_leaf_split height l v last (x - 1) p up ∙ n.lasts l p;
          stored =
              let q : height ≤ height = omega arith in
              stored_more x (e ∙ n.lasts height q ∙ ap (λ (l : ℕ). last_leaf l v i) n.high ∙ sym (argument_least sign v i k s));
        }

  -- where they are told in other words
  pub nested_as : {args args' : List ℕ} {start start' last last' height height' k : ℕ} → Nested sign v i args start last height k
      → args' ≡ args → start' ≡ start → last' ≡ last → height' ≡ height → Nested sign v i args' start' last' height' k
  nested_as n a b c e = rw (a, b, c, e) n

  pub nested_end : (d : ℕ) {args : List ℕ} {start last height k : ℕ} → Nested sign v i args start last height k → d ≤ 8 → d ≤ k → take d args ≡ arguments_of sign v i d []
  nested_end d {args} n few all = arguments_by_places sign v i d args (omega (arith, n.long)) (λ j h. n.stored j (omega arith))
