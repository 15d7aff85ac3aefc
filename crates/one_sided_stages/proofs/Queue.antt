-- Readings, flags, queues and lists by places: what the loops over them keep, one entry more.
-- Assumes nothing.
use mathlib.Core.Bool.{true≢false, Bool, true, false, cond}
use mathlib.Core.List.{List, [], ◌∷◌, ◌++◌, map-append}
use mathlib.Core.Logic.{◌⊎◌, inl, inr}
use mathlib.Core.Path.{◌≡◌, refl, sym, ◌∙◌, ap, ap₂}
use Prim.Native.Nat.{ℕ, zero, suc, ◌+◌, ◌≤◌, ◌<◌}
use native.Mathlib.Decide.{ℕ_discrete}
use native.Mathlib.Omega.{arith}
use lib.ListN.{length, get_or, set, take, length-set}
use lib.Seq.{get_or-set_same, get_or-set_other, take-suc, take-suc-set}
use Rattle.one_sided_leaves.specs.Leaves.{Entry}
use Rattle.one_sided_stages.specs.Stages.{readings, flag_count, Queued, NoneFlagged, Carried, Listed, Flagged, Cause, FlaggedFor}

-- one argument more is read
pub reading_more : (state args ys : List ℕ) (k : ℕ) → k < length args → k < length ys → take k ys ≡ readings state (take k args)
    → take (suc k) (set ys k (get_or state (get_or args k 0) 0)) ≡ readings state (take (suc k) args)
reading_more state args ys k h l e =
    take-suc-set ys k (get_or state (get_or args k 0) 0) l
    ∙ ap (λ (zs : List ℕ). zs ++ (get_or state (get_or args k 0) 0 ∷ [])) e
    ∙ sym (ap (readings state) (take-suc args k 0 h) ∙ map-append (λ y. get_or state y 0) (take k args) (get_or args k 0 ∷ []))

-- how many are flagged

pub count_few : (flags : List Bool) (w : ℕ) → flag_count flags w ≤ w
unfolding flag_count
count_few flags zero = omega arith
count_few flags (suc w) = go (get_or flags w false) (count_few flags w)
  where
    go : (b : Bool) → flag_count flags w ≤ w → cond b (suc (flag_count flags w)) (flag_count flags w) ≤ suc w
    go true h = omega arith
    go false h = omega arith

count_none : (flags : List Bool) (w : ℕ) → NoneFlagged w flags → 0 ≡ flag_count flags w
unfolding flag_count
count_none flags zero none = refl
count_none flags (suc w) none = rw (none w (omega arith)) (count_none flags w (λ i h. none i (omega arith)))

count_room : (flags : List Bool) (i w : ℕ) → i < w → get_or flags i false ≡ false → flag_count flags w < w
unfolding flag_count
count_room flags i zero h e = absurd (omega arith)
count_room flags i (suc w) h e = at (ℕ_discrete i w) (λ l. count_room flags i w l e)
  where
    go : (b : Bool) → flag_count flags w < w → cond b (suc (flag_count flags w)) (flag_count flags w) < suc w
    go true h = omega arith
    go false h = omega arith

    at : Dec (i ≡ w) → (i < w → flag_count flags w < w) → cond (get_or flags w false) (suc (flag_count flags w)) (flag_count flags w) < suc w
    at (yes z) ih = rw (← z, e, z) (omega (arith, count_few flags w))
    at (no z) ih = go (get_or flags w false) (ih (omega arith))

count_beyond : (flags : List Bool) (i w : ℕ) (b : Bool) → w ≤ i → flag_count (set flags i b) w ≡ flag_count flags w
unfolding flag_count
count_beyond flags i zero b h = refl
count_beyond flags i (suc w) b h =
    ap₂ (λ (f : Bool) (n : ℕ). cond f (suc n) n) (get_or-set_other flags i w b false (λ z. omega arith)) (count_beyond flags i w b (omega arith))

count_more : (flags : List Bool) (i w : ℕ) → i < length flags → i < w → get_or flags i false ≡ false → flag_count (set flags i true) w ≡ suc (flag_count flags w)
unfolding flag_count
count_more flags i zero room h e = absurd (omega arith)
count_more flags i (suc w) room h e = at (ℕ_discrete w i) (λ l. count_more flags i w room l e)
  where
    go : (b : Bool) → cond b (suc (suc (flag_count flags w))) (suc (flag_count flags w)) ≡ suc (cond b (suc (flag_count flags w)) (flag_count flags w))
    go true = refl
    go false = refl

    at : Dec (w ≡ i) → (i < w → flag_count (set flags i true) w ≡ suc (flag_count flags w))
        → cond (get_or (set flags i true) w false) (suc (flag_count (set flags i true) w)) (flag_count (set flags i true) w)
        ≡ suc (cond (get_or flags w false) (suc (flag_count flags w)) (flag_count flags w))
    at (yes z) ih =
        ap₂ (λ (f : Bool) (n : ℕ). cond f (suc n) n) (ap (λ (k : ℕ). get_or (set flags i true) k false) z ∙ get_or-set_same flags i true false room) (count_beyond flags i w true (omega arith))
        ∙ ap (λ (f : Bool). suc (cond f (suc (flag_count flags w)) (flag_count flags w))) (sym (ap (λ (k : ℕ). get_or flags k false) z ∙ e))
    at (no z) ih =
        ap₂ (λ (f : Bool) (n : ℕ). cond f (suc n) n) (get_or-set_other flags i w true false z) (ih (omega arith))
        ∙ go (get_or flags w false)

-- an entry of a longer list

pub entry_kept : {xs : List ℕ} {n x : ℕ} (a : ℕ) → Entry xs n x → Entry (set xs n a) (n + 1) x
entry_kept {xs} {n} a e = record { place = e.place; inside = omega (arith, e.inside); is = get_or-set_other xs n e.place a 0 (λ z. omega (arith, e.inside)) ∙ e.is }

-- the queue

pub queued_few : {w : ℕ} {flags : List Bool} {queue : List ℕ} {number : ℕ} → Queued w flags queue number → number ≤ w
queued_few {w} {flags} q = omega (arith, q.counted, count_few flags w)

pub queued_room : {w : ℕ} {flags : List Bool} {queue : List ℕ} {number : ℕ} → Queued w flags queue number → (i : ℕ) → i < w → get_or flags i false ≡ false → number < w
queued_room {w} {flags} q i h e = omega (arith, q.counted, count_room flags i w h e)

pub queued_none : (w : ℕ) (flags : List Bool) (queue : List ℕ) → NoneFlagged w flags → Queued w flags queue 0
queued_none w flags queue none =
    record {
      inside = λ p h. absurd (omega arith);
      flagged = λ p h. absurd (omega arith);
      all = λ i h e. absurd (true≢false (sym e ∙ none i h));
      counted = count_none flags w none;
    }

pub queued_more : {w : ℕ} {flags : List Bool} {queue : List ℕ} {number : ℕ} → Queued w flags queue number
    → (i : ℕ) → i < w → get_or flags i false ≡ false → i < length flags → number < length queue → Queued w (set flags i true) (set queue number i) (number + 1)
queued_more {w} {flags} {queue} {number} q i h e long room =
    record { inside = inside; flagged = flagged; all = all; counted = omega (arith, q.counted, count_more flags i w long h e) }
  where
    at : (p : ℕ) → p < number + 1 → Dec (p ≡ number) → (get_or (set queue number i) p 0 ≡ i) ⊎ ((p < number) × (get_or (set queue number i) p 0 ≡ get_or queue p 0))
    at p l (yes z) = inl (ap (λ (k : ℕ). get_or (set queue number i) k 0) z ∙ get_or-set_same queue number i 0 room)
    at p l (no z) = inr (omega arith, get_or-set_other queue number p i 0 z)

    inside : (p : ℕ) → p < number + 1 → get_or (set queue number i) p 0 < w
    inside p l = go (at p l (ℕ_discrete p number))
      where
        go : (get_or (set queue number i) p 0 ≡ i) ⊎ ((p < number) × (get_or (set queue number i) p 0 ≡ get_or queue p 0)) → get_or (set queue number i) p 0 < w
        go (inl z) = omega arith
        go (inr z) = omega (arith, q.inside p z.0)

    true_at : (k : ℕ) → (k ≡ i) ⊎ (get_or flags k false ≡ true) → get_or (set flags i true) k false ≡ true
    true_at k (inl z) = ap (λ (j : ℕ). get_or (set flags i true) j false) z ∙ get_or-set_same flags i true false long
    true_at k (inr f) = go (ℕ_discrete k i)
      where
        go : Dec (k ≡ i) → get_or (set flags i true) k false ≡ true
        go (yes z) = ap (λ (j : ℕ). get_or (set flags i true) j false) z ∙ get_or-set_same flags i true false long
        go (no z) = get_or-set_other flags i k true false z ∙ f

    flagged : (p : ℕ) → p < number + 1 → get_or (set flags i true) (get_or (set queue number i) p 0) false ≡ true
    flagged p l = go (at p l (ℕ_discrete p number))
      where
        go : (get_or (set queue number i) p 0 ≡ i) ⊎ ((p < number) × (get_or (set queue number i) p 0 ≡ get_or queue p 0)) → get_or (set flags i true) (get_or (set queue number i) p 0) false ≡ true
        go (inl z) = true_at (get_or (set queue number i) p 0) (inl z)
        go (inr z) = true_at (get_or (set queue number i) p 0) (inr (ap (λ (j : ℕ). get_or flags j false) z.1 ∙ q.flagged p z.0))

    all : (k : ℕ) → k < w → get_or (set flags i true) k false ≡ true → Entry (set queue number i) (number + 1) k
    all k l f = go (ℕ_discrete i k)
      where
        go : Dec (i ≡ k) → Entry (set queue number i) (number + 1) k
        go (yes z) = record { place = number; inside = omega arith; is = get_or-set_same queue number i 0 room ∙ z }
        go (no z) = entry_kept i (q.all k l (sym (get_or-set_other flags i k true false (λ y. z (sym y))) ∙ f))

-- a span that is flagged as far as i

pub record Flagging (from to : ℕ) (flags flags' : List Bool) (i : ℕ) : Type 0 where
  pub after : from ≤ i
  pub span : (k : ℕ) → from ≤ k → k < i → get_or flags' k false ≡ true
  pub kept : (k : ℕ) → get_or flags k false ≡ true → get_or flags' k false ≡ true
  pub only : (k : ℕ) → get_or flags' k false ≡ true → get_or flags k false ≡ false → (from ≤ k) × (k < to)

pub flagging_none : (from to : ℕ) (flags : List Bool) → Flagging from to flags flags from
flagging_none from to flags =
    record { after = omega arith; span = λ k h l. absurd (omega arith); kept = λ k e. e; only = λ k e f. absurd (true≢false (sym e ∙ f)) }

-- the flag at i is set already
pub flagging_over : {from to : ℕ} {flags flags' : List Bool} {i : ℕ} → Flagging from to flags flags' i → get_or flags' i false ≡ true → Flagging from to flags flags' (i + 1)
flagging_over {from} {to} {flags} {flags'} {i} f e = record { after = omega (arith, f.after); span = span; kept = f.kept; only = f.only }
  where
    span : (k : ℕ) → from ≤ k → k < i + 1 → get_or flags' k false ≡ true
    span k h l = go (ℕ_discrete k i)
      where
        go : Dec (k ≡ i) → get_or flags' k false ≡ true
        go (yes z) = ap (λ (j : ℕ). get_or flags' j false) z ∙ e
        go (no z) = f.span k h (omega arith)

-- the flag at i is set now
pub flagging_more : {from to : ℕ} {flags flags' : List Bool} {i : ℕ} → Flagging from to flags flags' i → i < to → i < length flags' → Flagging from to flags (set flags' i true) (i + 1)
flagging_more {from} {to} {flags} {flags'} {i} f inside long =
    flagging_over (record { after = f.after; span = λ k h l. up k (f.span k h l); kept = λ k e. up k (f.kept k e); only = only }) (get_or-set_same flags' i true false long)
  where
    up : (k : ℕ) → get_or flags' k false ≡ true → get_or (set flags' i true) k false ≡ true
    up k e = go (ℕ_discrete k i)
      where
        go : Dec (k ≡ i) → get_or (set flags' i true) k false ≡ true
        go (yes z) = ap (λ (j : ℕ). get_or (set flags' i true) j false) z ∙ get_or-set_same flags' i true false long
        go (no z) = get_or-set_other flags' i k true false z ∙ e

    only : (k : ℕ) → get_or (set flags' i true) k false ≡ true → get_or flags k false ≡ false → (from ≤ k) × (k < to)
    only k e g = go (ℕ_discrete k i)
      where
        go : Dec (k ≡ i) → (from ≤ k) × (k < to)
        go (yes z) = (omega (arith, f.after), omega arith)
        go (no z) = f.only k (sym (get_or-set_other flags' i k true false z) ∙ e) g

pub flagging_end : {from to : ℕ} {flags flags' : List Bool} {i : ℕ} → Flagging from to flags flags' i → to ≤ i → Flagged from to flags flags'
flagging_end f h = record { span = λ k l r. f.span k l (omega arith); kept = f.kept; only = f.only }

-- the queue and the flags, the span flagged as far as i
pub record Appending (from to w : ℕ) (flags₀ flags : List Bool) (queue : List ℕ) (end i : ℕ) : Type 0 where
  pub flags_long : length flags ≡ 1024
  pub queue_long : length queue ≡ 1024
  pub queued : Queued w flags queue end
  pub flagging : Flagging from to flags₀ flags i

pub appending_more : {from to w : ℕ} {flags₀ flags : List Bool} {queue : List ℕ} {end i : ℕ} → Appending from to w flags₀ flags queue end i → to ≤ w → w ≤ 1024 → i < to
    → (flags' : List Bool) (queue' : List ℕ) (end' : ℕ)
    → ((get_or flags i false ≡ false) × (flags' ≡ set flags i true) × (queue' ≡ set queue end i) × (end' ≡ end + 1)) ⊎ ((get_or flags i false ≡ true) × (flags' ≡ flags) × (queue' ≡ queue) × (end' ≡ end))
    → Appending from to w flags₀ flags' queue' end' (i + 1)
appending_more {from} {to} {w} {flags₀} {flags} {queue} {end} {i} a few small inside flags' queue' end' (inl (f, e1, e2, e3)) =
    let h : i < w = omega arith in
    let room = queued_room a.queued i h f in
    rw (e1, e2, e3) (record {
      flags_long = length-set flags i true ∙ a.flags_long;
      queue_long = length-set queue end i ∙ a.queue_long;
      queued = queued_more a.queued i h f (omega (arith, a.flags_long)) (omega (arith, a.queue_long));
      flagging = flagging_more a.flagging inside (omega (arith, a.flags_long));
    })
appending_more a few small inside flags' queue' end' (inr (f, e1, e2, e3)) =
    rw (e1, e2, e3) (record { flags_long = a.flags_long; queue_long = a.queue_long; queued = a.queued; flagging = flagging_over a.flagging f })

-- the listed words taken over as far as p

pub record Taking (w : ℕ) (words changed from to state state' : List ℕ) (flags : List Bool) (p : ℕ) : Type 0 where
  pub taken : (q : ℕ) → q < p → get_or state' (get_or changed q 0) 0 ≡ get_or words (get_or changed q 0) 0
  pub values : (y : ℕ) → (get_or state' y 0 ≡ get_or words y 0) ⊎ (get_or state' y 0 ≡ get_or state y 0)
  pub all : (q : ℕ) → q < p → (i : ℕ) → get_or from (get_or changed q 0) 0 ≤ i → i < get_or to (get_or changed q 0) 0 → get_or flags i false ≡ true
  pub only : (i : ℕ) → i < w → get_or flags i false ≡ true → Cause w state words from to i

pub taking_none : (w : ℕ) (words changed from to state : List ℕ) (flags : List Bool) → NoneFlagged w flags → Taking w words changed from to state state flags 0
taking_none w words changed from to state flags none =
    record {
      taken = λ q h. absurd (omega arith);
      values = λ y. inr refl;
      all = λ q h. absurd (omega arith);
      only = λ i h e. absurd (true≢false (sym e ∙ none i h));
    }

module _ {w : ℕ} {words changed from to state : List ℕ} {others : ℕ} (listed : Listed w state words changed others) where
  pub taking_more : {state' : List ℕ} {flags : List Bool} {p : ℕ} → Taking w words changed from to state state' flags p
      → p < others → (y : ℕ) → y ≡ get_or changed p 0 → y < length state' → (flags' : List Bool) → Flagged (get_or from y 0) (get_or to y 0) flags flags'
      → Taking w words changed from to state (set state' y (get_or words y 0)) flags' (p + 1)
  taking_more {state'} {flags} {p} t inside y ey long flags' f = record { taken = taken; values = values; all = all; only = only }
    where
      at : (k : ℕ) → k ≡ y → get_or (set state' y (get_or words y 0)) k 0 ≡ get_or words k 0
      at k z = ap (λ (j : ℕ). get_or (set state' y (get_or words y 0)) j 0) z ∙ get_or-set_same state' y (get_or words y 0) 0 long ∙ ap (λ (j : ℕ). get_or words j 0) (sym z)

      value : (k : ℕ) → (get_or state' k 0 ≡ get_or words k 0) → get_or (set state' y (get_or words y 0)) k 0 ≡ get_or words k 0
      value k e = go (ℕ_discrete k y)
        where
          go : Dec (k ≡ y) → get_or (set state' y (get_or words y 0)) k 0 ≡ get_or words k 0
          go (yes z) = at k z
          go (no z) = get_or-set_other state' y k (get_or words y 0) 0 z ∙ e

      taken : (q : ℕ) → q < p + 1 → get_or (set state' y (get_or words y 0)) (get_or changed q 0) 0 ≡ get_or words (get_or changed q 0) 0
      taken q h = go (ℕ_discrete q p)
        where
          go : Dec (q ≡ p) → get_or (set state' y (get_or words y 0)) (get_or changed q 0) 0 ≡ get_or words (get_or changed q 0) 0
          go (yes z) = at (get_or changed q 0) (ap (λ (j : ℕ). get_or changed j 0) z ∙ sym ey)
          go (no z) = value (get_or changed q 0) (t.taken q (omega arith))

      values : (k : ℕ) → (get_or (set state' y (get_or words y 0)) k 0 ≡ get_or words k 0) ⊎ (get_or (set state' y (get_or words y 0)) k 0 ≡ get_or state k 0)
      values k = go (ℕ_discrete k y) (t.values k)
        where
          go : Dec (k ≡ y) → (get_or state' k 0 ≡ get_or words k 0) ⊎ (get_or state' k 0 ≡ get_or state k 0)
              → (get_or (set state' y (get_or words y 0)) k 0 ≡ get_or words k 0) ⊎ (get_or (set state' y (get_or words y 0)) k 0 ≡ get_or state k 0)
          go (yes z) e = inl (at k z)
          go (no z) (inl e) = inl (value k e)
          go (no z) (inr e) = inr (get_or-set_other state' y k (get_or words y 0) 0 z ∙ e)

      all : (q : ℕ) → q < p + 1 → (i : ℕ) → get_or from (get_or changed q 0) 0 ≤ i → i < get_or to (get_or changed q 0) 0 → get_or flags' i false ≡ true
      all q h i a b = go (ℕ_discrete q p)
        where
          go : Dec (q ≡ p) → get_or flags' i false ≡ true
          go (yes z) =
              let e : y ≡ get_or changed q 0 = ey ∙ ap (λ (j : ℕ). get_or changed j 0) (sym z) in
              f.span i (omega (arith, ap (λ (j : ℕ). get_or from j 0) e)) (omega (arith, ap (λ (j : ℕ). get_or to j 0) e))
          go (no z) = f.kept i (t.all q (omega arith) i a b)

      only : (i : ℕ) → i < w → get_or flags' i false ≡ true → Cause w state words from to i
      only i h e = go (get_or flags i false) refl
        where
          go : (b : Bool) → get_or flags i false ≡ b → Cause w state words from to i
          go true g = t.only i h g
          go false g =
              record {
                variable = y;
                few = omega (arith, listed.inside p inside);
                other = λ z. listed.other p inside (ap (λ (j : ℕ). get_or state j 0) (sym ey) ∙ z ∙ ap (λ (j : ℕ). get_or words j 0) ey);
                after = (f.only i e g).0;
                up_to = (f.only i e g).1;
              }

  pub taking_values : {state' : List ℕ} {flags : List Bool} {p : ℕ} → Taking w words changed from to state state' flags p → others ≤ p → (y : ℕ) → y ≤ w → get_or state' y 0 ≡ get_or words y 0
  taking_values {state'} t end y h = go (t.values y) (ℕ_discrete (get_or state y 0) (get_or words y 0))
    where
      go : (get_or state' y 0 ≡ get_or words y 0) ⊎ (get_or state' y 0 ≡ get_or state y 0) → Dec (get_or state y 0 ≡ get_or words y 0) → get_or state' y 0 ≡ get_or words y 0
      go (inl e) d = e
      go (inr e) (yes z) = e ∙ z
      go (inr e) (no z) =
          let n = listed.all y h z in
          ap (λ (j : ℕ). get_or state' j 0) (sym n.is) ∙ t.taken n.place (omega (arith, n.inside)) ∙ ap (λ (j : ℕ). get_or words j 0) n.is

  pub taking_flags : {state' : List ℕ} {flags : List Bool} {p : ℕ} → Taking w words changed from to state state' flags p → others ≤ p → FlaggedFor w state words from to flags
  taking_flags {flags = flags} t end =
      record {
        all = λ i c.
            let n = listed.all c.variable c.few c.other in
            t.all n.place (omega (arith, n.inside)) i (omega (arith, c.after, ap (λ (j : ℕ). get_or from j 0) n.is)) (omega (arith, c.up_to, ap (λ (j : ℕ). get_or to j 0) n.is));
        only = t.only;
      }

-- the queue evaluated as far as p, by the right sides R

-- y is the variable of a leaf whose right side stands in the words and is another value than in the state
pub record Other (w : ℕ) (R : ℕ → ℕ) (state words : List ℕ) (y : ℕ) : Type 0 where
  pub leaf : ℕ
  pub inside : leaf < w
  pub is : y ≡ leaf + 1
  pub value : get_or words (leaf + 1) 0 ≡ R leaf
  pub differs : get_or state (leaf + 1) 0 ≡ R leaf → ⊥

-- y is the variable of a leaf that is still flagged
pub record Waiting (flags : List Bool) (y : ℕ) : Type 0 where
  pub leaf : ℕ
  pub is : y ≡ leaf + 1
  pub flag : get_or flags leaf false ≡ true

pub record Evaluating (w : ℕ) (R : ℕ → ℕ) (state queue : List ℕ) (flags₀ : List Bool) (words₀ : List ℕ) (flags : List Bool) (words changed : List ℕ) (others p : ℕ) : Type 0 where
  pub flags_long : length flags ≡ 1024
  pub changed_long : length changed ≡ 1024
  pub words_long : length words ≡ length words₀
  pub done : (q : ℕ) → q < p → get_or words (get_or queue q 0 + 1) 0 ≡ R (get_or queue q 0)
  pub kept : (i : ℕ) → i < w → get_or flags₀ i false ≡ false → get_or words (i + 1) 0 ≡ get_or words₀ (i + 1) 0
  pub first : get_or words 0 0 ≡ get_or words₀ 0 0
  pub beyond : (k : ℕ) → w < k → get_or words k 0 ≡ get_or words₀ k 0
  pub down : (i : ℕ) → get_or flags i false ≡ true → get_or flags₀ i false ≡ true
  pub cleared : (q : ℕ) → q < p → get_or flags (get_or queue q 0) false ≡ false
  pub few : others ≤ p
  pub other : (r : ℕ) → r < others → Other w R state words (get_or changed r 0)
  pub all : (y : ℕ) → y ≤ w → (get_or state y 0 ≡ get_or words y 0 → ⊥) → Entry changed others y ⊎ Waiting flags y

module _ (w : ℕ) (R : ℕ → ℕ) (state queue : List ℕ) (flags₀ : List Bool) (words₀ : List ℕ) where
  pub evaluating_none : (changed : List ℕ) → length flags₀ ≡ 1024 → length changed ≡ 1024 → Carried w flags₀ state words₀ → Evaluating w R state queue flags₀ words₀ flags₀ words₀ changed 0 0
  evaluating_none changed a b carried =
      record {
        flags_long = a;
        changed_long = b;
        words_long = refl;
        done = λ q h. absurd (omega arith);
        kept = λ i h e. refl;
        first = refl;
        beyond = λ k h. refl;
        down = λ i e. e;
        cleared = λ q h. absurd (omega arith);
        few = omega arith;
        other = λ r h. absurd (omega arith);
        all = all;
      }
    where
      all : (y : ℕ) → y ≤ w → (get_or state y 0 ≡ get_or words₀ y 0 → ⊥) → Entry changed 0 y ⊎ Waiting flags₀ y
      all zero h d = absurd (d carried.first)
      all (suc i) h d = go (get_or flags₀ i false) refl
        where
          z : suc i ≡ i + 1
          z = omega arith

          go : (b : Bool) → get_or flags₀ i false ≡ b → Entry changed 0 (suc i) ⊎ Waiting flags₀ (suc i)
          go true e = inr (record { leaf = i; is = z; flag = e })
          go false e = absurd (d (ap (λ (k : ℕ). get_or state k 0) z ∙ carried.others i (omega arith) e ∙ ap (λ (k : ℕ). get_or words₀ k 0) (sym z)))

  -- one entry more: its right side is written, and listed where it is another value than in the state
  pub evaluating_more : {flags : List Bool} {words changed : List ℕ} {others p : ℕ} → Evaluating w R state queue flags₀ words₀ flags words changed others p
      → w < length words₀ → w ≤ 1024 → p < 1024 → (i : ℕ) → i ≡ get_or queue p 0 → i < w → get_or flags₀ i false ≡ true → (value : ℕ) → value ≡ R i
      → (changed' : List ℕ) (others' : ℕ)
      → ((get_or state (i + 1) 0 ≡ value → ⊥) × (changed' ≡ set changed others (i + 1)) × (others' ≡ others + 1)) ⊎ ((get_or state (i + 1) 0 ≡ value) × (changed' ≡ changed) × (others' ≡ others))
      → Evaluating w R state queue flags₀ words₀ (set flags i false) (set words (i + 1) value) changed' others' (p + 1)
  evaluating_more {flags} {words} {changed} {others} {p} e long small room i ei inside due value ev = go
    where
      W : List ℕ
      W = set words (i + 1) value

      F : List Bool
      F = set flags i false

      word_here : get_or W (i + 1) 0 ≡ R i
      word_here = get_or-set_same words (i + 1) value 0 (omega (arith, e.words_long)) ∙ ev

      word_other : (k : ℕ) → (k ≡ i + 1 → ⊥) → get_or W k 0 ≡ get_or words k 0
      word_other k n = get_or-set_other words (i + 1) k value 0 n

      leaf_here : (j : ℕ) → j ≡ i → get_or W (j + 1) 0 ≡ R j
      leaf_here j z = ap (λ (k : ℕ). get_or W (k + 1) 0) z ∙ word_here ∙ ap R (sym z)

      leaf_word : (j : ℕ) → get_or words (j + 1) 0 ≡ R j → get_or W (j + 1) 0 ≡ R j
      leaf_word j h = at (ℕ_discrete j i)
        where
          at : Dec (j ≡ i) → get_or W (j + 1) 0 ≡ R j
          at (yes z) = leaf_here j z
          at (no n) = word_other (j + 1) (λ z. n (omega arith)) ∙ h

      done : (q : ℕ) → q < p + 1 → get_or W (get_or queue q 0 + 1) 0 ≡ R (get_or queue q 0)
      done q h = at (ℕ_discrete q p)
        where
          at : Dec (q ≡ p) → get_or W (get_or queue q 0 + 1) 0 ≡ R (get_or queue q 0)
          at (yes z) = leaf_here (get_or queue q 0) (ap (λ (k : ℕ). get_or queue k 0) z ∙ sym ei)
          at (no n) = leaf_word (get_or queue q 0) (e.done q (omega arith))

      kept : (j : ℕ) → j < w → get_or flags₀ j false ≡ false → get_or W (j + 1) 0 ≡ get_or words₀ (j + 1) 0
      kept j h f =
          word_other (j + 1) (λ z. let y : j ≡ i = omega arith in true≢false (sym due ∙ ap (λ (k : ℕ). get_or flags₀ k false) (sym y) ∙ f)) ∙ e.kept j h f

      beyond : (k : ℕ) → w < k → get_or W k 0 ≡ get_or words₀ k 0
      beyond k h = word_other k (λ z. omega arith) ∙ e.beyond k h

      flag_here : (j : ℕ) → j ≡ i → get_or F j false ≡ false
      flag_here j z = ap (λ (k : ℕ). get_or F k false) z ∙ get_or-set_same flags i false false (omega (arith, e.flags_long))

      flag_other : (j : ℕ) → (j ≡ i → ⊥) → get_or F j false ≡ get_or flags j false
      flag_other j n = get_or-set_other flags i j false false n

      down : (j : ℕ) → get_or F j false ≡ true → get_or flags₀ j false ≡ true
      down j f = at (ℕ_discrete j i)
        where
          at : Dec (j ≡ i) → get_or flags₀ j false ≡ true
          at (yes z) = absurd (true≢false (sym f ∙ flag_here j z))
          at (no n) = e.down j (sym (flag_other j n) ∙ f)

      cleared : (q : ℕ) → q < p + 1 → get_or F (get_or queue q 0) false ≡ false
      cleared q h = at (ℕ_discrete (get_or queue q 0) i)
        where
          at : Dec (get_or queue q 0 ≡ i) → get_or F (get_or queue q 0) false ≡ false
          at (yes z) = flag_here (get_or queue q 0) z
          at (no n) = flag_other (get_or queue q 0) n ∙ e.cleared q (before (ℕ_discrete q p))
            where
              before : Dec (q ≡ p) → q < p
              before (yes z) = absurd (n (ap (λ (k : ℕ). get_or queue k 0) z ∙ sym ei))
              before (no m) = omega arith

      other_kept : (y : ℕ) → Other w R state words y → Other w R state W y
      other_kept y o = record { leaf = o.leaf; inside = o.inside; is = o.is; value = leaf_word o.leaf o.value; differs = o.differs }

      -- a variable but this one whose value is another
      rest : (y : ℕ) → y ≤ w → (get_or state y 0 ≡ get_or W y 0 → ⊥) → (y ≡ i + 1 → ⊥) → Entry changed others y ⊎ Waiting F y
      rest y h d n = at (e.all y h (λ z. d (z ∙ sym (word_other y n))))
        where
          at : Entry changed others y ⊎ Waiting flags y → Entry changed others y ⊎ Waiting F y
          at (inl a) = inl a
          at (inr a) = inr (record { leaf = a.leaf; is = a.is; flag = flag_other a.leaf (λ z. n (a.is ∙ ap (λ (k : ℕ). k + 1) z)) ∙ a.flag })

      other_more : (get_or state (i + 1) 0 ≡ value → ⊥) → (r : ℕ) → r < others + 1 → Other w R state W (get_or (set changed others (i + 1)) r 0)
      other_more d r h = at (ℕ_discrete r others)
        where
          at : Dec (r ≡ others) → Other w R state W (get_or (set changed others (i + 1)) r 0)
          at (yes z) =
              record {
                leaf = i;
                inside = inside;
                is = ap (λ (k : ℕ). get_or (set changed others (i + 1)) k 0) z ∙ get_or-set_same changed others (i + 1) 0 (omega (arith, e.changed_long, e.few));
                value = word_here;
                differs = λ y. d (y ∙ sym ev);
              }
          at (no n) = rw (get_or-set_other changed others r (i + 1) 0 n) (other_kept (get_or changed r 0) (e.other r (omega arith)))

      all_more : (y : ℕ) → y ≤ w → (get_or state y 0 ≡ get_or W y 0 → ⊥) → Entry (set changed others (i + 1)) (others + 1) y ⊎ Waiting F y
      all_more y h d = at (ℕ_discrete (i + 1) y)
        where
          later : Entry changed others y ⊎ Waiting F y → Entry (set changed others (i + 1)) (others + 1) y ⊎ Waiting F y
          later (inl a) = inl (entry_kept (i + 1) a)
          later (inr a) = inr a

          at : Dec (i + 1 ≡ y) → Entry (set changed others (i + 1)) (others + 1) y ⊎ Waiting F y
          at (yes z) = inl (record { place = others; inside = omega arith; is = get_or-set_same changed others (i + 1) 0 (omega (arith, e.changed_long, e.few)) ∙ z })
          at (no n) = later (rest y h d (λ z. n (sym z)))

      all_same : get_or state (i + 1) 0 ≡ value → (y : ℕ) → y ≤ w → (get_or state y 0 ≡ get_or W y 0 → ⊥) → Entry changed others y ⊎ Waiting F y
      all_same s y h d =
          rest y h d (λ z. d (ap (λ (k : ℕ). get_or state k 0) z ∙ s ∙ ev ∙ sym word_here ∙ ap (λ (k : ℕ). get_or W k 0) (sym z)))

      go : (changed' : List ℕ) (others' : ℕ)
          → ((get_or state (i + 1) 0 ≡ value → ⊥) × (changed' ≡ set changed others (i + 1)) × (others' ≡ others + 1)) ⊎ ((get_or state (i + 1) 0 ≡ value) × (changed' ≡ changed) × (others' ≡ others))
          → Evaluating w R state queue flags₀ words₀ F W changed' others' (p + 1)
      go changed' others' (inl (d, e1, e2)) =
          rw (e1, e2) (record {
            flags_long = length-set flags i false ∙ e.flags_long;
            changed_long = length-set changed others (i + 1) ∙ e.changed_long;
            words_long = length-set words (i + 1) value ∙ e.words_long;
            done = done;
            kept = kept;
            first = word_other 0 (λ z. omega arith) ∙ e.first;
            beyond = beyond;
            down = down;
            cleared = cleared;
            few = omega (arith, e.few);
            other = other_more d;
            all = all_more;
          })
      go changed' others' (inr (s, e1, e2)) =
          rw (e1, e2) (record {
            flags_long = length-set flags i false ∙ e.flags_long;
            changed_long = e.changed_long;
            words_long = length-set words (i + 1) value ∙ e.words_long;
            done = done;
            kept = kept;
            first = word_other 0 (λ z. omega arith) ∙ e.first;
            beyond = beyond;
            down = down;
            cleared = cleared;
            few = omega (arith, e.few);
            other = λ r h. other_kept (get_or changed r 0) (e.other r h);
            all = all_same s;
          })

  -- all entries

  module _ {number : ℕ} (queued : Queued w flags₀ queue number) {flags : List Bool} {words changed : List ℕ} {others : ℕ} (e : Evaluating w R state queue flags₀ words₀ flags words changed others number) where
    pub evaluating_cleared : NoneFlagged w flags
    evaluating_cleared i h = go (get_or flags i false) refl
      where
        go : (b : Bool) → get_or flags i false ≡ b → get_or flags i false ≡ false
        go true f = let n = queued.all i h (e.down i f) in ap (λ (k : ℕ). get_or flags k false) (sym n.is) ∙ e.cleared n.place n.inside
        go false f = f

    pub evaluating_due : (i : ℕ) → i < w → get_or flags₀ i false ≡ true → get_or words (i + 1) 0 ≡ R i
    evaluating_due i h f =
        let n = queued.all i h f in
        ap (λ (k : ℕ). get_or words (k + 1) 0) (sym n.is) ∙ e.done n.place n.inside ∙ ap R n.is

    pub evaluating_listed : Listed w state words changed others
    evaluating_listed = record { few = omega (arith, e.few, queued_few queued); inside = inside; other = other; all = all }
      where
        inside : (r : ℕ) → r < others → get_or changed r 0 ≤ w
        inside r h = let o = e.other r h in omega (arith, o.is, o.inside)

        other : (r : ℕ) → r < others → get_or state (get_or changed r 0) 0 ≡ get_or words (get_or changed r 0) 0 → ⊥
        other r h z =
            let o = e.other r h in
            o.differs (ap (λ (k : ℕ). get_or state k 0) (sym o.is) ∙ z ∙ ap (λ (k : ℕ). get_or words k 0) o.is ∙ o.value)

        all : (y : ℕ) → y ≤ w → (get_or state y 0 ≡ get_or words y 0 → ⊥) → Entry changed others y
        all y h d = go (e.all y h d)
          where
            go : Entry changed others y ⊎ Waiting flags y → Entry changed others y
            go (inl a) = a
            go (inr a) = absurd (true≢false (sym a.flag ∙ evaluating_cleared a.leaf (omega (arith, a.is))))
