-- The rounds of one level under a ceiling: each round's queries come off what is left, the first round that changes nothing ends the level,
-- and where a round does not fit under what is left the whole run does not.
-- Assumes nothing.
use mathlib.Core.Bool.{Bool, true, false}
use Rattle.std.specs.Prelude.{Option, Some, None}
use mathlib.Core.Path.{◌≡◌, refl, sym, ◌∙◌, ap}
use Prim.Native.Nat.{ℕ, zero, suc, ◌-◌, ◌≤◌, ◌<◌}
use native.Mathlib.Omega.{arith}
use borrow.Author.Tests.{le-leb, lt-leb, leb-true, leb-false, eq-eqb, ne_eqb}
use lib.Dec.{eqb, leb}
use Rattle.fixpoint.specs.Plain.{Run, then_rounds, settle}
use Rattle.plain_route.specs.Under.{under}
use Rattle.plain_route.specs.declared.Settled.{Settled}

-- the outcome of a run that fits
abbrev pub settled : ℕ → ℕ → Option Settled
settled set left = Some (record { set = set; left = left })

-- a run that fits, and one that does not
pub fits : (rest : ℕ) (r : Run ℕ) → r.queries ≤ rest → under rest r ≡ settled r.value (rest - r.queries)
fits rest r h = rw (le-leb r.queries rest h)

pub exceeds : (rest : ℕ) (r : Run ℕ) → rest < r.queries → under rest r ≡ None
exceeds rest r h = rw (lt-leb r.queries rest h)

-- a run of one query
pub one_query : (rest x : ℕ) → (rest ≡ 0 → ⊥) → under rest (record { value = x; queries = 1 }) ≡ settled x (rest - 1)
one_query rest x ne = fits rest (record { value = x; queries = 1 }) (omega arith)

pub no_query : (rest x : ℕ) → rest ≡ 0 → under rest (record { value = x; queries = 1 }) ≡ None
no_query rest x e = exceeds rest (record { value = x; queries = 1 }) (omega arith)

-- what an outcome tells of the run
pub record Fits (rest : ℕ) (r : Run ℕ) (set left : ℕ) : Type 0 where
  pub few : r.queries ≤ rest
  pub value : r.value ≡ set
  pub over : rest - r.queries ≡ left

never : {set left : ℕ} → None ≡ settled set left → ⊥
never e = let z : ◌≡◌ {A = ℕ} 0 1 = cc in omega arith

pub settled_fits : (rest : ℕ) (r : Run ℕ) (set left : ℕ) → under rest r ≡ settled set left → Fits rest r set left
settled_fits rest r set left e = go (leb r.queries rest) refl
  where
    go : (t : Bool) → leb r.queries rest ≡ t → Fits rest r set left
    go true f =
        let h : r.queries ≤ rest = leb-true r.queries rest f in
        let q : settled r.value (rest - r.queries) ≡ settled set left = sym (fits rest r h) ∙ e in
        let same : ◌≡◌ {A = Settled} (record { set = r.value; left = rest - r.queries }) (record { set = set; left = left }) = cc in
        record { few = h; value = ap (λ (z : Settled). z.set) same; over = ap (λ (z : Settled). z.left) same }
    go false f = absurd (never (sym (exceeds rest r (leb-false r.queries rest f)) ∙ e))

pub spent_exceeds : (rest : ℕ) (r : Run ℕ) → under rest r ≡ None → rest < r.queries
spent_exceeds rest r e = go (leb r.queries rest) refl
  where
    go : (t : Bool) → leb r.queries rest ≡ t → rest < r.queries
    go true f = absurd (never (sym e ∙ fits rest r (leb-true r.queries rest f)))
    go false f = leb-false r.queries rest f

-- a run that goes on after its first round uses up what the round left
goes_on : (rest : ℕ) (r t : Run ℕ) (set left : ℕ) → Fits rest r set left → under rest (then_rounds false r t) ≡ under left t
unfolding then_rounds
goes_on rest r t set left f = go (leb t.queries left) refl
  where
    go : (b : Bool) → leb t.queries left ≡ b → under rest (then_rounds false r t) ≡ under left t
    go true e =
        let h : t.queries ≤ left = leb-true t.queries left e in
        let o : rest - r.queries ≡ left = f.over in
        let few : r.queries ≤ rest = f.few in
        fits rest (then_rounds false r t) (omega arith) ∙ ap (settled t.value) (omega arith) ∙ sym (fits left t h)
    go false e =
        let h : left < t.queries = leb-false t.queries left e in
        let o : rest - r.queries ≡ left = f.over in
        let few : r.queries ≤ rest = f.few in
        exceeds rest (then_rounds false r t) (omega arith) ∙ sym (exceeds left t h)

module _ (round : ℕ → Run ℕ) where
  -- the run from `start` under a ceiling ends as the run from x does under what is left of it; `fuel` rounds are more than are left
  pub record Ahead (run : Run ℕ) (ceiling x rest : ℕ) : Type 0 where
    pub fuel : ℕ
    pub more : rest < fuel
    pub same : under ceiling run ≡ under rest (settle eqb round fuel x)

  -- the next round, which the fuel is enough for
  pub one_round_lem : {run : Run ℕ} {ceiling x rest : ℕ} → Ahead run ceiling x rest
      → (F : ℕ) × (rest < suc F) × (under ceiling run ≡ under rest (then_rounds (eqb (round x).value x) (round x) (settle eqb round F (round x).value)))
  unfolding settle
  one_round_lem {run} {ceiling} {x} {rest} a = go a.fuel a.more a.same
    where
      go : (fuel : ℕ) → rest < fuel → under ceiling run ≡ under rest (settle eqb round fuel x)
          → (F : ℕ) × (rest < suc F) × (under ceiling run ≡ under rest (then_rounds (eqb (round x).value x) (round x) (settle eqb round F (round x).value)))
      go zero h e = absurd (omega arith)
      go (suc F) h e = (F, h, e)

  -- a round that does not fit
  pub round_spent : {run : Run ℕ} {ceiling x rest : ℕ} → Ahead run ceiling x rest → under rest (round x) ≡ None → under ceiling run ≡ None
  unfolding then_rounds
  round_spent {run} {ceiling} {x} {rest} a e =
      let (F, m, s) = one_round_lem a in
      s ∙ go (eqb (round x).value x) (settle eqb round F (round x).value)
    where
      over : rest < (round x).queries
      over = spent_exceeds rest (round x) e

      go : (b : Bool) (t : Run ℕ) → under rest (then_rounds b (round x) t) ≡ None
      go true t = e
      go false t = exceeds rest (then_rounds false (round x) t) (omega (arith, over))

  -- a round that changes nothing
  pub round_same : {run : Run ℕ} {ceiling x rest : ℕ} → Ahead run ceiling x rest → (set left : ℕ) → under rest (round x) ≡ settled set left → set ≡ x
      → under ceiling run ≡ settled set left
  unfolding then_rounds
  round_same {run} {ceiling} {x} {rest} a set left e q =
      let (F, m, s) = one_round_lem a in
      s ∙ rw (eq-eqb (round x).value x ((settled_fits rest (round x) set left e).value ∙ q)) e

  -- a round that changes something, after at least one query
  pub round_more : {run : Run ℕ} {ceiling x rest : ℕ} → Ahead run ceiling x rest → 1 ≤ (round x).queries → (set left : ℕ) → under rest (round x) ≡ settled set left → (set ≡ x → ⊥)
      → Ahead run ceiling set left
  round_more {run} {ceiling} {x} {rest} a p set left e ne =
      let f : Fits rest (round x) set left = settled_fits rest (round x) set left e in
      let few : (round x).queries ≤ rest = f.few in
      let over : rest - (round x).queries ≡ left = f.over in
      let (F, m, s) = one_round_lem a in
      record {
        fuel = F;
        more = omega arith;
        same = s ∙ rw (ne_eqb (round x).value x (λ q. ne (sym f.value ∙ q))) (goes_on rest (round x) _ set left f)
            ∙ ap (λ (z : ℕ). under left (settle eqb round F z)) f.value;
      }

  pub round_less : (x rest : ℕ) → 1 ≤ (round x).queries → (set left : ℕ) → under rest (round x) ≡ settled set left → left < rest
  round_less x rest p set left e =
      let f : Fits rest (round x) set left = settled_fits rest (round x) set left e in
      let few : (round x).queries ≤ rest = f.few in
      let over : rest - (round x).queries ≡ left = f.over in
      omega arith
