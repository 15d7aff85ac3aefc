-- A level that goes over the children of its tree in a loop: what those passed give, with one child more.
-- Assumes nothing.
use mathlib.Core.Bool.{Bool, true, false, cond}
use mathlib.Core.List.{List, [], ◌∷◌, ◌++◌}
use mathlib.Core.Path.{◌≡◌, refl}
use Prim.Native.Nat.{ℕ, suc, ◌≤◌}
use native.Mathlib.Omega.{arith}
use Rattle.fixpoint.proofs.Restricted.{fall_is_rise}
use Rattle.system.specs.System.{System}
use Rattle.evaluator.specs.ByLevels.{Carried, Lowered, Next}
use Rattle.evaluator.specs.Sides.{start_of, moved}
use Rattle.evaluator.specs.declared.Bounds.{Bounds}
use Rattle.evaluator.specs.declared.Pending.{Pending}
use Rattle.evaluator.specs.declared.Decision.{Decision}
use Rattle.routes.specs.declared.shared.Found.{Found}
use Rattle.routes.specs.Parts.{queries_from, level_queries}
use Rattle.routes.proofs.OverChildren.{then, rises_none, rises_child, sum_append}
use Rattle.routes.proofs.Inside.{carried_low, carried_high}
use Rattle.routes.proofs.Levels.{LevelGives, OverGives, LeastGives, GreatestGives, over_inside}

module _ (s : System) (k : ℕ) (ys : List ℕ) (bounds : Bounds) (u v : List ℕ) where
  pub none_passed : (greatest : Bool) → OverGives s k ys bounds u v greatest [] (record { set = start_of greatest bounds; count = 0 })
  none_passed true = rw fall_is_rise (rises_none _ _ _ _ bounds.high)
  none_passed false = rises_none _ _ _ _ bounds.low

  -- the level below goes over the child in place of this level's tree
  pub child_passed : (greatest : Bool) (r c : Found) (passed : List (List ℕ)) (w : List ℕ) → OverGives s k ys bounds u v greatest passed r
      → LevelGives s k (r.set ∷ ys) (moved greatest bounds r.set) (cond greatest u w) (cond greatest w v) c
      → OverGives s k ys bounds u v greatest (passed ++ w ∷ []) (then r c)
  child_passed true r c passed w f g = rw fall_is_rise (rises_child _ _ _ _ r c bounds.high passed w (rw fall_is_rise at f) g)
  child_passed false r c passed w f g = rises_child _ _ _ _ r c bounds.low passed w f g

  -- what is carried holds between the bounds that this level has come to
  pub carried_moved : {w : Pending} (needs : List ℕ) (greatest : Bool) (ts : List (List ℕ)) (r : Found) → OverGives s k ys bounds u v greatest ts r
      → let between = moved greatest bounds r.set in
      Carried s (suc k) ys bounds.low bounds.high w needs → Carried s (suc k) ys between.low between.high w needs
  carried_moved needs true ts r g = carried_high needs (over_inside s k ys bounds u v true ts r g)
  carried_moved needs false ts r g = carried_low needs (over_inside s k ys bounds u v false ts r g)

-- What is left to the level below once this level's value so far is decided beside the arguments above, with a row that this value lowers.
pub next_carried : {s : System} {k : ℕ} {bounds between : Bounds} {w : Pending} {needs : List ℕ} {r : Found} {d : Decision} (row : List ℕ) (greatest : Bool)
    (ts : List (List ℕ)) (u v : List ℕ) → between ≡ moved greatest bounds r.set
    → ((ys : List ℕ) → Carried s (suc k) ys bounds.low bounds.high w needs → OverGives s k ys bounds u v greatest ts r)
    → ((ys : List ℕ) → Carried s (suc k) ys between.low between.high w needs → Next s k r.set ys between.low between.high needs d)
    → Lowered s k r.set d.lowered needs row
    → (ys : List ℕ) → Carried s (suc k) ys bounds.low bounds.high w needs → Carried s k (r.set ∷ ys) between.low between.high d.pending row
next_carried {s} {k} {bounds} {between} {needs = needs} {r} row greatest ts u v e gives decided lower ys c =
    let next = decided ys (rw e (carried_moved s k ys bounds u v needs greatest ts r (gives ys c) c)) in
    (next.decided, next.still_needs_lem row lower)

-- so for a least and for a greatest level, between two bounds
module _ {s : System} {k a b : ℕ} {w : Pending} {needs : List ℕ} {r : Found} {d : Decision} (row : List ℕ) where
  pub least_next : (us : List (List ℕ)) (v : List ℕ) → ((ys : List ℕ) → Carried s (suc k) ys a b w needs → LeastGives s k ys a b us v r)
      → ((ys : List ℕ) → Carried s (suc k) ys r.set b w needs → Next s k r.set ys r.set b needs d)
      → Lowered s k r.set d.lowered needs row → (ys : List ℕ) → Carried s (suc k) ys a b w needs → Carried s k (r.set ∷ ys) r.set b d.pending row
  least_next us v = next_carried {bounds = record { low = a; high = b }} {between = record { low = r.set; high = b }} row false us [] v refl

  pub greatest_next : (u : List ℕ) (vs : List (List ℕ)) → ((ys : List ℕ) → Carried s (suc k) ys a b w needs → GreatestGives s k ys a b u vs r)
      → ((ys : List ℕ) → Carried s (suc k) ys a r.set w needs → Next s k r.set ys a r.set needs d)
      → Lowered s k r.set d.lowered needs row → (ys : List ℕ) → Carried s (suc k) ys a b w needs → Carried s k (r.set ∷ ys) a r.set d.pending row
  greatest_next u vs = next_carried {bounds = record { low = a; high = b }} {between = record { low = a; high = r.set }} row true vs u [] refl

-- the queries of the children passed are among those of all
pub passed_few : (s : System) (k : ℕ) (u v : List ℕ) (greatest : Bool) {all : List (List ℕ)} (passed others : List (List ℕ)) → all ≡ passed ++ others
    → level_queries greatest s k passed u v ≤ level_queries greatest s k all u v
passed_few s k u v true passed others e = rw e (omega (arith, sum_append (λ w. queries_from s k u w) passed others))
passed_few s k u v false passed others e = rw e (omega (arith, sum_append (λ w. queries_from s k w v) passed others))
