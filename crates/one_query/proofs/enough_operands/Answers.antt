use mathlib.Core.Bool.{Bool, true, false}
use mathlib.Core.List.{List}
use mathlib.Core.Path.{◌≡◌, refl, sym, ◌∙◌, ap}
use Prim.Native.Nat.{ℕ, ◌+◌}
use native.Mathlib.Omega.{arith}
use borrow.Author.Tests.{le-leb, lt-leb, eqb-true, eqb-false}
use lib.Dec.{eqb, leb}
use Rattle.system.specs.Query.{count_set}
use Rattle.system.proofs.Masks.{still_needed}
use Rattle.one_query.proofs.Operands.{from, from_start, from_end, count_step}
use Rattle.one_query.proofs.enough_operands.Goals as goal
use Rattle.one_query.proofs.enough_operands.Goals.{After-member_count_at_once-count}

-- of none, only nothing can be needed
of_none : (need : ℕ) → leb need 0 ≡ eqb need 0
of_none need = go (eqb need 0) refl
  where
    go : (t : Bool) → eqb need 0 ≡ t → leb need 0 ≡ t
    go true e = le-leb need 0 (omega (arith, eqb-true need 0 e))
    go false e = let ne : need ≡ 0 → ⊥ = eqb-false need 0 e in lt-leb need 0 (omega arith)

pub loop-k-init : goal.loop-k-init
loop-k-init c = (omega arith, rw from_start)

-- the operands set from this level on are those of its word and those from the next level on
step : (c : After-member_count_at_once-count) →
    let k = c.loop-k.k in
    let rest = λ (j : ℕ). count_set (from c.args.words.now c.args.xs.now j) in
    rest k ≡ c.member_count_at_once-count.result + rest (k + 1)
step c =
    let k = c.loop-k.k in
    let rest = λ (j : ℕ). count_set (from c.args.words.now c.args.xs.now j) in
    count_step c.args.words.now c.args.xs.now k (omega arith) c.u64_at.result c.u64_at.ensures (omega arith) (omega (arith, c.type_inv.xs k))
    ∙ ap (λ (n : ℕ). n + rest (k + 1)) (sym c.member_count_at_once-count.ensures)

pub returns-then-need-count : goal.returns-then-need-count
returns-then-need-count c =
    let l = c.loop-k in
    sym (l.invariant.1 ∙ le-leb l.need _ (omega (arith, step (goal.at.returns-then-need-count c).After-member_count_at_once-count, c.if-need-count.true)))

pub loop-k-preserved : goal.loop-k-preserved
loop-k-preserved c =
    let l = c.loop-k in (
      omega (arith, l.invariant.0),
      l.invariant.1 ∙ ap (leb l.need) (step (goal.at.loop-k-preserved c).After-member_count_at_once-count) ∙ still_needed l.need c.member_count_at_once-count.result _,
    )

pub returns : goal.returns
returns c =
    let l = c.loop-k in
    sym (l.invariant.1 ∙ ap (λ (bits : List Bool). leb l.need (count_set bits)) (from_end _ _ _ c.loop-k-test.false) ∙ of_none l.need)
