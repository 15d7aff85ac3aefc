use mathlib.Core.Bool.{not, ◌||◌}
use mathlib.Core.Path.{◌≡◌, sym, ◌∙◌, ap}
use Prim.Native.Nat.{ℕ, ◌+◌}
use native.Mathlib.Omega.{arith}
use borrow.Author.Tests.{eq-eqb, ne_eqb}
use lib.Dec.{eqb}
use lib.ListN.{get_or}
use Rattle.sets.specs.Set.{intersection}
use Rattle.system.specs.Query.{any}
use Rattle.one_query.proofs.Operands.{from, from_start, from_end, any_step}
use Rattle.one_query.proofs.any_operand.Goals as goal
use Rattle.one_query.proofs.any_operand.Goals.{After-u64_at}

-- the operands from this level on are those of its word and those from the next level on
step : (c : After-u64_at) →
    let k = c.loop-k.k in
    let rest = λ (j : ℕ). any (from c.args.words.now c.args.xs.now j) in
    rest k ≡ (not (eqb (intersection c.u64_at.result (get_or c.args.xs.now k 0)) 0) || rest (k + 1))
step c =
    let k = c.loop-k.k in
    any_step c.args.words.now c.args.xs.now k (omega arith) c.u64_at.result c.u64_at.ensures (omega arith) (omega (arith, c.type_inv.xs k))

pub loop-k-init : goal.loop-k-init
loop-k-init c = rw from_start

pub returns-then-u64_at-x-ne0 : goal.returns-then-u64_at-x-ne0
returns-then-u64_at-x-ne0 c = sym (c.loop-k.invariant ∙ step (goal.at.returns-then-u64_at-x-ne0 c).After-u64_at ∙ rw (ne_eqb _ 0 c.if-u64_at-x-ne0.true))

pub loop-k-preserved : goal.loop-k-preserved
loop-k-preserved c = c.loop-k.invariant ∙ step (goal.at.loop-k-preserved c).After-u64_at ∙ rw (eq-eqb _ 0 c.if-u64_at-x-ne0.false)

pub returns : goal.returns
returns c = sym (c.loop-k.invariant ∙ ap any (from_end _ _ _ c.loop-k-test.false))
