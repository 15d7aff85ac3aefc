use mathlib.Core.Bool.{◌&&◌}
use mathlib.Core.Path.{◌≡◌, sym, ◌∙◌, ap}
use Prim.Native.Nat.{ℕ, ◌+◌}
use native.Mathlib.Omega.{arith}
use Rattle.system.specs.Query.{all}
use Rattle.one_query.proofs.Operands.{from, from_start, from_end, all_step}
use Rattle.one_query.proofs.all_operands.Goals as goal
use Rattle.one_query.proofs.all_operands.Goals.{After-within}

-- the operands from this level on are those of its word and those from the next level on
step : (c : After-within) →
    let k = c.loop-k.k in
    let rest = λ (j : ℕ). all (from c.args.words.now c.args.xs.now j) in
    rest k ≡ (c.within.result && rest (k + 1))
step c =
    let k = c.loop-k.k in
    rw c.within.ensures
    (all_step c.args.words.now c.args.xs.now k (omega arith) c.u64_at.result c.u64_at.ensures (omega arith) (omega (arith, c.type_inv.xs k)))

pub loop-k-init : goal.loop-k-init
loop-k-init c = rw from_start

pub returns-then-not-within : goal.returns-then-not-within
returns-then-not-within c = sym (c.loop-k.invariant ∙ step (goal.at.returns-then-not-within c).After-within ∙ rw c.if-not-within.true)

pub loop-k-preserved : goal.loop-k-preserved
loop-k-preserved c = c.loop-k.invariant ∙ step (goal.at.loop-k-preserved c).After-within ∙ rw c.if-not-within.false

pub returns : goal.returns
returns c = sym (c.loop-k.invariant ∙ ap all (from_end _ _ _ c.loop-k-test.false))
