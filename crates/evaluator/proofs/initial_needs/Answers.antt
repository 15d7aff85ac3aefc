use mathlib.Core.Path.{◌≡◌, refl, sym, ◌∙◌}
use Prim.Native.Nat.{ℕ, zero, suc, ◌≤◌}
use native.Mathlib.Omega.{arith}
use lib.ListN.{replicate, get_or-replicate}
use Rattle.model.specs.Held.{system_in}
use Rattle.model.proofs.Places.{old_threshold}
use Rattle.evaluator.specs.ByLevels.{needed}
use Rattle.evaluator.proofs.DecidedLines.{carried_none}
use Rattle.evaluator.proofs.initial_needs.Goals as goal

one_needed : (k t : ℕ) → t ≡ 0 → (2 ≤ k → 1 ≤ t) → needed k t ≡ 1
one_needed zero t e v = refl
one_needed (suc zero) t e v = refl
one_needed (suc (suc k)) t e v = absurd (omega (arith, v (omega arith)))

pub returns-then-is_old : goal.returns-then-is_old
returns-then-is_old c = λ a b.
    let z = c.args in
    carried_none (system_in z.file.bytes.now z.file.model) z.file.model.levels (replicate 64 1)
    (λ i l. get_or-replicate 64 i 1 0 (omega (arith, c.args.file.held.laid_out.few_lines)) ∙ sym (one_needed _ _ (old_threshold _ _ z.file.bytes.now i (sym c.is_old.ensures ∙ c.if-is_old.true)) (c.args.file.held.votes i))) a b

pub returns : goal.returns
returns c = λ a b.
    let z = c.args in
    let all : c.loop-i.i ≡ z.file.model.lines = omega arith in
    carried_none (system_in z.file.bytes.now z.file.model) z.file.model.levels c.loop-i.needs (λ i l. c.loop-i.invariant.passed i (omega arith)) a b
