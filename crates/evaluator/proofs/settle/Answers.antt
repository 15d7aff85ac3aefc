-- `evaluator::settle` meets its contract: with the argument of level 1 every argument is known.
-- Assumes nothing.
use mathlib.Core.List.{◌∷◌}
use Rattle.model.specs.Held.{system_in}
use Rattle.evaluator.proofs.DecidedLines.{decided_all}
use Rattle.evaluator.proofs.settle.Goals as goal

pub returns : goal.returns
returns c = λ ys d.
    let z = c.args in
    decided_all (system_in z.file.bytes.now z.file.model) (z.x ∷ ys) z.bounds.low z.bounds.high _ (c.decide-decision.ensures.next ys d).decided
