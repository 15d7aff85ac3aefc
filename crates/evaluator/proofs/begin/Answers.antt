-- `evaluator::begin` meets its contract: without arguments every line is open, as it is without operands.
-- Assumes nothing.
use mathlib.Core.Path.{◌∙◌, ap}
use native.Mathlib.Nat.{min-eq_left}
use Rattle.sets.specs.Set.{full}
use Rattle.model.specs.Held.{system_in}
use Rattle.evaluator.proofs.DecidedLines.{decided_none}
use Rattle.evaluator.proofs.begin.Goals as goal

pub returns : goal.returns
returns c =
    let z = c.args in
    decided_none (system_in z.file.bytes.now z.file.model) z.file.model.levels _ c.initial_set.ensures
    (c.full_set.ensures ∙ ap full (min-eq_left c.args.file.held.laid_out.few_lines))
