-- `view::plain` meets its contract: the evaluator's outcome with all levels left is that of the whole route.
-- Assumes nothing.
use mathlib.Core.List.{[]}
use Rattle.model.specs.Files.{held_system}
use Rattle.view.proofs.Whole.{plain_whole}
use Rattle.view.proofs.plain.Goals as goal

pub plain_level-requires-clause-carried : goal.plain_level-requires-clause-carried
plain_level-requires-clause-carried c =
    let bounds = c.args.bounds in
    ([], (c.begin.ensures bounds.low bounds.high, c.initial_needs-needs.ensures bounds.low bounds.high))

pub returns : goal.returns
returns c =
    let bounds = c.args.bounds in
    plain_whole (held_system c.args.file) bounds.low bounds.high c.args.ceiling _ c.requires.1 (λ rounds h. c.plain_level.ensures rounds h [] (c.begin.ensures bounds.low bounds.high, c.initial_needs-needs.ensures bounds.low bounds.high))
