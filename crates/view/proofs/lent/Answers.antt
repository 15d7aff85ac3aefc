-- `view::lent` meets its contract: the evaluator's set and count with all levels left are those of the whole route.
-- Assumes nothing.
use mathlib.Core.List.{[]}
use Rattle.view.proofs.lent.Goals as goal

pub lent_level-requires-clause-carried : goal.lent_level-requires-clause-carried
lent_level-requires-clause-carried c =
    let bounds = c.args.bounds in
    ([], (c.begin.ensures bounds.low bounds.high, c.initial_needs-needs.ensures bounds.low bounds.high))

pub returns : goal.returns
returns c =
    let bounds = c.args.bounds in
    c.lent_level.ensures [] (c.begin.ensures bounds.low bounds.high, c.initial_needs-needs.ensures bounds.low bounds.high)
