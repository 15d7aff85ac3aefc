-- `solver_c::solver_query` meets its contract: the words are those of the operation's answer.
-- Assumes nothing.
use mathlib.Core.Path.{ap, ◌∙◌}
use Rattle.answer_c.specs.Words.{six_words}
use Rattle.solver_c.proofs.solver_query.Goals as goal

pub returns : goal.returns
returns c = c.queried.ensures ∙ ap six_words c.query.ensures
