-- `solver_c::solver_one_sided` meets its contract: the answer and the lent words are as the operation left them.
-- Assumes nothing.
use mathlib.Core.Path.{ap, ◌∙◌}
use Rattle.answer_c.specs.Words.{six_words}
use Rattle.solver_c.proofs.solver_one_sided.Goals as goal

pub returns : goal.returns
returns c =
    let made = c.solve_one_sided.ensures in record {
      answer_after = c.judged.ensures ∙ ap six_words made.answer;
      one_sided_leaves = made.left;
    }
