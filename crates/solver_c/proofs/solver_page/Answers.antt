-- `solver_c::solver_page` meets its contract: the words and the buffer are as the operation left them.
-- Assumes nothing.
use mathlib.Core.Path.{ap, ◌∙◌}
use Rattle.answer_c.specs.Words.{six_words}
use Rattle.solver_c.proofs.solver_page.Goals as goal

pub returns : goal.returns
returns c =
    let made = c.make_page.ensures in record {
      answer_after = c.paged.ensures ∙ ap six_words made.answer;
      page_leaves = made.left;
    }
