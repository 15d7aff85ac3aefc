-- `solver_c::solver_read` meets its contract: the words and the four lists are as the operation left them.
-- Assumes nothing.
use mathlib.Core.Path.{ap, ◌∙◌}
use Rattle.answer_c.specs.Words.{six_words}
use Rattle.solver_c.proofs.solver_read.Goals as goal

pub returns : goal.returns
returns c =
    let read = c.read.ensures in record {
      answer_after = c.reading.ensures ∙ ap six_words read.answer;
      read_leaves = read.left;
    }
