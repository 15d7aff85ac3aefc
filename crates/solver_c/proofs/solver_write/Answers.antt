-- `solver_c::solver_write` meets its contract: the words and the buffer are as the operation left them.
-- Assumes nothing.
use mathlib.Core.Path.{ap, ◌∙◌}
use Rattle.answer_c.specs.Words.{six_words}
use Rattle.solver_c.proofs.solver_write.Goals as goal

pub returns : goal.returns
returns c =
    let wrote = c.write.ensures in record {
      answer_after = c.written.ensures ∙ ap six_words wrote.answer;
      write_leaves = wrote.left;
    }
