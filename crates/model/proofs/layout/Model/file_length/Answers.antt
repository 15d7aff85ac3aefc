-- `model::layout::Model::file_length` meets its contract: 64 lines of 8 words are few enough.
-- Assumes nothing.
use native.Mathlib.Omega.{arith}
use Rattle.model.proofs.Sizes.{few_words}
use Rattle.model.proofs.layout.Model.file_length.Goals as goal

pub overflow_mul-result-2 : goal.overflow_mul-result-2
overflow_mul-result-2 c = omega (arith, few_words c.requires.0 c.requires.1)

pub overflow_mul-result-3 : goal.overflow_mul-result-3
overflow_mul-result-3 c = omega (arith, few_words c.requires.0 c.requires.1)

pub overflow_add-result-3 : goal.overflow_add-result-3
overflow_add-result-3 c = omega (arith, few_words c.requires.0 c.requires.1)
