-- `model::place::is_old` meets its contract: the third offset is an old file's.
-- Assumes nothing.
use mathlib.Core.Path.{ap₂}
use lib.Dec.{eqb}
use Rattle.model.proofs.place.is_old.Goals as goal

pub returns : goal.returns
returns c = ap₂ eqb c.words_in.ensures c.old_words_at.ensures
