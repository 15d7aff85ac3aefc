-- An answer as the six words that a caller from C or Rust is given.
-- Assumes nothing.
use Rattle.std.specs.Prelude.{List, [], ◌∷◌, ℕ}
use Rattle.answers.specs.Answer.{Answer}

abbrev pub six_words : Answer → List ℕ
six_words r = r.number ∷ r.set ∷ r.count ∷ r.length ∷ r.lines ∷ r.levels ∷ []
