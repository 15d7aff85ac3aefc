-- Lists whose entries are all below a bound, as the bytes and the words of a slice are.
-- Assumes nothing.
use Rattle.std.specs.Prelude.{List, [], ◌∷◌, ℕ, ◌<◌}

pub data AllBelow (b : ℕ) : List ℕ → Type 0 where
  none : AllBelow b []
  more : {x : ℕ} {xs : List ℕ} → x < b → AllBelow b xs → AllBelow b (x ∷ xs)
