-- That gaps are those of a lent tree has one proof at most, as a ghost field asks.
-- Assumes nothing.
use Rattle.std.specs.Prelude.{List, [], ◌∷◌, ℕ, refl}
use Rattle.std.specs.Coded.{le_prop}
use Rattle.trees.specs.Tree.{IsTree, leaf, gap}
use Rattle.routes.specs.Parts.{Lent}

IsTree-prop : (h : ℕ) (gaps : List ℕ) → IsProp (IsTree h gaps)
IsTree-prop h [] leaf leaf = refl
IsTree-prop h (g ∷ gs) (gap a b t) (gap c d u) = λ i. gap (le_prop a c i) (le_prop b d i) (IsTree-prop h gs t u i)

pub Lent-prop : (h : ℕ) (gaps : List ℕ) → IsProp (Lent h gaps)
Lent-prop h gaps a b = λ i. record { tree = IsTree-prop h gaps a.tree b.tree i; few = le_prop a.few b.few i }
