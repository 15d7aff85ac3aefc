-- A lent tree that is not bad is one of its height, and short enough.
-- Assumes nothing.
use mathlib.Core.Bool.{false}
use mathlib.Core.List.{List, [], ◌∷◌}
use mathlib.Core.Path.{◌≡◌}
use Prim.Native.Nat.{ℕ, ◌-◌}
use mathlib.Mathlib.Data.Bool.Basic.{or-eq-false-eq-eq-false-and-eq-false as neither}
use borrow.Author.Tests.{ltb-false}
use lib.Dec.{ltb}
use lib.ListN.{length}
use Rattle.answers.specs.Check.{outside}
use Rattle.answers.proofs.Checks.{inside}
use Rattle.trees.specs.Tree.{IsTree, leaf, gap}
use Rattle.model.specs.Checks.{some}
use Rattle.routes.specs.Parts.{Lent}
use Rattle.admission.specs.Checks.{bad_tree}

-- a tree that is not bad is one of its height, as short as may be lent
pub good_tree : (h : ℕ) (gaps : List ℕ) → bad_tree h gaps ≡ false → Lent h gaps
good_tree h gaps e =
    let both = (neither (ltb 1023 (length gaps)) (some (outside h) gaps)).0 e in
    record { tree = within gaps both.1; few = ltb-false 1023 (length gaps) both.0 }
  where
    within : (gs : List ℕ) → some (outside h) gs ≡ false → IsTree h gs
    within [] e = leaf
    within (g ∷ gs) e =
        let both = (neither (outside h g) (some (outside h) gs)).0 e in
        let bounds = inside h g both.0 in
        gap bounds.0 bounds.1 (within gs both.1)
