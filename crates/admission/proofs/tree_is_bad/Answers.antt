-- `admission::tree_is_bad` meets its contract: of a tree that is short enough the gaps are searched.
-- Assumes nothing.
use Rattle.std.proofs.Common.{rules, tests}
use Rattle.std.proofs.lemmas.Iterator.{YieldsList-from_slice}
use Rattle.std.proofs.lemmas.Iterator.Search.{any_from_yields_List}
use borrow.Author.Tests.{le-ltb}
use Rattle.answers.specs.Check.{outside}
use Rattle.admission.proofs.tree_is_bad.Goals as goal

pub returns-else-gaps-gt-MAX_GAPS : goal.returns-else-gaps-gt-MAX_GAPS
returns-else-gaps-gt-MAX_GAPS c =
    rw (le-ltb 1023 _ c.if-gaps-gt-MAX_GAPS.false)
    (any_from_yields_List (outside c.args.h) _ _ _ c.any.ensures.ran (YieldsList-from_slice c.args.gaps.now cc) (λ x b q k. search (rules, tests)))
