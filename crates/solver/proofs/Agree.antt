-- Judging plainly and judging by built-in trees answer the same set wherever both accept. Judging plainly with a ceiling of 0
-- is refused with 10 wherever no earlier number applies (document 01).
-- Assumes nothing.
use Rattle.std.specs.Prelude.{Result}
use mathlib.Core.List.{List}
use mathlib.Core.Path.{◌≡◌, refl, sym, ◌∙◌}
use Prim.Native.Nat.{ℕ}
use native.Mathlib.Omega.{arith}
use borrow.Author.Tests.{lt-ltb}
use Rattle.fixpoint.proofs.Plain.{plain_positive}
use Rattle.model.specs.File.{decode}
use Rattle.model.proofs.Refusals.{none_of, none_over}
use Rattle.routes.specs.declared.shared.Found.{Found}
use Rattle.routes.specs.Routes.{plain_run}
use Rattle.admission.specs.Checks.{bound_number}
use Rattle.solver.specs.Checks.{plain_number}
use Rattle.solver.specs.Says.{judged_answer, PlainSays, BuiltSays}
use Rattle.solver.specs.declared.Unjudged.{Unjudged}
use Rattle.admission.proofs.Admitted.{after_bounds}
use Rattle.solver.proofs.Answers.{ceiling_checks}

pub operations_agree :
    (file : List ℕ) (a b ceiling ceiling' : ℕ) (p t : Result Found Unjudged) → PlainSays file a b ceiling p → BuiltSays file a b ceiling' t
    → (judged_answer p).number ≡ 0 → (judged_answer t).number ≡ 0 → (judged_answer p).set ≡ (judged_answer t).set
operations_agree file a b ceiling ceiling' p t plain tree ok ok' =
    plain.nested (none_of _ _ _ plain.answer refl ok) ∙ sym (tree.nested (none_over _ _ _ _ tree.answer refl ok'))

-- every run makes a query
pub ceiling_zero : (file : List ℕ) (a b : ℕ) → bound_number file a b ≡ 0 → plain_number file a b 0 ≡ 10
unfolding plain_number
ceiling_zero file a b h =
    after_bounds file a b (ceiling_checks file a b 0) h ∙ rw (lt-ltb 0 (plain_run (decode file) a b).queries (plain_positive _ _ _ _ _ _ _ (omega arith) _ _))
