-- `report::put_share` meets its contract: the line has the share of the set that was found, and of a judgement that is refused there is none.
-- Assumes nothing.
use mathlib.Core.Bool.{false}
use mathlib.Core.Path.{◌≡◌, refl}
use native.Mathlib.Omega.{arith}
use borrow.Author.Tests.{ne_eqb}
use lib.Dec.{eqb}
use Rattle.std.specs.Prelude.{Result, Ok, Err}
use Rattle.answers.specs.Answer.{number_of}
use Rattle.answers.proofs.Checks.{number_positive}
use Rattle.routes.specs.declared.shared.Found.{Found}
use Rattle.solver.specs.Says.{judged_answer}
use Rattle.solver.specs.declared.Unjudged.{Unjudged}
use Rattle.solver.specs.declared.Unjudged.TheVariants.{OverCeiling, Refused}
use Rattle.report.proofs.put_share.Goals as goal

-- what is not judged is refused
refused : (j : Result Found Unjudged) → ((found : Found) → j ≡ Ok found → ⊥) → eqb (judged_answer j).number 0 ≡ false
refused (Ok found) h = absurd (h found refl)
refused (Err (OverCeiling forecast)) h = refl
refused (Err (Refused e)) h = ne_eqb (number_of e) 0 (λ z. omega (arith, number_positive e))

pub returns-in_default : goal.returns-in_default
returns-in_default c = rw (refused c.args.judged c.in_default.not-Ok) c.put.ensures
