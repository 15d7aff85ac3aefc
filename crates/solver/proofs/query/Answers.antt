-- `solver::query` meets its contract: checking's refusal is handed on; then the arguments are checked, and the set is that
-- of the file's system.
-- Assumes nothing.
use borrow.Author.Tests.{eq-eqb, ne_eqb}
use mathlib.Core.Bool.{cond}
use mathlib.Core.List.{List}
use mathlib.Core.Path.{◌≡◌, sym, ◌∙◌, ap}
use Prim.Native.Nat.{ℕ}
use lib.Dec.{eqb}
use lib.ListN.{length}
use Rattle.std.proofs.lemmas.Result.{err_from_is_err_and}
use Rattle.answers.specs.Check.{first_of}
use Rattle.model.specs.File.{levels_in, decode}
use Rattle.system.specs.System.{System}
use Rattle.system.specs.Query as spec
use Rattle.model.specs.Checks.{some, strays}
use Rattle.checker.specs.Checks.{file_checks, file_number}
use Rattle.model.specs.declared.layout.Model.{Model}
use Rattle.model.proofs.Refusals.{refused_before, refused_answer}
use Rattle.checker.proofs.Accepted.{Checked, checked, refused, held_decoded, after_file}
use Rattle.solver.specs.Checks.{argument_checks, query_number}
use Rattle.solver.specs.Says.{valued}
use Rattle.solver.proofs.query.Goals as goal
use Rattle.solver.proofs.query.Goals.{In_ok-held, After-one_strays}

-- a file that is accepted
module _ (file xs : List ℕ) {m : Model} (known : Checked file m) where
  -- only the arguments are left to check
  further : query_number file xs ≡ first_of (argument_checks file xs)
  unfolding query_number
  further = after_file file (argument_checks file xs) known.counts.number

  length-test : eqb (length xs) (levels_in file) ≡ eqb (length xs) m.levels
  length-test = ap (eqb (length xs)) (sym known.counts.levels)

known : (c : In_ok-held) → Checked c.args.file.now c.in_ok-held.held.model
known c = checked c.args.file.now c.in_ok-held.ensures.answer

pub returns-in_err-held : goal.returns-in_err-held
unfolding query_number file_number
returns-in_err-held c =
    let file = c.args.file.now in
    let xs = c.args.xs.now in
    let same = err_from_is_err_and c.from_residual.result c.from_residual.ensures.1 in
    rw (same.1, same.2)
    (refused_answer (refused_before (file_checks file) (argument_checks file xs) (refused file c.in_err-held.ensures.answer)) (valued (spec.query (decode file) xs)))

pub returns-then-xs-held : goal.returns-then-xs-held
returns-then-xs-held c =
    let file = c.args.file.now in
    let xs = c.args.xs.now in
    let ok = known (goal.at.returns-then-xs-held c).In_ok-held in
    rw (further file xs ok, length-test file xs ok, ne_eqb _ _ c.if-xs-held.true)

-- only the arguments' lines are left to check
counted : (c : After-one_strays) → query_number c.args.file.now c.args.xs.now ≡ cond c.one_strays.result 9 0
counted c =
    let file = c.args.file.now in
    let xs = c.args.xs.now in
    let ok = checked file c.in_ok-held.ensures.answer in
    let strayed = c.one_strays.ensures ∙ ap (λ (n : ℕ). some (strays n) xs) ok.counts.lines in
    rw (further file xs ok, length-test file xs ok, eq-eqb _ _ c.if-xs-held.false, sym strayed)

pub returns-then-one_strays : goal.returns-then-one_strays
returns-then-one_strays c = rw (counted (goal.at.returns-then-one_strays c).After-one_strays, c.if-one_strays.true)

pub returns : goal.returns
returns c =
    let file = c.args.file.now in
    let own = held_decoded c.in_ok-held.held c.in_ok-held.ensures.same (checked file c.in_ok-held.ensures.answer) in
    rw (counted (goal.at.returns c).After-one_strays, c.if-one_strays.false)
    (ap valued (c.query.ensures ∙ ap (λ (s : System). spec.query s c.args.xs.now) own))
