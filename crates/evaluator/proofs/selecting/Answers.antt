use mathlib.Core.Bool.{not, ◌&&◌}
use mathlib.Core.Path.{◌≡◌, refl, ◌∙◌}
use Prim.Native.Nat.{◌*◌}
use native.Mathlib.Omega.{arith}
use borrow.Author.Tests.{eq-eqb, ne_eqb}
use lib.Count.{count_trailing_zeros}
use lib.Dec.{eqb}
use lib.ListN.{length}
use Rattle.sets.specs.Set.{intersection}
use Rattle.system.specs.Query.{any}
use Rattle.sets.proofs.PassedLines.{found_all, found_more, found_same}
use Rattle.evaluator.proofs.LookedLines.{any_masked, Looked, looked, in_lines}
use Rattle.evaluator.proofs.selecting.Invariants.{has}
use Rattle.evaluator.proofs.selecting.Goals as goal
use Rattle.evaluator.proofs.selecting.Goals.{After-u64_at, In-loop-rest}

-- the line that is looked at
at_line : (c : In-loop-rest) →
    let z = c.args in
    let rest = c.loop-rest.rest in
    Looked (length z.file.bytes.now) z.file.model.lines c.level_words-at.result (8 * z.file.model.levels) rest (count_trailing_zeros 64 rest)
at_line c =
    looked c.args.file.held.laid_out c.requires.0 c.level_words-at.ensures refl c.requires.1 c.loop-rest.rest c.loop-rest.invariant.passed.few c.loop-rest-test.true

pub u64_at-requires : goal.u64_at-requires
u64_at-requires c = (at_line (goal.at.u64_at-requires c).In-loop-rest).room

-- what the test finds is whether the line has such an operand
tested : (c : After-u64_at) →
    let z = c.args in
    has z.file.bytes.now c.level_words-at.result (8 * z.file.model.levels) z.x (count_trailing_zeros 64 c.loop-rest.rest)
    ≡ not (eqb (intersection c.u64_at.result z.x) 0)
tested c =
    any_masked c.args.file.bytes.now c.level_words-at.result (8 * c.args.file.model.levels) c.args.x
    (count_trailing_zeros 64 c.loop-rest.rest) c.u64_at.result c.u64_at.ensures (omega arith) (omega arith)

pub loop-rest-preserved-then-u64_at-x-ne0 : goal.loop-rest-preserved-then-u64_at-x-ne0
loop-rest-preserved-then-u64_at-x-ne0 c = found_more _ _ (at_line (goal.at.loop-rest-preserved-then-u64_at-x-ne0 c).In-loop-rest).low c.loop-rest.invariant (tested (goal.at.loop-rest-preserved-then-u64_at-x-ne0 c).After-u64_at ∙ rw (ne_eqb _ 0 c.if-u64_at-x-ne0.true))

pub loop-rest-preserved : goal.loop-rest-preserved
loop-rest-preserved c = found_same _ _ (at_line (goal.at.loop-rest-preserved c).In-loop-rest).low c.loop-rest.invariant (tested (goal.at.loop-rest-preserved c).After-u64_at ∙ rw (eq-eqb _ 0 c.if-u64_at-x-ne0.false))

pub returns : goal.returns
returns c =
    let z = c.args in
    let end : c.loop-rest.rest ≡ 0 = c.loop-rest-test.false in
    (λ i. found_all _ z.lines c.loop-rest.found (rw end at c.loop-rest.invariant) i
    ∙ in_lines c.args.file.held.laid_out c.requires.0 c.level_words-at.ensures refl c.requires.1 z.x i (λ t bits. t && any bits) (λ bs cs. refl))
