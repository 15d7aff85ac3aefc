use mathlib.Core.Path.{◌≡◌, ◌∙◌, ap}
use native.Mathlib.Nat.{min-eq_left}
use native.Mathlib.Omega.{arith}
use lib.ListN.{length, length-set, take}
use lib.Pow.{ones_lt, pow-lt}
use lib.Seq.{get_or-take, length-take-le}
use Rattle.lists.proofs.Front.{entries_more}
use Rattle.sets.specs.Set.{full}
use Rattle.model.specs.File.{sections}
use Rattle.model.proofs.Lines.{words_of_lem}
use Rattle.met_lines.specs.MetLines.{operand_set}
use Rattle.met_lines.proofs.Search.{table_search}
use Rattle.met_lines.proofs.met_lines.Goals as goal
use Rattle.met_lines.proofs.met_lines.Goals.{After-full_set}

pub loop-i-preserved : goal.loop-i-preserved
loop-i-preserved c =
    let l = c.loop-i in
    let m = c.args.file.model in
    let file = c.args.file.bytes.now in
    let few = c.args.file.laid_out.few_lines in
    let operands : c.operand_set.result ≡ operand_set (sections m.lines m.levels file) l.i =
    c.operand_set.ensures ∙ rw (c.words_in-words.ensures, words_of_lem m.lines m.levels file l.i c.loop-i-test.true) in
    record {
      long = length-set l.operands l.i c.operand_set.result ∙ l.invariant.long;
      passed = entries_more (operand_set (sections m.lines m.levels file)) l.operands l.i c.operand_set.result (omega (arith, l.invariant.long, few)) operands l.invariant.passed;
    }

-- the table of all lines; and all lines are allowed
whole : (c : After-full_set) → (length (take c.args.file.model.lines c.loop-i.operands) ≡ c.args.file.model.lines) × (c.full_set.result ≡ full c.args.file.model.lines)
whole c =
    let few = c.args.file.laid_out.few_lines in
    (length-take-le _ _ (omega (arith, few, c.loop-i.invariant.long)), c.full_set.ensures ∙ ap full (min-eq_left few))

pub reached-requires-clause-allowed_bound : goal.reached-requires-clause-allowed_bound
reached-requires-clause-allowed_bound c =
    let (long, mask) = whole (goal.at.reached-requires-clause-allowed_bound c).After-full_set in
    rw (long, mask) (ones_lt c.args.file.model.lines, pow-lt c.requires.le_lines)

pub returns : goal.returns
returns c =
    let l = c.loop-i in
    let m = c.args.file.model in
    let n = m.lines in
    let (long, mask) = whole (goal.at.returns c).After-full_set in
    c.reached.ensures
    ∙ table_search (sections n m.levels c.args.file.bytes.now) (take n l.operands) long mask
    (λ p h. get_or-take n l.operands p 0 h ∙ l.invariant.passed p (omega arith))
