use mathlib.Core.Path.{◌≡◌, sym, ◌∙◌, ap}
use Prim.Native.Nat.{ℕ, ◌+◌, ◌*◌, ◌≤◌}
use native.Mathlib.Nat.{mul_comm, mul_assoc}
use native.Mathlib.Omega.{arith}
use lib.Count.{count_trailing_zeros}
use lib.ListN.{length}
use Rattle.system.specs.Query.{query}
use Rattle.model.proofs.Sizes.{line_fits}
use Rattle.sets.proofs.PassedLines.{LowestLine, lowest_line, found_all, found_more, found_same}
use Rattle.one_query.proofs.Values.{value_at, parts_fit, value_at_words, found_lines}
use Rattle.one_query.proofs.evaluate_lines.Goals as goal
use Rattle.one_query.proofs.evaluate_lines.Goals.{After-line_value, In-loop-rest}

-- the line that is looked at, with its words
record Looked (bytes n d at rest t : ℕ) : Type 0 where
  line : LowestLine n rest t
  begins : 8 * d * t ≡ 8 * (t * d)
  room : at + 8 * d * t + 8 * d ≤ bytes

at_line : (c : In-loop-rest) →
    let z = c.args in
    let rest = c.loop-rest.rest in
    Looked (length z.file.bytes.now) z.file.model.lines z.file.model.levels c.words_in-at.result rest (count_trailing_zeros 64 rest)
at_line c =
    let laid = c.args.file.held.laid_out in
    let d = c.args.file.model.levels in
    let rest = c.loop-rest.rest in
    let t = count_trailing_zeros 64 rest in
    let line = lowest_line laid.few_lines c.requires.1 rest c.loop-rest.invariant.passed.few c.loop-rest-test.true in
    let begins : 8 * d * t ≡ 8 * (t * d) = mul_assoc 8 d t ∙ ap (λ (y : ℕ). 8 * y) (mul_comm d t) in
    record {
      line = line;
      begins = begins;
      room = omega (arith, begins, laid.whole, line_fits d line.one, c.words_in-at.ensures);
    }

pub slice_bounds-words-count : goal.slice_bounds-words-count
slice_bounds-words-count c = omega (arith, (at_line (goal.at.slice_bounds-words-count c).In-loop-rest).room)

pub slice_bounds-words-start : goal.slice_bounds-words-start
slice_bounds-words-start c = omega (arith, (at_line (goal.at.slice_bounds-words-start c).In-loop-rest).room)

pub kind-requires : goal.kind-requires
kind-requires c = rw c.laid-laid.ensures.1 (at_line (goal.at.kind-requires c).In-loop-rest).line.one

pub threshold-requires : goal.threshold-requires
threshold-requires c = rw c.laid-laid.ensures.1 (at_line (goal.at.threshold-requires c).In-loop-rest).line.one

pub line_value-requires : goal.line_value-requires
line_value-requires c = parts_fit c.args.file.bytes.now c.args.xs.now c.args.file.model.levels _ c.requires.0 (at_line (goal.at.line_value-requires c).In-loop-rest).room

-- what the call gives is the value of the line
value : (c : After-line_value) →
    let z = c.args in
    let t = count_trailing_zeros 64 c.loop-rest.rest in
    Looked (length z.file.bytes.now) z.file.model.lines z.file.model.levels c.words_in-at.result c.loop-rest.rest t → c.line_value.result ≡ value_at z.file.bytes.now z.file.model z.xs.now t
value c l =
    let z = c.args in
    let same = c.laid-laid.ensures in
    let t = count_trailing_zeros 64 c.loop-rest.rest in
    c.line_value.ensures
    ∙ value_at_words z.file.bytes.now z.file.model z.xs.now t _ _ _ l.line.one c.requires.0 (rw (same.0, same.1) at c.kind.ensures) (rw (same.0, same.1) at c.threshold.ensures)
    (omega (arith, l.begins, c.words_in-at.ensures))

pub loop-rest-preserved-then-line_value : goal.loop-rest-preserved-then-line_value
loop-rest-preserved-then-line_value c =
    let l = at_line (goal.at.loop-rest-preserved-then-line_value c).In-loop-rest in
    found_more _ _ l.line.low c.loop-rest.invariant (sym (value (goal.at.loop-rest-preserved-then-line_value c).After-line_value l) ∙ c.if-line_value.true)

pub loop-rest-preserved : goal.loop-rest-preserved
loop-rest-preserved c =
    let l = at_line (goal.at.loop-rest-preserved c).In-loop-rest in
    found_same _ _ l.line.low c.loop-rest.invariant (sym (value (goal.at.loop-rest-preserved c).After-line_value l) ∙ c.if-line_value.false)

pub returns : goal.returns
unfolding query
returns c =
    let z = c.args in
    let end : c.loop-rest.rest ≡ 0 = c.loop-rest-test.false in
    found_lines z.file.model.lines z.lines c.loop-rest.found (value_at z.file.bytes.now z.file.model z.xs.now) c.requires.1
    (found_all _ z.lines c.loop-rest.found (rw end at c.loop-rest.invariant))
