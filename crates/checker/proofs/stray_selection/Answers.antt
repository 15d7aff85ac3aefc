use borrow.Author.Count.{below_more}
use borrow.Author.Tests.{eq-eqb, ne_eqb}
use mathlib.Core.Bool.{Bool, not}
use mathlib.Core.List.{List}
use mathlib.Core.Path.{◌≡◌, refl, sym, ◌∙◌, ap}
use native.Mathlib.Nat.{mul-le-mul_right}
use native.Mathlib.Omega.{arith}
use Prim.Native.Nat.{ℕ, ◌+◌, ◌*◌, ◌<◌}
use Rattle.sets.specs.Set.{is_within}
use Rattle.numbers.specs.Numbers.{number_at}
use Rattle.model.specs.File.{words_in}
use Rattle.model.specs.Checks.{strays}
use Rattle.model.proofs.Searches.{below_true, below_false}
use Rattle.model.proofs.Sizes.{line_fits, strays_mask}
use Rattle.model.proofs.Lines.{some_words}
use Rattle.checker.proofs.stray_selection.Invariants.{Passed}
use Rattle.checker.proofs.stray_selection.Goals as goal
use Rattle.checker.proofs.stray_selection.Goals.{After-u64_at-w, In-loop-k}

again : {file : List ℕ} {n j : ℕ} {stray : Bool} → Passed file n j stray → (j' : ℕ) → j ≡ j' → Passed file n j' stray
again h j' e = rw e at h

pub search-init : goal.search-init
search-init c = record { found = refl; none = λ w l. absurd (omega arith) }

pub loop-k-init : goal.loop-k-init
loop-k-init c = again c.search.invariant _ (omega arith)

-- the word at the loops' place is one of the file
word_in : (c : In-loop-k) →
    let m = c.args.file.model in
    c.search.i * m.levels + c.loop-k.k < m.lines * m.levels
word_in c =
    let m = c.args.file.model in
    omega (arith, line_fits m.levels c.search-test.true)

-- what the test says of that word
strayed : (c : After-u64_at-w) →
    let file = c.args.file.bytes.now in
    let m = c.args.file.model in
    let j = c.search.i * m.levels + c.loop-k.k in
    strays m.lines (number_at file (words_in file + 8 * j) 8) ≡ not (is_within c.u64_at-w.result c.full_set-all.result)
strayed c =
    let file = c.args.file.bytes.now in
    let m = c.args.file.model in
    let j = c.search.i * m.levels + c.loop-k.k in
    ap (λ (at : ℕ). strays m.lines (number_at file (at + 8 * j) 8)) (sym c.words_in-first.ensures)
    ∙ ap (strays m.lines) (sym c.u64_at-w.ensures)
    ∙ sym (strays_mask c.u64_at-w.result c.args.file.laid_out.few_lines c.full_set-all.ensures)

pub loop-k-preserved : goal.loop-k-preserved
loop-k-preserved c =
    let within = strayed (goal.at.loop-k-preserved c).After-u64_at-w ∙ ap not (eq-eqb _ _ c.if-w-all.false) in
    let h = c.loop-k.invariant in
    again (record { found = h.found; none = below_more _ _ h.none within }) _ (omega arith)

pub search-preserved : goal.search-preserved
search-preserved c = again c.loop-k.invariant _ (omega arith)

pub returns-after-search : goal.returns-after-search
returns-after-search c =
    let file = c.args.file.bytes.now in
    let m = c.args.file.model in
    let passed = c.search.invariant in
    passed.found
    ∙ sym (some_words (strays m.lines) (m.lines * m.levels) file (words_in file)
    ∙ below_false _ (m.lines * m.levels) (mul-le-mul_right m.levels c.search-test.false) passed.none)

pub returns-then-w-all : goal.returns-then-w-all
returns-then-w-all c =
    let file = c.args.file.bytes.now in
    let m = c.args.file.model in
    sym (some_words (strays m.lines) (m.lines * m.levels) file (words_in file)
    ∙ below_true _ (m.lines * m.levels) _ (word_in (goal.at.returns-then-w-all c).In-loop-k) (strayed (goal.at.returns-then-w-all c).After-u64_at-w ∙ ap not (ne_eqb _ _ c.if-w-all.true)))
