use mathlib.Core.Bool.{Bool, true, false, or-true, or-false}
use mathlib.Core.List.{List, [], ◌∷◌}
use mathlib.Core.Path.{◌≡◌, refl, sym, ◌∙◌, ap, ap₂}
use Prim.Native.Nat.{ℕ, zero, suc, ◌+◌, ◌≤◌, ◌-◌}
use native.Mathlib.Nat.{le_refl}
use native.Mathlib.Numerals.{add-one}
use native.Mathlib.Omega.{arith}
use lib.Dec.{ltb}
use lib.ListN.{length, get_or, take, drop, length-drop}
use borrow.Author.Tests.{ltb-false}
use Rattle.system.specs.Query.{words_of, operand_count}
use Rattle.model.specs.Checks.{some, some_below, threshold_misfits}
use Rattle.model.specs.Held.{system_in}
use Rattle.model.specs.File.{kinds_at, is_old, highest_kind, every, sections}
use Rattle.model.proofs.Thresholds.{no_vote}
use Rattle.model.proofs.Searches.{below_false, some_index, false_some}
use Rattle.model.proofs.Lines.{every_length}
use Rattle.model.proofs.Places.{old_words, old_threshold}
use Rattle.checker.proofs.line_faults.Invariants.{kind_over}
use Rattle.checker.proofs.line_faults.Goals as goal
use Rattle.checker.proofs.line_faults.Goals.{After-one_over, Joined-misfit, Joined-over, then-over, else-over, then-misfit, else-misfit}

-- entries side by side are a part of the list
every_one : (n : ℕ) (s : List ℕ) → n ≤ length s → every 1 n s ≡ take n s
unfolding every
every_one zero s h = refl
every_one (suc n) [] h = absurd (omega arith)
every_one (suc n) (x ∷ s) h = ap (λ (r : List ℕ). x ∷ r) (every_one n s (omega arith))

-- an old file
module _ (n d : ℕ) (file : List ℕ) (old : is_old n d file ≡ true) where
  old_kinds : kinds_at d + n ≤ length file → take n (drop (kinds_at d) file) ≡ (sections n d file).kinds
  old_kinds h = sym (rw old (every_one n (drop (kinds_at d) file) (simp length-drop (omega arith))))

  old_fits : some (ltb 1) (sections n d file).kinds ≡ false → some_below n (threshold_misfits (sections n d file)) ≡ false
  old_fits none =
      let s = sections n d file in
      below_false
      (threshold_misfits s)
      n
      (le_refl n)
      (λ i l.
      let kind = ltb-false 1 (get_or s.kinds i 0) (false_some (ltb 1) s.kinds none i (rw (every_length _ n _) l)) in
      no_vote (get_or s.kinds i 0) (get_or s.thresholds i 0) (operand_count (words_of s i)) (omega arith) ∙ rw (old_threshold n d file i old))

-- a search with one number more: found before, or by it alone
module _ (p : ℕ → Bool) (i : ℕ) {found next : Bool} (h : found ≡ some_below i p) where
  found_before : found ≡ true → next ≡ found → next ≡ some_below (i + 1) p
  found_before e f = f ∙ e ∙ sym (rw (add-one i, ← h, e) (or-true (p i)))

  found_here : found ≡ false → next ≡ p i → next ≡ some_below (i + 1) p
  found_here e f = f ∙ sym (rw (add-one i, ← h, e) (or-false (p i)))

-- the kinds are what is searched
kinds-test : (c : After-one_over) →
    let z = c.args in
    (is_old z.file.model.lines z.file.model.levels z.file.bytes.now ≡ true) × (c.one_over.result ≡ some (ltb 1) (system_in z.file.bytes.now z.file.model).kinds)
kinds-test c =
    let z = c.args in
    let file = z.file.bytes.now in
    let old = sym c.is_old.ensures ∙ c.if-is_old.true in
    let within : kinds_at z.file.model.levels + z.file.model.lines ≤ length file = omega (arith, old_words c.args.file.laid_out old, c.args.file.laid_out.whole) in
    let span : c.old_words_at-last.result - c.kinds_at-first.result ≡ z.file.model.lines = omega (arith, c.old_words_at-last.ensures, c.kinds_at-first.ensures) in (
      old,
      c.one_over.ensures
          ∙ ap₂ (λ (k at : ℕ). some (ltb 1) (take k (drop at file))) span c.kinds_at-first.ensures
          ∙ ap (some (ltb 1)) (old_kinds z.file.model.lines z.file.model.levels file old within),
    )

pub returns-then-is_old : goal.returns-then-is_old
returns-then-is_old c =
    let z = c.args in
    let file = z.file.bytes.now in
    let test = kinds-test (goal.at.returns-then-is_old c).After-one_over in
    record {
      kinds = test.1 ∙ ap (λ (b : Bool). some (ltb (highest_kind b)) (system_in file z.file.model).kinds) (sym test.0);
      thresholds = λ none. sym (old_fits z.file.model.lines z.file.model.levels file test.0 (sym test.1 ∙ none));
    }

-- both answers after a turn
over_again : (c : Joined-over) →
    c.if-over.over ≡ some_below (c.loop-i.i + 1) (kind_over (system_in c.args.file.bytes.now c.args.file.model))
over_again c =
    let p = kind_over (system_in c.args.file.bytes.now c.args.file.model) in
    elim c.if-over.branch [
      | then-over w ↦ found_before p c.loop-i.i c.loop-i.invariant.0 w.if-over.true w.over-is
      | else-over w ↦ found_here p c.loop-i.i c.loop-i.invariant.0 w.if-over.false (w.over-is ∙ ap (ltb 2) w.kind.ensures)
    ]

misfit_again : (c : Joined-misfit) →
    c.if-misfit.misfit ≡ some_below (c.loop-i.i + 1) (threshold_misfits (system_in c.args.file.bytes.now c.args.file.model))
misfit_again c =
    let p = threshold_misfits (system_in c.args.file.bytes.now c.args.file.model) in
    elim c.if-misfit.branch [
      | then-misfit w ↦ found_before p c.loop-i.i c.loop-i.invariant.1 w.if-misfit.true w.misfit-is
      | else-misfit w ↦ found_here p c.loop-i.i c.loop-i.invariant.1 w.if-misfit.false (w.misfit-is ∙ w.line_misfits-misfit.ensures)
    ]

pub loop-i-preserved : goal.loop-i-preserved
loop-i-preserved c = (over_again (goal.at.loop-i-preserved c).Joined-over, misfit_again (goal.at.loop-i-preserved c).Joined-misfit)

pub returns : goal.returns
returns c =
    let s = system_in c.args.file.bytes.now c.args.file.model in
    let loop = c.loop-i in
    let all : loop.i ≡ c.args.file.model.lines = omega arith in
    let new = sym c.is_old.ensures ∙ c.if-is_old.false in
    let over = ap (λ (k : ℕ). some_below k (kind_over s)) (all ∙ sym (every_length _ _ _)) ∙ sym (some_index _ s.kinds) in record {
      kinds = loop.invariant.0 ∙ over ∙ ap (λ (b : Bool). some (ltb (highest_kind b)) s.kinds) (sym new);
      thresholds = λ none. loop.invariant.1 ∙ ap (λ (k : ℕ). some_below k (threshold_misfits s)) all;
    }
