-- `solver::solve_lent` meets its contract: what `admit` refuses is handed on, the trees are looked at for the heights of the file's own system,
-- and the evaluator's set and count are those of that system.
-- Assumes nothing.
use mathlib.Core.Bool.{Bool}
use mathlib.Core.List.{List}
use mathlib.Core.Path.{◌≡◌, refl, sym, ◌∙◌, ap, subst}
use Prim.Native.Nat.{ℕ, ◌-◌}
use native.Mathlib.Omega.{arith}
use Rattle.std.proofs.lemmas.Result.{err_from_is_err_and}
use Rattle.fixpoint.proofs.Levels.{levels_sum}
use Rattle.system.specs.System.{System, sign}
use Rattle.model.specs.File.{decode}
use Rattle.model.specs.Files.{held_system}
use Rattle.routes.specs.Routes.{least_levels, greatest_levels}
use Rattle.view.specs.View.{LentIs}
use Rattle.admission.specs.Checks.{bad_tree}
use Rattle.admission.proofs.Admitted.{Admitted, admitted, turned_down}
use Rattle.admission.proofs.LentTrees.{good_tree}
use Rattle.solver.proofs.Answers.{own, some_level, lent_refused, lent_bad, lent_found}
use Rattle.solver.proofs.solve_lent.Goals as goal
use Rattle.solver.proofs.solve_lent.Goals.{In_ok-held, After-count_least-least, then-tree_is_bad-via-then-tree_is_bad, then-tree_is_bad-via-else-tree_is_bad+then-tree_is_bad-2}

-- the height of the second tree
greatest : (m : System) {least : ℕ} → least ≡ least_levels m → m.levels - least ≡ greatest_levels m
greatest m e = omega (arith, e, levels_sum (sign m) m.levels)

-- what a look at a tree says, for the file's own system
looked : (gaps : List ℕ) {h own : ℕ} {found t : Bool} → h ≡ own → found ≡ bad_tree h gaps → found ≡ t → bad_tree own gaps ≡ t
looked gaps same is e = ap (λ (h : ℕ). bad_tree h gaps) (sym same) ∙ sym is ∙ e

known : (c : In_ok-held) → Admitted c.args.file.now c.args.a c.args.b c.in_ok-held.held.model
known c = admitted _ _ _ c.in_ok-held.ensures.answer

-- the heights are those of the file's own system
least-own : (c : After-count_least-least) → c.count_least-least.result ≡ least_levels (decode c.args.file.now)
least-own c = c.count_least-least.ensures ∙ ap least_levels (own c.in_ok-held.held c.in_ok-held.ensures.same (admitted _ _ _ c.in_ok-held.ensures.answer))

greatest-own : (c : After-count_least-least) → c.in_ok-held.held.model.levels - c.count_least-least.result ≡ greatest_levels (decode c.args.file.now)
greatest-own c =
    greatest (held_system c.in_ok-held.held) c.count_least-least.ensures
    ∙ ap greatest_levels (own c.in_ok-held.held c.in_ok-held.ensures.same (admitted _ _ _ c.in_ok-held.ensures.answer))

pub returns-in_err-held : goal.returns-in_err-held
returns-in_err-held c =
    let same = err_from_is_err_and c.from_residual.result c.from_residual.ensures.1 in
    rw (same.1, same.2) (lent_refused _ _ _ _ _ (turned_down _ _ _ c.in_err-held.ensures.answer))

pub overflow_sub-greatest : goal.overflow_sub-greatest
overflow_sub-greatest c =
    let held = c.in_ok-held.held in
    omega (arith, c.count_least-least.ensures, levels_sum (sign (held_system held)) held.model.levels)

pub returns-then-tree_is_bad : goal.returns-then-tree_is_bad
returns-then-tree_is_bad c =
    let at = (goal.at.returns-then-tree_is_bad c).After-count_least-least in
    let ok = known (goal.at.returns-then-tree_is_bad c).In_ok-held in
    elim c.then-tree_is_bad.branch [
      | then-tree_is_bad-via-then-tree_is_bad w ↦
          lent_bad _ _ _ _ _ _ _ ok (looked c.args.u.now (least-own at) c.tree_is_bad.ensures w.if-tree_is_bad.true) refl refl
      | then-tree_is_bad-via-else-tree_is_bad+then-tree_is_bad-2 w ↦
          lent_bad
          _ _ _ _ _ _ _ ok (looked c.args.u.now (least-own at) c.tree_is_bad.ensures w.if-tree_is_bad.false)
          (looked c.args.v.now (greatest-own at) w.tree_is_bad-else-tree_is_bad.ensures w.if-tree_is_bad-2.true) refl
    ]

pub invariant_of-least_tree : goal.invariant_of-least_tree
invariant_of-least_tree c = record { lent = good_tree _ c.args.u.now (sym c.tree_is_bad.ensures ∙ c.if-tree_is_bad.false) }

pub invariant_of-greatest_tree : goal.invariant_of-greatest_tree
invariant_of-greatest_tree c = record { lent = good_tree _ c.args.v.now (sym c.tree_is_bad-else-tree_is_bad.ensures ∙ c.if-tree_is_bad-2.false) }

pub lent-requires : goal.lent-requires
lent-requires c =
    let u = good_tree _ c.args.u.now (sym c.tree_is_bad.ensures ∙ c.if-tree_is_bad.false) in
    let v = good_tree _ c.args.v.now (sym c.tree_is_bad-else-tree_is_bad.ensures ∙ c.if-tree_is_bad-2.false) in
    let high = greatest (held_system c.in_ok-held.held) c.count_least-least.ensures in
    (some_level (admitted _ _ _ c.in_ok-held.ensures.answer), record { least = c.count_least-least.ensures; first = u; greatest = high; second = v })

pub returns : goal.returns
returns c =
    let at = (goal.at.returns c).After-count_least-least in
    let ok = known (goal.at.returns c).In_ok-held in
    let same = own c.in_ok-held.held c.in_ok-held.ensures.same ok in
    lent_found
    _ _ _ _ _ c.lent.result ok (looked c.args.u.now (least-own at) c.tree_is_bad.ensures c.if-tree_is_bad.false)
    (looked c.args.v.now (greatest-own at) c.tree_is_bad-else-tree_is_bad.ensures c.if-tree_is_bad-2.false)
    (subst (λ (s : System). LentIs s c.args.a c.args.b c.args.u.now c.args.v.now c.lent.result) same c.lent.ensures)
