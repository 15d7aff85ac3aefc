-- `one_sided_solver::solve_one_sided` meets its contract: what checking refuses is handed on, the tree is looked at for the greatest levels of the file's own
-- system, too few words are left as they were, and the route's set and count are those of that system.
-- Assumes nothing.
use mathlib.Core.Bool.{Bool}
use mathlib.Core.List.{List}
use mathlib.Core.Path.{◌≡◌, sym, ◌∙◌, ap, subst}
use Prim.Native.Nat.{ℕ, ◌-◌}
use native.Mathlib.Omega.{arith}
use Rattle.std.proofs.lemmas.Result.{err_from_is_err_and}
use Rattle.fixpoint.proofs.Levels.{levels_sum}
use Rattle.system.specs.System.{System, sign}
use Rattle.model.specs.Files.{held_system}
use Rattle.model.specs.File.{decode}
use Rattle.checker.proofs.Accepted.{Checked, checked, refused, held_decoded}
use Rattle.routes.specs.Routes.{least_levels, greatest_levels}
use Rattle.routes.specs.Parts.{Gives}
use Rattle.admission.specs.Checks.{bad_tree}
use Rattle.admission.proofs.LentTrees.{good_tree}
use Rattle.one_sided_route.specs.Route.{staged_run}
use Rattle.one_sided_solver.proofs.Outcome.{file_refused, bad_tree_lem, few_words, judged_by}
use Rattle.one_sided_solver.proofs.solve_one_sided.Goals as goal
use Rattle.one_sided_solver.proofs.solve_one_sided.Goals.{In_ok-held}

-- what the look at the tree says, for the system of the counts and for the file's own
counted-tree : (m : System) (v : List ℕ) {least : ℕ} {found t : Bool} → least ≡ least_levels m → found ≡ bad_tree (m.levels - least) v → found ≡ t
    → bad_tree (greatest_levels m) v ≡ t
counted-tree m v {least} e is t =
    let high : m.levels - least ≡ greatest_levels m = omega (arith, e, levels_sum (sign m) m.levels) in
    ap (λ (h : ℕ). bad_tree h v) (sym high) ∙ sym is ∙ t

own-tree : {m s : System} (v : List ℕ) {least : ℕ} {found t : Bool} → m ≡ s → least ≡ least_levels m → found ≡ bad_tree (m.levels - least) v → found ≡ t
    → bad_tree (greatest_levels s) v ≡ t
own-tree {m} v same e is t = ap (λ (s : System). bad_tree (greatest_levels s) v) (sym same) ∙ counted-tree m v e is t

pub returns-in_err-held : goal.returns-in_err-held
returns-in_err-held c =
    let same = err_from_is_err_and c.from_residual.result c.from_residual.ensures.1 in
    rw (same.1, same.2) (file_refused _ _ _ (refused _ c.in_err-held.ensures.answer))

pub overflow_sub-greatest : goal.overflow_sub-greatest
overflow_sub-greatest c =
    let held = c.in_ok-held.held in
    omega (arith, c.count_least.ensures, levels_sum (sign (held_system held)) held.model.levels)

known : (c : In_ok-held) → Checked c.args.file.now c.in_ok-held.held.model
known c = checked _ c.in_ok-held.ensures.answer

own : (c : In_ok-held) → held_system c.in_ok-held.held ≡ decode c.args.file.now
own c = held_decoded c.in_ok-held.held c.in_ok-held.ensures.same (known c)

pub returns-then-tree_is_bad : goal.returns-then-tree_is_bad
returns-then-tree_is_bad c =
    let ok = (goal.at.returns-then-tree_is_bad c).In_ok-held in
    bad_tree_lem _ _ _ (known ok).counts.number (own-tree c.args.v.now (own ok) c.count_least.ensures c.tree_is_bad.ensures c.if-tree_is_bad.true)

pub returns-then-words-v : goal.returns-then-words-v
returns-then-words-v c =
    let ok = (goal.at.returns-then-words-v c).In_ok-held in
    few_words _ _ _ (known ok).counts.number (own-tree c.args.v.now (own ok) c.count_least.ensures c.tree_is_bad.ensures c.if-tree_is_bad.false) (omega (arith, c.if-words-v.true))

pub one_sided-requires-clause-lent : goal.one_sided-requires-clause-lent
one_sided-requires-clause-lent c =
    good_tree _ c.args.v.now (counted-tree (held_system c.in_ok-held.held) c.args.v.now c.count_least.ensures c.tree_is_bad.ensures c.if-tree_is_bad.false)

pub returns : goal.returns
returns c =
    let ok = (goal.at.returns c).In_ok-held in
    let v = c.args.v.now in
    let tree = own-tree v (own ok) c.count_least.ensures c.tree_is_bad.ensures c.if-tree_is_bad.false in
    let gives = subst (λ (s : System). Gives c.one_sided.result (staged_run s v).value (staged_run s v).queries) (own ok) c.one_sided.ensures.result in
    judged_by _ _ _ (known ok).counts.number tree c.one_sided.result (omega (arith, c.if-words-v.false)) gives c.one_sided.auto.words c.one_sided.ensures.kept
