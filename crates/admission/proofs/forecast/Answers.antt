-- `admission::forecast` meets its contract: the levels that are not least are greatest, and the leaves of both trees are few enough for their product.
-- Assumes nothing.
use mathlib.Core.Path.{◌≡◌, ◌∙◌, ap, ap₂}
use Prim.Native.Nat.{◌-◌, ◌*◌}
use native.Mathlib.Omega.{arith}
use Rattle.trees.specs.Built.{leaf_count}
use Rattle.fixpoint.proofs.Levels.{levels_sum}
use Rattle.system.specs.System.{sign}
use Rattle.model.specs.Files.{held_system}
use Rattle.routes.specs.Routes.{least_levels, greatest_levels}
use Rattle.admission.proofs.FewQueries.{forecast_few}
use Rattle.admission.proofs.forecast.Goals as goal
use Rattle.admission.proofs.forecast.Goals.{After-leaf_count_at-2}

pub overflow_sub-greatest : goal.overflow_sub-greatest
overflow_sub-greatest c = omega (arith, c.count_least-least.ensures, levels_sum (sign (held_system c.args.file)) c.args.file.model.levels)

pub leaf_count_at-requires : goal.leaf_count_at-requires
leaf_count_at-requires c =
    let held = c.args.file.held.laid_out in
    (held.few_lines, omega (arith, held.few_levels, c.count_least-least.ensures, levels_sum (sign (held_system c.args.file)) c.args.file.model.levels))

-- both counts of leaves
leaves : (c : After-leaf_count_at-2) →
    let lines = c.args.file.model.lines in
    let s = held_system c.args.file in
    (c.leaf_count_at.result ≡ leaf_count lines (least_levels s)) × (c.leaf_count_at-2.result ≡ leaf_count lines (greatest_levels s))
leaves c =
    let lines = c.args.file.model.lines in
    let s = held_system c.args.file in
    let least = c.count_least-least.ensures in
    let greatest : c.args.file.model.levels - c.count_least-least.result ≡ greatest_levels s = omega (arith, least, levels_sum (sign s) c.args.file.model.levels) in
    (c.leaf_count_at.ensures ∙ ap (leaf_count lines) least, c.leaf_count_at-2.ensures ∙ ap (leaf_count lines) greatest)

pub overflow_mul-result : goal.overflow_mul-result
overflow_mul-result c =
    let held = c.args.file.held.laid_out in
    let both = leaves (goal.at.overflow_mul-result c).After-leaf_count_at-2 in
    record { fits = rw (both.0, both.1) (omega (arith, forecast_few (held_system c.args.file) held.few_lines held.few_levels)) }

pub returns : goal.returns
returns c =
    let both = leaves (goal.at.returns c).After-leaf_count_at-2 in
    ap₂ ◌*◌ both.0 both.1
