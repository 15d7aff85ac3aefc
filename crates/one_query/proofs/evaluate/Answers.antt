-- `one_query::evaluate` meets its contract: all lines' values are the query's set.
-- Assumes nothing.
use mathlib.Core.Path.{◌∙◌, ap}
use Prim.Native.Nat.{ℕ}
use native.Mathlib.Nat.{min-eq_left}
use lib.Bits.{and_comm}
use lib.ListN.{take}
use Rattle.sets.specs.Set.{full, intersection}
use Rattle.sets.proofs.Range.{below_full}
use Rattle.system.specs.Query.{query}
use Rattle.system.proofs.Monotone.{query_below}
use Rattle.model.specs.Held.{system_in}
use Rattle.one_query.proofs.evaluate.Goals as goal

pub returns : goal.returns
returns c =
    let z = c.args in
    let m = z.file.model in
    let s = system_in z.file.bytes.now m in
    let xs = take m.levels z.xs.now in
    c.evaluate_lines.ensures ∙ ap (λ (lines : ℕ). intersection lines (query s xs)) (c.full_set.ensures ∙ ap full (min-eq_left z.file.held.laid_out.few_lines))
    ∙ and_comm (full m.lines) (query s xs) ∙ below_full m.lines (query s xs) (query_below s xs)
