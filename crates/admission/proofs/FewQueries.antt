-- The forecast for up to 64 lines and 8 levels fits 64 bits.
-- Assumes nothing.
use Prim.Native.Nat.{◌^◌, ◌≤◌}
use native.Mathlib.Omega.{arith}
use Rattle.fixpoint.proofs.Levels.{levels_sum}
use Rattle.system.specs.System.{System, sign}
use Rattle.routes.specs.Routes.{least_levels, greatest_levels}
use Rattle.routes.proofs.QueryBound.{leaf_few, product_few}
use Rattle.admission.specs.Checks.{forecast}

pub forecast_few : (s : System) → s.lines ≤ 64 → s.levels ≤ 8 → forecast s ≤ 64 ^ 8
forecast_few s lines levels =
    product_few (least_levels s) (greatest_levels s) (leaf_few (least_levels s) s.lines lines) (leaf_few (greatest_levels s) s.lines lines)
    (omega (arith, levels_sum (sign s) s.levels))
