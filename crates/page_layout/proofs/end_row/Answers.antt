-- `page_layout::end_row` meets its contract: the blanks, and the newline behind them.
-- Assumes nothing.
use Prim.Native.Nat.{◌+◌, ◌-◌}
use native.Mathlib.Omega.{arith}
use Rattle.padding.proofs.Blanks.{blanks_length}
use Rattle.text.proofs.Digits.{puts_then}
use Rattle.page_layout.proofs.end_row.Goals as goal

pub put-requires : goal.put-requires
put-requires c =
    let start = c.args in
    omega (arith, blanks_length (start.start + 40 - start.at))

pub returns : goal.returns
returns c =
    puts_then (omega (arith, c.requires)) c.put_blanks-end.ensures c.put.ensures
