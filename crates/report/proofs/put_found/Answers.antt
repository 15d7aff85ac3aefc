-- `report::put_found` meets its contract: the set's digits, and behind them a blank, the count and the line's end.
-- Assumes nothing.
use native.Mathlib.Omega.{arith}
use Rattle.text.proofs.Digits.{hex_long, puts_then}
use Rattle.report.proofs.put_found.Goals as goal

pub put_number_line-requires : goal.put_number_line-requires
put_number_line-requires c = omega (arith, hex_long c.args.found.set)

pub returns : goal.returns
returns c =
    puts_then (omega (arith, c.requires)) c.put_hex-digits.ensures c.put_number_line.ensures
