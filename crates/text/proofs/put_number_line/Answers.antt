-- `text::put_number_line` meets its contract: the word, the number and the line's end are put one behind the other.
-- Assumes nothing.
use native.Mathlib.Omega.{arith}
use Rattle.text.proofs.Digits.{decimal_few, puts_then}
use Rattle.text.proofs.put_number_line.Goals as goal

pub put-requires : goal.put-requires
put-requires c = omega (arith, decimal_few c.args.x)

pub returns : goal.returns
returns c =
    puts_then (omega (arith, c.requires)) c.put-number.ensures
    (puts_then (omega (arith, c.put-number)) c.put_decimal-end.ensures c.put.ensures)
