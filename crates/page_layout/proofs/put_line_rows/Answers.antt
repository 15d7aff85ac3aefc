use native.Mathlib.Numerals.{add-one}
use native.Mathlib.Omega.{arith}
use Rattle.text.proofs.Digits.{puts_nothing, puts_then}
use Rattle.page_layout.specs.Page.{rows_of}
use Rattle.page_layout.proofs.Rows.{line_row_length}
use Rattle.page_layout.proofs.put_line_rows.Goals as goal

pub loop-i-init : goal.loop-i-init
unfolding rows_of
loop-i-init c = record { place = omega arith; put = puts_nothing _ _ }

pub loop-i-preserved : goal.loop-i-preserved
unfolding rows_of
loop-i-preserved c =
    let l = c.loop-i in
    let few = c.args.file.laid_out.few_lines in
    let size = line_row_length l.i c.kind.result c.member.result (omega arith) in
    record {
      place = omega (arith, c.put_line_row-next.ensures.end);
      put = rw add-one (puts_then (omega arith) l.invariant.put (rw (c.kind.ensures, c.member.ensures) at c.put_line_row-next.ensures));
    }
