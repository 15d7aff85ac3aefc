-- `page_layout::put_page` meets its contract: the first row with the share of the good lines, and the lines' rows behind it.
-- Assumes nothing.
use mathlib.Core.Path.{◌≡◌}
use Prim.Native.Nat.{◌≤◌}
use native.Mathlib.Omega.{arith}
use Rattle.model.specs.Held.{system_in}
use Rattle.met_lines.proofs.Search.{met_few}
use Rattle.text.proofs.Digits.{puts_then}
use Rattle.page_layout.specs.Page.{page}
use Rattle.page_layout.proofs.Rows.{first_row_length}
use Rattle.page_layout.proofs.put_page.Goals as goal
use Rattle.page_layout.proofs.put_page.Goals.{After-met_share-share, After-put_first_row-rows}

share_fits : (c : After-met_share-share) → c.met_share-share.result ≤ 1000
share_fits c = rw c.met_share-share.ensures (met_few (system_in c.args.file.bytes.now c.args.file.model) c.args.good)

-- the first row is 41 bytes long
rows_at : (c : After-put_first_row-rows) → c.met_share-share.result ≤ 1000 → c.put_first_row-rows.result ≡ 41
rows_at c few =
    let laid = c.args.file.laid_out in
    omega (
      arith,
      c.put_first_row-rows.ensures.end,
      first_row_length c.args.file.model.lines c.args.file.model.levels c.met_share-share.result (omega (arith, laid.few_lines)) (omega (arith, laid.few_levels)) (omega arith),
    )

pub put_first_row-rows-requires : goal.put_first_row-rows-requires
put_first_row-rows-requires c =
    let laid = c.args.file.laid_out in record {
      lines_bound = (laid.few_lines, laid.few_levels);
      share_bound = share_fits (goal.at.put_first_row-rows-requires c).After-met_share-share;
      in_bounds = omega (arith, c.requires.lines_in_bounds);
    }

pub put_line_rows-requires : goal.put_line_rows-requires
put_line_rows-requires c =
    let at = goal.at.put_line_rows-requires c in
    omega (arith, rows_at at.After-put_first_row-rows (share_fits at.After-met_share-share), c.requires.lines_in_bounds)

pub returns : goal.returns
unfolding page
returns c = puts_then (omega arith) (rw c.met_share-share.ensures at c.put_first_row-rows.ensures) c.put_line_rows.ensures
