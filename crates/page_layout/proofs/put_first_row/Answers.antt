-- `page_layout::put_first_row` meets its contract: its words and numbers are put one behind the other, and the row is ended.
-- Assumes nothing.
use mathlib.Core.List.{[], ◌∷◌}
use mathlib.Core.Path.{◌≡◌}
use native.Mathlib.Omega.{arith}
use Rattle.text.proofs.Digits.{puts_then}
use Rattle.page_layout.specs.Page.{lines_word, levels_word, share_word, number_in}
use Rattle.page_layout.proofs.Rows.{number_end, ended}
use Rattle.page_layout.proofs.put_first_row.Goals as goal
use Rattle.page_layout.proofs.put_first_row.Goals.{After-put_right-end, After-put_right-levels_end, After-put_right-lines_end}

-- the place behind each number
lines_end : (c : After-put_right-lines_end) → c.put_right-lines_end.result ≡ 8
lines_end c =
    omega (arith, number_end 2 c.args.m.lines (omega arith) (omega (arith, c.requires.lines_bound)) c.put_right-lines_end.ensures, c.put-lines.ensures.end)

levels_end : (c : After-put_right-levels_end) → c.put_right-lines_end.result ≡ 8 → c.put_right-levels_end.result ≡ 17
levels_end c before =
    omega (arith, number_end 1 c.args.m.levels (omega arith) (omega (arith, c.requires.lines_bound)) c.put_right-levels_end.ensures, c.put-levels.ensures.end)

share_end : (c : After-put_right-end) → c.put_right-levels_end.result ≡ 17 → c.put_right-end.result ≡ 28
share_end c before =
    omega (arith, number_end 4 c.args.share (omega arith) (omega (arith, c.requires.share_bound)) c.put_right-end.ensures, c.put-thousandths.ensures.end)

pub put-levels-requires : goal.put-levels-requires
put-levels-requires c = omega (arith, lines_end (goal.at.put-levels-requires c).After-put_right-lines_end)

pub put_right-levels_end-requires-clause-k_in_bounds : goal.put_right-levels_end-requires-clause-k_in_bounds
put_right-levels_end-requires-clause-k_in_bounds c =
    omega (arith, lines_end (goal.at.put_right-levels_end-requires-clause-k_in_bounds c).After-put_right-lines_end)

pub put-thousandths-requires : goal.put-thousandths-requires
put-thousandths-requires c =
    let at = goal.at.put-thousandths-requires c in
    omega (arith, levels_end at.After-put_right-levels_end (lines_end at.After-put_right-lines_end))

pub put_right-end-requires-clause-k_in_bounds : goal.put_right-end-requires-clause-k_in_bounds
put_right-end-requires-clause-k_in_bounds c =
    let at = goal.at.put_right-end-requires-clause-k_in_bounds c in
    omega (arith, levels_end at.After-put_right-levels_end (lines_end at.After-put_right-lines_end))

pub end_row-requires : goal.end_row-requires
end_row-requires c =
    let at = goal.at.end_row-requires c in
    let end = share_end at.After-put_right-end (levels_end at.After-put_right-levels_end (lines_end at.After-put_right-lines_end)) in
    record { start_le_at = (omega arith, omega arith); start_in_bounds = omega arith }

pub returns : goal.returns
returns c =
    let at = goal.at.returns c in
    let lines = lines_end at.After-put_right-lines_end in
    let levels = levels_end at.After-put_right-levels_end lines in
    ended (lines_word ∷ number_in 2 c.args.m.lines ∷ levels_word ∷ number_in 1 c.args.m.levels ∷ share_word ∷ number_in 4 c.args.share ∷ []) (omega arith)
    (puts_then (omega arith) c.put-lines.ensures
    (puts_then (omega (arith, c.put-lines.ensures.end)) c.put_right-lines_end.ensures
    (puts_then (omega arith) c.put-levels.ensures
    (puts_then (omega (arith, c.put-levels.ensures.end)) c.put_right-levels_end.ensures
    (puts_then (omega arith) c.put-thousandths.ensures c.put_right-end.ensures)))))
    c.end_row.ensures
