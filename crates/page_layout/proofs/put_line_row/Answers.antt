-- `page_layout::put_line_row` meets its contract: the number, the kind and the mark are put one behind the other, and the row is ended.
-- Assumes nothing.
use mathlib.Core.List.{[], ◌∷◌, append_assoc}
use mathlib.Core.Path.{◌≡◌}
use Prim.Native.Nat.{◌+◌}
use native.Mathlib.Omega.{arith}
use lib.ListN.{length-append}
use Rattle.text.proofs.Digits.{puts_then}
use Rattle.page_layout.specs.Page.{kind_word, number_in}
use Rattle.page_layout.specs.Page as spec
use Rattle.page_layout.proofs.Rows.{number_end, ended, kind_length, mark_length}
use Rattle.page_layout.proofs.put_line_row.Goals as goal
use Rattle.page_layout.proofs.put_line_row.Goals.{After-put_kind-kind_end, After-put_right-number_end}

-- the place behind each item
number_ends : (c : After-put_right-number_end) → c.put_right-number_end.result ≡ c.args.at + 2
number_ends c = number_end 2 c.args.i (omega arith) (omega (arith, c.requires.i_bound)) c.put_right-number_end.ensures

kind_ends : (c : After-put_kind-kind_end) → c.put_kind-kind_end.result ≡ c.put_right-number_end.result + 5
kind_ends c =
    omega (arith, c.put_kind-kind_end.ensures.end, length-append (kind_word c.args.kind) (32 ∷ []), kind_length c.args.kind)

pub put_kind-kind_end-requires : goal.put_kind-kind_end-requires
put_kind-kind_end-requires c = omega (arith, number_ends (goal.at.put_kind-kind_end-requires c).After-put_right-number_end)

pub put_mark-end-requires : goal.put_mark-end-requires
put_mark-end-requires c =
    let at = goal.at.put_mark-end-requires c in
    omega (arith, number_ends at.After-put_right-number_end, kind_ends at.After-put_kind-kind_end)

pub end_row-requires : goal.end_row-requires
end_row-requires c =
    let at = goal.at.end_row-requires c in
    let number = number_ends at.After-put_right-number_end in
    let kind = kind_ends at.After-put_kind-kind_end in
    let mark : c.put_mark-end.result ≡ c.put_kind-kind_end.result + 1 = omega (arith, c.put_mark-end.ensures.end, mark_length c.args.good) in
    record { start_le_at = (omega arith, omega arith); start_in_bounds = omega arith }

pub returns : goal.returns
returns c =
    let number = number_ends (goal.at.returns c).After-put_right-number_end in
    ended (number_in 2 c.args.i ∷ kind_word c.args.kind ∷ spec.mark c.args.good ∷ []) (omega (arith, c.requires.at_in_bounds))
    (puts_then (omega (arith, c.requires.at_in_bounds)) c.put_right-number_end.ensures
    (rw (append_assoc (kind_word c.args.kind) (32 ∷ []) (spec.mark c.args.good)) at
    (puts_then (omega arith) c.put_kind-kind_end.ensures c.put_mark-end.ensures)))
    c.end_row.ensures
