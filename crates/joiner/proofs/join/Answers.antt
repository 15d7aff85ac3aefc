-- `joiner::join` meets its contract: what checking refuses is handed on, files that do not go together and a short buffer are refused, and the file
-- is `put_joined`'s.
-- Assumes nothing.
use mathlib.Core.Bool.{false}
use mathlib.Core.Path.{◌≡◌, sym}
use Rattle.std.proofs.lemmas.Result.{err_from_is_err_and}
use Rattle.checker.proofs.Accepted.{checked, refused}
use Rattle.joiner.proofs.Outcome.{BothChecked, signs_differ, signs_tested, first_refused, second_refused, levels_differ, signs_differ_lem, too_many, no_room, at_hand, join_made}
use Rattle.joiner.proofs.join.Goals as goal
use Rattle.joiner.proofs.join.Goals.{then-m-k-via-then-m-k, then-m-k-via-else-m-k+then-ne, In_ok-other, Else-ne}

-- what checking told of both files
known : (c : In_ok-other) → BothChecked c.args.first.now c.args.second.now c.in_ok-one.one c.in_ok-other.other
known c = record {
  same₁ = c.in_ok-one.ensures.same;
  same₂ = c.in_ok-other.ensures.same;
  known₁ = checked _ c.in_ok-one.ensures.answer;
  known₂ = checked _ c.in_ok-other.ensures.answer;
}

-- where their signs are the same
alike : (c : Else-ne) → signs_differ c.in_ok-one.one c.in_ok-other.other ≡ false
alike c = sym (signs_tested c.in_ok-one.one c.in_ok-other.other _ _ c.if-m-k.false c.kinds_at-kinds_at.ensures c.if-ne.ensures)

pub returns-in_err-one : goal.returns-in_err-one
returns-in_err-one c =
    let exit = err_from_is_err_and c.from_residual.result c.from_residual.ensures.1 in
    rw (exit.1, exit.2) (first_refused _ _ _ (refused _ c.in_err-one.ensures.answer))

pub returns-in_err-other : goal.returns-in_err-other
returns-in_err-other c =
    let exit = err_from_is_err_and c.from_residual-in_err-other.result c.from_residual-in_err-other.ensures.1 in
    rw (exit.1, exit.2)
    (second_refused _ _ _ (checked c.args.first.now c.in_ok-one.ensures.answer).counts.number (refused _ c.in_err-other.ensures.answer))

pub returns-then-m-k : goal.returns-then-m-k
returns-then-m-k c =
    let both = known (goal.at.returns-then-m-k c).In_ok-other in
    elim c.then-m-k.branch [
      | then-m-k-via-then-m-k w ↦ levels_differ _ _ _ both w.if-m-k.true
      | then-m-k-via-else-m-k+then-ne w ↦
          signs_differ_lem _ _ _ both w.if-m-k.false
          (sym (signs_tested c.in_ok-one.one c.in_ok-other.other _ _ w.if-m-k.false c.kinds_at-kinds_at.ensures w.if-ne.ensures))
    ]

pub returns-then-both-gt-MAX_LINES : goal.returns-then-both-gt-MAX_LINES
returns-then-both-gt-MAX_LINES c =
    let at = goal.at.returns-then-both-gt-MAX_LINES c in
    too_many _ _ _ (known at.In_ok-other) c.if-m-k.false (alike at.Else-ne) c.if-both-gt-MAX_LINES.true

pub returns-then-buffer-length : goal.returns-then-buffer-length
returns-then-buffer-length c =
    let at = goal.at.returns-then-buffer-length c in
    no_room _ _ _ (known at.In_ok-other) c.if-m-k.false (alike at.Else-ne) c.if-both-gt-MAX_LINES.false
    (rw c.file_length-length.ensures at c.if-buffer-length.true)

pub put_joined-requires-clause-at_hand : goal.put_joined-requires-clause-at_hand
put_joined-requires-clause-at_hand c =
    let at = goal.at.put_joined-requires-clause-at_hand c in
    at_hand _ _ c.args.buffer.now (known at.In_ok-other) c.if-m-k.false (alike at.Else-ne) c.if-both-gt-MAX_LINES.false c.laid.result c.laid-2.result c.laid.ensures c.laid-2.ensures

pub returns : goal.returns
returns c =
    let at = goal.at.returns c in
    let size = c.file_length-length.ensures in
    join_made _ _ _ (known at.In_ok-other) c.if-m-k.false (alike at.Else-ne) c.if-both-gt-MAX_LINES.false c.laid.result c.laid-2.result c.laid.ensures c.laid-2.ensures
    size (rw size at c.if-buffer-length.false) c.put_joined.ensures
