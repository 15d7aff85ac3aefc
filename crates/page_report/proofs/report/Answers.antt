-- `page_report::report` meets its contract: a short buffer is left as it was, and any other has the page, or the line of the file's refusal.
-- Assumes nothing.
use borrow.Author.Tests.{le-ltb}
use Rattle.page_report.proofs.Outcome.{page_put, refusal_put}
use Rattle.page_report.proofs.report.Goals as goal

pub returns-in-Ok : goal.returns-in-Ok
returns-in-Ok c =
    let long = c.if-out-lt-REPORT_SIZE.false in
    rw (le-ltb _ 2665 long) (page_put _ _ long c.in-Ok.ensures)

pub returns-in-Err-OverCeiling : goal.returns-in-Err-OverCeiling
returns-in-Err-OverCeiling c =
    let long = c.if-out-lt-REPORT_SIZE.false in
    let says = rw c.in-Err-OverCeiling.field-0-is at c.in-Err-OverCeiling.ensures in
    rw (le-ltb _ 2665 long) (refusal_put _ _ long says (rw c.from.ensures at c.put_refused.ensures))

pub returns-in-Err-Refused : goal.returns-in-Err-Refused
returns-in-Err-Refused c =
    let long = c.if-out-lt-REPORT_SIZE.false in
    let says = rw c.in-Err-Refused.field-0-is at c.in-Err-Refused.ensures in
    rw (le-ltb _ 2665 long) (refusal_put _ _ long says (rw c.from-in-Err-Refused.ensures at c.put_refused-in-Err-Refused.ensures))
