-- `model::search::misfits` meets its contract: by the kind, a vote or another.
-- Assumes nothing.
use mathlib.Core.Path.{sym, ◌∙◌}
use borrow.Author.Tests.{eq-eqb, ne_eqb}
use Rattle.model.proofs.Thresholds.{no_vote, vote}
use Rattle.model.proofs.KindBytes.{is_vote, is_no_vote}
use Rattle.model.proofs.search.misfits.Goals as goal

pub returns-in-Any : goal.returns-in-Any
returns-in-Any c = sym (no_vote _ _ _ (is_no_vote _ (rw c.from.ensures at c.in-Any.is)))

pub returns-then-t-eq0 : goal.returns-then-t-eq0
returns-then-t-eq0 c = sym (vote _ _ _ (is_vote _ (sym c.from.ensures ∙ c.in-Vote.is)) ∙ rw (eq-eqb _ 0 c.if-t-eq0.true))

pub returns-else-t-eq0 : goal.returns-else-t-eq0
returns-else-t-eq0 c = sym (vote _ _ _ (is_vote _ (sym c.from.ensures ∙ c.in-Vote.is)) ∙ rw (ne_eqb _ 0 c.if-t-eq0.false))
