-- `model::place::line_bytes` meets its contract.
-- Assumes nothing.
use mathlib.Core.Path.{sym, ◌∙◌, ap}
use Rattle.model.specs.File.{line_bytes}
use Rattle.model.proofs.place.line_bytes.Goals as goal

pub returns-then-not-is_old : goal.returns-then-not-is_old
returns-then-not-is_old c = sym (ap line_bytes (sym c.is_old.ensures ∙ c.if-not-is_old.true))

pub returns : goal.returns
returns c = sym (ap line_bytes (sym c.is_old.ensures ∙ c.if-not-is_old.false))
