-- A plain run under a ceiling on its queries (document 01, "Judging plainly").
-- Assumes nothing.
use Rattle.std.specs.Prelude.{cond, Option, Some, None, ℕ, ◌-◌, leb}
use Rattle.fixpoint.specs.Plain.{Run}
use Rattle.plain_route.specs.declared.Settled.{Settled}

-- a run under a ceiling: its set with what is left of the ceiling, if the queries do not exceed it
abbrev pub under : ℕ → Run ℕ → Option Settled
under ceiling run = cond (leb run.queries ceiling) (Some (record { set = run.value; left = ceiling - run.queries })) None
