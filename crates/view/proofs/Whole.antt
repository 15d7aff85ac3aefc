-- From what the evaluator gives for all levels to what the whole plain route gives: more rounds change nothing.
-- Assumes nothing.
use mathlib.Core.List.{[]}
use mathlib.Core.Path.{◌≡◌, ◌∙◌, ap}
use Prim.Native.Nat.{ℕ, suc, ◌+◌, ◌<◌}
use native.Mathlib.Omega.{arith}
use Rattle.std.specs.Prelude.{Option}
use Rattle.fixpoint.specs.Lawful.{Range}
use Rattle.fixpoint.specs.Sets.{sets}
use Rattle.system.specs.System.{System}
use Rattle.routes.specs.Parts.{plain_from}
use Rattle.routes.proofs.Promises.{plain_rounds}
use Rattle.plain_route.specs.Under.{under}
use Rattle.plain_route.specs.declared.Settled.{Settled}
use Rattle.view.specs.View.{PlainIs}

pub plain_whole : (s : System) (a b ceiling : ℕ) (r : Option Settled) → Range (sets s.lines) a b
    → ((rounds : ℕ) → ceiling < rounds → r ≡ under ceiling (plain_from rounds s a b s.levels []))
    → PlainIs s a b ceiling r
plain_whole s a b ceiling r range e =
    let rounds : ℕ = suc (ceiling + s.lines) in
    e rounds (omega arith) ∙ ap (under ceiling) (plain_rounds s a b range rounds (omega arith))
