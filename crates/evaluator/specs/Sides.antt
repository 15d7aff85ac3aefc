-- A level's side, by its sign: a greatest level starts from the upper bound and moves it down, a least one starts from the lower and moves it up.
-- Assumes nothing.
use Rattle.std.specs.Prelude.{Bool, true, false, cond, ℕ}
use Rattle.evaluator.specs.declared.Bounds.{Bounds}

-- the bound that a level starts from
abbrev pub start_of : Bool → Bounds → ℕ
start_of greatest bounds = cond greatest bounds.high bounds.low

-- the bounds with x in its place
abbrev pub moved : Bool → Bounds → ℕ → Bounds
moved true bounds x = record bounds { high = x }
moved false bounds x = record bounds { low = x }
