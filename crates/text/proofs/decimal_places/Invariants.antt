-- `text::decimal_places` meets its contract. The loop's invariant: what is counted, and the places of what is left of the number, are all of them,
-- and what is left fits in the places that may still be counted. The measure is what is left.
-- Assumes nothing.
use mathlib.Core.Path.{◌≡◌}
use Prim.Native.Nat.{ℕ, suc, ◌+◌, ◌^◌, ◌<◌}
use Rattle.text.specs.Text.{places}
use Rattle.text.proofs.decimal_places.Given as goal

pub record Counting (x rest n : ℕ) : Type 0 where
  pub more : ℕ
  pub counted : places 19 x + 1 ≡ n + places more rest
  pub room : n + more ≡ 20
  pub fits : rest < 10 ^ suc more

abbrev pub invariant-loop-rest : goal.invariant-loop-rest
invariant-loop-rest l = Counting l.x l.rest l.n

abbrev pub decreases-loop-rest : goal.decreases-loop-rest
decreases-loop-rest l = l.rest
