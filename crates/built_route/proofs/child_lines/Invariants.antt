-- `built_route::child_lines` meets its contract. The loop's invariant: child i is the child `at` of the tree for so many lines. The measure is
-- these lines.
-- Assumes nothing.
use mathlib.Core.List.{[]}
use mathlib.Core.Path.{◌≡◌}
use Prim.Native.Nat.{ℕ, ◌≤◌, ◌<◌}
use lib.ListN.{get_or}
use Rattle.trees.specs.Built.{built_children}
use Rattle.built_route.proofs.child_lines.Given as goal

pub record Within (n i lines at : ℕ) : Type 0 where
  pub place : at < lines
  pub few : lines ≤ n
  pub same : (h : ℕ) → get_or (built_children n h) i [] ≡ get_or (built_children lines h) at []

abbrev pub invariant-loop-at : goal.invariant-loop-at
invariant-loop-at l = Within l.n l.i l.lines l.at

abbrev pub decreases-loop-at : goal.decreases-loop-at
decreases-loop-at l = l.lines
