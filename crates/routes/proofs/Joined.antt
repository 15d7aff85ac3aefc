-- A joined system (request W6) is judged part by part: its nested fixpoint is the two nested fixpoints side by side.
-- Assumes nothing.
use mathlib.Core.List.{List, []}
use mathlib.Core.Path.{◌≡◌, ◌∙◌, ap, ap₂}
use Prim.Native.Nat.{ℕ, ◌+◌}
use native.Mathlib.Omega.{arith}
use lib.Dec.{eqb}
use lib.ListN.{get_or}
use Rattle.sets.specs.Set.{full}
use Rattle.sets.specs.SideBySide.{side_by_side}
use Rattle.sets.proofs.SideBySide.{beside_full}
use Rattle.fixpoint.specs.Lawful.{Range}
use Rattle.fixpoint.specs.Nested.{nested}
use Rattle.fixpoint.specs.Pairing.{none}
use Rattle.fixpoint.specs.Sets.{sets}
use Rattle.fixpoint.proofs.SideBySide.{nested_beside}
use Rattle.system.specs.System.{System, sign, WellFormed}
use Rattle.system.specs.Query.{query}
use Rattle.system.specs.Joined.{joined, Joinable}
use Rattle.system.proofs.Monotone.{query_monotone, query_below}
use Rattle.system.proofs.Joined.{query_joined}
use Rattle.routes.specs.Routes.{nested_set}
use Rattle.routes.proofs.Promises.{whole_range}

module _ (m₁ m₂ : System) (W₁ : WellFormed m₁) (W₂ : WellFormed m₂) (J : Joinable m₁ m₂) where
  -- the second has the first's levels and signs
  as_second : (a b : ℕ) → nested (sets m₂.lines) (sign m₁) (query m₂) m₁.levels [] a b ≡ nested_set m₂ a b
  as_second a b =
      ap₂ (λ (signs : List ℕ) (d : ℕ). nested (sets m₂.lines) (λ k. eqb (get_or signs k 0) 1) (query m₂) d [] a b) J.same_signs J.same_levels

  -- between any bounds, side by side
  pub nested_joined : {a₁ b₁ a₂ b₂ : ℕ} → Range (sets m₁.lines) a₁ b₁ → Range (sets m₂.lines) a₂ b₂
      → nested_set (joined m₁ m₂) (side_by_side m₁.lines a₁ a₂) (side_by_side m₁.lines b₁ b₂)
      ≡ side_by_side m₁.lines (nested_set m₁ a₁ b₁) (nested_set m₂ a₂ b₂)
  nested_joined {a₁} {b₁} {a₂} {b₂} r s =
      nested_beside m₁.lines m₂.lines (sign m₁) (query m₁) (query m₂) (query (joined m₁ m₂))
      (query_monotone m₁) (query_monotone m₂) (query_monotone (joined m₁ m₂)) (query_below m₁) (query_below m₂)
      (λ xs ys b. query_joined m₁ m₂ W₁ W₂ J b) m₁.levels none r s
      ∙ ap (side_by_side m₁.lines (nested_set m₁ a₁ b₁)) (as_second a₂ b₂)

  -- from no line to all lines
  pub joined_set : nested_set (joined m₁ m₂) 0 (full (m₁.lines + m₂.lines))
      ≡ side_by_side m₁.lines (nested_set m₁ 0 (full m₁.lines)) (nested_set m₂ 0 (full m₂.lines))
  joined_set =
      ap₂ (nested_set (joined m₁ m₂)) (omega arith) (beside_full m₁.lines m₂.lines)
      ∙ nested_joined (whole_range m₁.lines) (whole_range m₂.lines)
