-- A joined system (request W6): its query at sets side by side is the two queries side by side, it is well-formed, and a line of the second has as many
-- operands as before.
-- Assumes nothing.
use mathlib.Core.Bool.{Bool}
use mathlib.Core.List.{List, [], ◌∷◌, map}
use mathlib.Core.Path.{◌≡◌, refl, sym, ◌∙◌, ap, ap₂}
use Prim.Native.Nat.{ℕ, ◌+◌, ◌*◌, ◌^◌, ◌<◌}
use native.Mathlib.Nat.{add-mul}
use native.Mathlib.Omega.{arith}
use lib.ListN.{length-append, length-map}
use lib.Pow.{pow_mono, pow_pos}
use Rattle.lists.proofs.Below.{below_append, below_wider, below_map}
use Rattle.sets.specs.SideBySide.{moved_up, side_by_side}
use Rattle.sets.proofs.SideBySide.{beside_below, members_moved}
use Rattle.fixpoint.specs.Pairing.{sets_alongside, SetsBeside}
use Rattle.system.specs.System.{System, WellFormed}
use Rattle.system.specs.Query.{value_of, operand_count, query}
use Rattle.system.specs.Joined.{joined, Joinable}
use Rattle.system.proofs.LineSets.{set_same_values}
use Rattle.system.proofs.JoinedLines.{line_first, line_second, set_beside, bits_first, bits_second}

pub operands_moved : (ws : List ℕ) (n : ℕ) → operand_count (map (moved_up n) ws) ≡ operand_count ws
operands_moved [] n = refl
operands_moved (w ∷ ws) n = ap₂ ◌+◌ (members_moved n w) (operands_moved ws n)

module _ (m₁ m₂ : System) (W₁ : WellFormed m₁) (W₂ : WellFormed m₂) (J : Joinable m₁ m₂) where
  pub query_joined : {xs ys : List ℕ} → SetsBeside m₁.lines m₂.lines xs ys
      → query (joined m₁ m₂) (sets_alongside m₁.lines xs ys) ≡ side_by_side m₁.lines (query m₁ xs) (query m₂ ys)
  unfolding query
  query_joined b =
      set_beside m₁.lines m₂.lines _
      ∙ ap₂ (side_by_side m₁.lines)
      (set_same_values m₁.lines _ _ (λ i l. ap₂ at (line_first m₁ m₂ W₁ W₂ J value_of i l) (bits_first m₁ m₂ W₁ W₂ J b i l)))
      (set_same_values m₂.lines _ _ (λ j l. ap₂ at (line_second m₁ m₂ W₁ W₂ J value_of j) (bits_second m₁ m₂ W₁ W₂ J b j)))
    where
      at : (List Bool → Bool) → List Bool → Bool
      at value bits = value bits

  pub joined_formed : WellFormed (joined m₁ m₂)
  joined_formed = record {
    sliced = record {
      signs_long = W₁.sliced.signs_long;
      kinds_long = length-append m₁.kinds m₂.kinds ∙ ap₂ ◌+◌ W₁.sliced.kinds_long W₂.sliced.kinds_long;
      thresholds_long = length-append m₁.thresholds m₂.thresholds ∙ ap₂ ◌+◌ W₁.sliced.thresholds_long W₂.sliced.thresholds_long;
      words_long =
          length-append m₁.words (map (moved_up n₁) m₂.words)
          ∙ ap₂ ◌+◌ W₁.sliced.words_long (length-map m₂.words (moved_up n₁) ∙ W₂.sliced.words_long ∙ ap (λ (d : ℕ). n₂ * d) (sym J.same_levels))
          ∙ sym (add-mul n₁ n₂ m₁.levels);
    };
    words_within = below_append (below_wider (pow_mono (omega arith)) W₁.words_within) (below_map (moved_up n₁) moved W₂.words_within);
  }
    where
      n₁ : ℕ
      n₁ = m₁.lines

      n₂ : ℕ
      n₂ = m₂.lines

      moved : (w : ℕ) → w < 2 ^ n₂ → moved_up n₁ w < 2 ^ (n₁ + n₂)
      moved w h = omega (arith, beside_below n₁ n₂ (pow_pos n₁) h)
