-- Of two systems joined in one (request W6) the lines of the first alone can be met from line 0, and the same as before: the joined share is the first's.
-- Assumes nothing.
use mathlib.Core.Path.{◌≡◌, refl, sym, ◌∙◌, ap}
use Prim.Native.Nat.{ℕ, ◌^◌, ◌≤◌, ◌<◌}
use native.Mathlib.Omega.{arith}
use lib.Bits.{and_zero_r}
use Rattle.sets.specs.Set.{intersection, members}
use Rattle.sets.specs.SideBySide.{side_by_side}
use Rattle.sets.proofs.Order.{member_le, antisym⊑}
use Rattle.sets.proofs.SideBySide.{beside_meet}
use Rattle.system.specs.System.{System, WellFormed}
use Rattle.system.specs.Query.{words_of}
use Rattle.system.specs.Joined.{joined, Joinable}
use Rattle.system.proofs.JoinedLines.{words_first}
use Rattle.system.proofs.Joined.{joined_formed}
use Rattle.reach.proofs.Search.{met_along}
use Rattle.share.specs.Share.{share_of}
use Rattle.met_lines.specs.Met.{IsOperand, MetLine}
use Rattle.met_lines.specs.MetLines.{met_lines, met_share}
use Rattle.met_lines.proofs.Search.{operand_line, met_below, met_exactly}

module _ (m₁ m₂ : System) (W₁ : WellFormed m₁) (W₂ : WellFormed m₂) (J : Joinable m₁ m₂) (some : 1 ≤ m₁.lines) where
  -- a path stays among the lines of the first, and goes as well in any system that has their words there
  same_path : (a b : System) → ((i : ℕ) → i < m₁.lines → words_of a i ≡ words_of m₁ i) → ((i : ℕ) → i < m₁.lines → words_of b i ≡ words_of m₁ i)
      → {j : ℕ} → MetLine a j → MetLine b j
  same_path a b in-a in_b t = (met_along (λ j. j < m₁.lines) step some t).1
    where
      step : (i j : ℕ) → i < m₁.lines → IsOperand a i j → (j < m₁.lines) × IsOperand b i j
      step i j low (k, h) =
          let kept = rw (in-a i low) at h in
          (operand_line m₁ W₁ some i j (k, kept), (k, rw (in_b i low) kept))

  pub met_joined : met_lines (joined m₁ m₂) ≡ met_lines m₁
  met_joined =
      let own : (i : ℕ) → i < m₁.lines → words_of m₁ i ≡ words_of m₁ i = λ i low. refl in
      let same = words_first m₁ m₂ W₁ W₂ J in
      let first = met_exactly m₁ W₁ some in
      let both = met_exactly (joined m₁ m₂) (joined_formed m₁ m₂ W₁ W₂ J) (omega arith) in
      antisym⊑ (member_le _ _ (λ j h. (first j).1 (same_path (joined m₁ m₂) m₁ same own ((both j).0 h)))) (member_le _ _ (λ j h. (both j).1 (same_path m₁ (joined m₁ m₂) own same ((first j).0 h))))

  -- what is good of the second does not count
  good_met : (x y : ℕ) → x < 2 ^ m₁.lines → intersection (side_by_side m₁.lines x y) (met_lines m₁) ≡ intersection x (met_lines m₁)
  good_met x y small =
      let n = m₁.lines in
      let alone : (z : ℕ) → side_by_side n z 0 ≡ z = λ z. omega arith in
      ap (intersection (side_by_side n x y)) (sym (alone (met_lines m₁)))
      ∙ beside_meet n x (met_lines m₁) y 0 small (met_below m₁ some)
      ∙ ap (side_by_side n (intersection x (met_lines m₁))) (and_zero_r y)
      ∙ alone (intersection x (met_lines m₁))

  -- x and y are the good lines of either
  pub share_joined : (x y : ℕ) → x < 2 ^ m₁.lines → met_share (joined m₁ m₂) (side_by_side m₁.lines x y) ≡ met_share m₁ x
  unfolding met_share
  share_joined x y small =
      ap (λ (met : ℕ). share_of (members (intersection (side_by_side m₁.lines x y) met)) (members met)) met_joined
      ∙ ap (λ (good : ℕ). share_of (members good) (members (met_lines m₁))) (good_met x y small)
