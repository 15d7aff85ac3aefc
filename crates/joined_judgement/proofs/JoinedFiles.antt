-- What joining makes: a new file that checking accepts and that stands for the joined system. So writing accepts that system.
-- Assumes nothing.
use Rattle.std.specs.Prelude.{Result}
use mathlib.Core.Bool.{false}
use mathlib.Core.List.{List}
use mathlib.Core.Path.{◌≡◌, refl, sym, ◌∙◌, ap}
use mathlib.Mathlib.Data.Bool.Basic.{or-eq-false-eq-eq-false-and-eq-false as neither}
use Prim.Native.Nat.{ℕ, ◌+◌, ◌-◌, ◌^◌, ◌<◌}
use native.Mathlib.Decide.{dec_lt}
use native.Mathlib.Nat.{le_refl}
use native.Mathlib.Omega.{arith}
use lib.Dec.{ltb}
use lib.ListN.{length, get_or}
use lib.Pow.{pow_mono}
use Rattle.answers.specs.Answer.{Answer}
use Rattle.answers.specs.Check.{unless}
use Rattle.answers.specs.declared.Refusal.{Refusal}
use Rattle.answers.proofs.Checks.{Passes, not_outside}
use Rattle.lists.specs.Below.{AllBelow, none, more}
use Rattle.lists.proofs.Below.{below_wider}
use Rattle.sets.specs.Set.{full}
use Rattle.sets.proofs.Order.{le_within}
use Rattle.sets.proofs.Range.{below_full}
use Rattle.system.specs.System.{System, WellFormed}
use Rattle.system.specs.Query.{words_of, operand_count}
use Rattle.system.specs.Joined.{joined, Joinable}
use Rattle.system.proofs.JoinedLines.{line_first, line_second, words_first, words_second}
use Rattle.system.proofs.Joined.{operands_moved, joined_formed}
use Rattle.model.specs.File.{file_length, decode, encode}
use Rattle.model.specs.Checks.{some, strays, misfits, threshold_misfits}
use Rattle.model.specs.Says.{made}
use Rattle.model.proofs.RoundTrip.{old_in, encode_length}
use Rattle.model.proofs.Searches.{some_append, below_false, false_below}
use Rattle.model.proofs.Refusals.{none_of}
use Rattle.checker.proofs.Accepted.{accepted, formed}
use Rattle.checker.proofs.Passed.{file_passes}
use Rattle.writer.specs.Says.{write_number, written_answer}
use Rattle.writer.proofs.Passed.{new_checks, passes_write}
use Rattle.round_trip.proofs.RightFiles.{NewFile, passes_new, written_new}
use Rattle.round_trip.proofs.ReadBack.{filled_front}
use Rattle.joined_judgement.specs.Judges.{file_made}
use Rattle.joiner.specs.Says.{joined_of, join_number, JoinSays}
use Rattle.joiner.proofs.Passed.{JoinPasses, join_passes}

-- words of n lines select no other
none_strays : (n : ℕ) {ws : List ℕ} → AllBelow (2 ^ n) ws → some (strays n) ws ≡ false
none_strays n none = refl
none_strays n (more {x} p h) = rw (le_within x (full n) (below_full n x p), none_strays n h)

module _ (m₁ m₂ : System) (W₁ : WellFormed m₁) (W₂ : WellFormed m₂) (J : Joinable m₁ m₂) where
  -- a threshold fits its line as it did before
  misfits_first : (i : ℕ) → i < m₁.lines → threshold_misfits (joined m₁ m₂) i ≡ threshold_misfits m₁ i
  misfits_first i h =
      line_first m₁ m₂ W₁ W₂ J (λ kind t. misfits kind t (operand_count (words_of (joined m₁ m₂) i))) i h
      ∙ ap (λ (ws : List ℕ). misfits (get_or m₁.kinds i 0) (get_or m₁.thresholds i 0) (operand_count ws)) (words_first m₁ m₂ W₁ W₂ J i h)

  misfits_second : (j : ℕ) → threshold_misfits (joined m₁ m₂) (m₁.lines + j) ≡ threshold_misfits m₂ j
  misfits_second j =
      line_second m₁ m₂ W₁ W₂ J (λ kind t. misfits kind t (operand_count (words_of (joined m₁ m₂) (m₁.lines + j)))) j
      ∙ ap (misfits (get_or m₂.kinds j 0) (get_or m₂.thresholds j 0))
      (ap operand_count (words_second m₁ m₂ W₁ W₂ J j) ∙ operands_moved (words_of m₂ j) m₁.lines)

  -- contents that pass, joined, pass
  joined_passes : Passes (new_checks m₁) → Passes (new_checks m₂) → Passes (new_checks (joined m₁ m₂))
  joined_passes P₁ P₂ =
      let bytes₁ = (neither (some (ltb 1) m₁.signs) (some (ltb 2) m₁.kinds)).0 P₁.0 in
      let bytes₂ = (neither (some (ltb 1) m₂.signs) (some (ltb 2) m₂.kinds)).0 P₂.0 in (
        rw (bytes₁.0, some_append (ltb 2) m₁.kinds m₂.kinds, bytes₁.1, bytes₂.1),
        (
          none_strays (m₁.lines + m₂.lines) (joined_formed m₁ m₂ W₁ W₂ J).words_within,
          (below_false (threshold_misfits (joined m₁ m₂)) (m₁.lines + m₂.lines) (le_refl _) (λ i l. at i l (dec_lt i m₁.lines)), tt),
        ),
      )
    where
      at : (i : ℕ) → i < m₁.lines + m₂.lines → Dec (i < m₁.lines) → threshold_misfits (joined m₁ m₂) i ≡ false
      at i l (yes h) = misfits_first i h ∙ false_below (threshold_misfits m₁) m₁.lines P₁.1.1.0 i h
      at i l (no h) =
          let j = i - m₁.lines in
          let place : i ≡ m₁.lines + j = omega arith in
          ap (threshold_misfits (joined m₁ m₂)) place ∙ misfits_second j ∙ false_below (threshold_misfits m₂) m₂.lines P₂.1.1.0 j (omega arith)

-- two files that joining accepts
module _ (first second : List ℕ) (room : ℕ) (none : join_number first second room ≡ 0) where
  passed : JoinPasses first second room
  passed = join_passes first second room none

  pub formed₁ : WellFormed (decode first)
  formed₁ = formed first (accepted first passed.first_right)

  pub formed₂ : WellFormed (decode second)
  formed₂ = formed second (accepted second passed.second_right)

  whole : WellFormed (joined_of first second)
  whole = joined_formed (decode first) (decode second) formed₁ formed₂ passed.can_join

  joined_writable : write_number (joined_of first second) room ≡ 0
  unfolding decode
  joined_writable =
      let right₁ = file_passes first passed.first_right in
      let right₂ = file_passes second passed.second_right in
      let some_line = (accepted first passed.first_right).header.lines_least in
      passes_write (joined_of first second) room (record {
        counts = (not_outside (omega arith) passed.can_join.few_lines, (right₁.counts.1.0, tt));
        sliced = whole.sliced;
        contents =
            joined_passes (decode first) (decode second) formed₁ formed₂ passed.can_join
            (passes_new (old_in first) (decode first) right₁.contents) (passes_new (old_in second) (decode second) right₂.contents);
        enough = passed.enough;
      })

  -- the joined file is new and right, and stands for the joined system
  joined_new : NewFile (joined_of first second) (encode (joined_of first second))
  joined_new = written_new (joined_of first second) room joined_writable (below_wider (pow_mono passed.can_join.few_lines) whole.words_within)

-- Joining accepts two files. The bytes that it made, as many as it answers,
module _ (first second buffer buffer' : List ℕ) (w : Result ℕ Refusal) (joins : JoinSays first second buffer w buffer') (ok : (written_answer w).number ≡ 0) where
  pub accepts : join_number first second (length buffer) ≡ 0
  accepts = none_of _ _ _ joins.answer refl ok

  -- are the file of the joined system,
  made_file : file_made w buffer' ≡ encode (joined_of first second)
  made_file =
      let size : (written_answer w).length ≡ file_length (joined_of first second).lines (joined_of first second).levels =
      ap (λ (a : Answer). a.length) (joins.answer ∙ ap (λ (e : ℕ). unless e (made (file_length (joined_of first second).lines (joined_of first second).levels))) accepts) in
      filled_front buffer joins.left accepts (encode_length (joined_of first second) (whole first second (length buffer) accepts).sliced ∙ sym size)

  -- and checking accepts them, as a new file that stands for that system.
  pub joined_accepted : NewFile (joined_of first second) (file_made w buffer')
  joined_accepted = rw made_file (joined_new first second (length buffer) accepts)
