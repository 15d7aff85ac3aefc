-- What an accepted file is, for those who use it: what holds of every sign, kind and word is said at each index below their number, and every vote
-- needs an operand.
-- Assumes nothing.
use mathlib.Core.Bool.{false}
use mathlib.Core.List.{List, ◌++◌}
use mathlib.Core.Path.{◌≡◌, refl, sym, ◌∙◌, ap, ap₂, subst}
use mathlib.Mathlib.Data.Bool.Basic.{or-eq-false-eq-eq-false-and-eq-false as neither}
use Prim.Native.Nat.{ℕ, ◌*◌, ◌^◌, ◌≤◌, ◌<◌, min}
use native.Mathlib.Decide.{dec_lt}
use native.Mathlib.Nat.{min-eq_left}
use native.Mathlib.Omega.{arith}
use lib.Dec.{ltb}
use lib.ListN.{length, get_or, length-drop, get_or-eq_default}
use lib.Pow.{pow_pos}
use lib.Seq.{length-take-le}
use borrow.Author.Tests.{ltb-false, not-false}
use Rattle.answers.specs.Check.{Check, first_of}
use Rattle.answers.proofs.Checks.{Passes, passes_both, none_first, after_none, inside}
use Rattle.lists.proofs.Below.{below_entries}
use Rattle.system.specs.Query.{VotesNeed}
use Rattle.system.specs.System.{WellFormed}
use Rattle.model.specs.File.{lines_in, levels_in, highest_kind, sections, decode}
use Rattle.model.specs.Checks.{some, strays, misfits, threshold_misfits}
use Rattle.model.specs.Held.{LaidOut, Held}
use Rattle.checker.specs.Checks.{header_checks, section_checks, file_checks, file_number, check_answer}
use Rattle.model.specs.Says.{sized}
use Rattle.model.specs.Files.{held_system}
use Rattle.answers.specs.Answer.{refusal, number_of}
use Rattle.answers.specs.declared.Refusal.{Refusal}
use Rattle.model.specs.declared.layout.Model.{Model}
use Rattle.model.specs.declared.held.HeldFile.{HeldFile}
use Rattle.sets.specs.Set.{full}
use Rattle.sets.proofs.Order.{within_le}
use Rattle.sets.proofs.Range.{full_below}
use Rattle.model.proofs.Thresholds.{vote}
use Rattle.model.proofs.Searches.{false_some, false_below}
use Rattle.model.proofs.Lines.{every_length, thresholds_length}
use Rattle.numbers.proofs.Codec.{words_length}
use Rattle.model.proofs.Refusals.{AcceptedAs, RefusedAs, accepted_as, refused_as}
use Rattle.model.proofs.RoundTrip.{old_in, Laid}
use Rattle.checker.proofs.Passed.{passes_laid}

-- the counts, and where the sections begin and end
pub record Headed (file : List ℕ) : Type 0 where
  pub lines_least : 1 ≤ lines_in file
  pub lines_most : lines_in file ≤ 64
  pub levels_least : 1 ≤ levels_in file
  pub levels_most : levels_in file ≤ 8
  pub laid : Laid file

pub headed : (file : List ℕ) → Passes (header_checks file) → Headed file
headed file passed =
    let lines = inside 64 (lines_in file) passed.1.0 in
    let levels = inside 8 (levels_in file) passed.1.1.0 in
    record {
      lines_least = lines.0;
      lines_most = lines.1;
      levels_least = levels.0;
      levels_most = levels.1;
      laid = passes_laid file passed.1.1.1;
    }

-- how many signs, kinds, thresholds and words there are
pub count_signs : {file : List ℕ} → Headed file → length (decode file).signs ≡ levels_in file
unfolding decode
count_signs h = length-take-le _ _ (simp length-drop (omega arith))

pub count_kinds : (file : List ℕ) → length (decode file).kinds ≡ lines_in file
unfolding decode
count_kinds file = every_length _ _ _

pub count_thresholds : (file : List ℕ) → length (decode file).thresholds ≡ lines_in file
unfolding decode
count_thresholds file = thresholds_length (old_in file) _ _

pub count_words : (file : List ℕ) → length (decode file).words ≡ lines_in file * levels_in file
unfolding decode
count_words file = words_length _ _

pub record Accepted (file : List ℕ) : Type 0 where
  pub header : Headed file
  pub signs : (k : ℕ) → k < levels_in file → get_or (decode file).signs k 0 ≤ 1
  pub kinds : (i : ℕ) → i < lines_in file → get_or (decode file).kinds i 0 ≤ highest_kind (old_in file)
  pub words : (j : ℕ) → j < lines_in file * levels_in file → get_or (decode file).words j 0 < 2 ^ lines_in file
  pub votes : VotesNeed (decode file)

-- a vote whose threshold fits it needs an operand
vote_needs : (kind t count : ℕ) → misfits kind t count ≡ false → 2 ≤ kind → 1 ≤ t
vote_needs kind t count fits h = (inside count t (sym (vote kind t count h) ∙ fits)).0

pub accepted : (file : List ℕ) → file_number file ≡ 0 → Accepted file
unfolding file_number decode
accepted file h =
    let passed = passes_both (header_checks file) (section_checks file) (none_first (file_checks file) refl h) in
    let header = headed file passed.0 in
    let content = passed.1 in
    let system = decode file in
    let highest = highest_kind (old_in file) in
    let bytes = (neither (some (ltb 1) system.signs) (some (ltb highest) system.kinds)).0 content.0 in
    record {
      header = header;
      signs = λ k l. ltb-false 1 _ (false_some (ltb 1) system.signs bytes.0 k (rw (count_signs header) l));
      kinds = λ i l. ltb-false highest _ (false_some (ltb highest) system.kinds bytes.1 i (rw (count_kinds file) l));
      words = λ j l.
          let within = not-false _ (false_some (strays (lines_in file)) system.words content.1.0 j (rw (count_words file) l)) in
          full_below (lines_in file) _ (within_le _ _ within);
      votes = λ i vote.
          elim (dec_lt i (lines_in file)) [
            | yes l ↦ vote_needs _ _ _ (false_below (threshold_misfits system) (lines_in file) content.1.1.0 i l) vote
            | no g ↦ absurd (omega (arith, get_or-eq_default system.kinds 0 {n = i} (omega (arith, count_kinds file))))
          ];
    }

-- Its system is well-formed.
pub formed : (file : List ℕ) → Accepted file → WellFormed (decode file)
unfolding decode
formed file ok =
    record {
      sliced = record {
        signs_long = count_signs ok.header;
        kinds_long = count_kinds file;
        thresholds_long = count_thresholds file;
        words_long = count_words file;
      };
      words_within = below_entries (decode file).words (λ j.
          elim (dec_lt j (lines_in file * levels_in file)) [
            | yes l ↦ ok.words j l
            | no g ↦ rw (get_or-eq_default (decode file).words 0 {n = j} (omega (arith, count_words file))) (pow_pos (lines_in file))
          ]);
    }

-- the system of the counts that are handed back, and what is asked of them wherever the file is used
pub decoded : (file : List ℕ) {e : ℕ} {m : Model}
    → AcceptedAs e (lines_in file) (levels_in file) m → sections m.lines m.levels file ≡ decode file
unfolding decode
decoded file a = ap₂ (λ (n d : ℕ). sections n d file) a.lines a.levels

module _ {file : List ℕ} {e : ℕ} {m : Model} where
  pub laid_out : Headed file → AcceptedAs e (lines_in file) (levels_in file) m → LaidOut file m
  laid_out h a =
      record {
        few_lines = omega arith;
        few_levels = omega arith;
        laid = rw (a.lines, a.levels) h.laid.words_right;
        whole = rw (a.lines, a.levels) (omega (arith, h.laid.length_right));
      }

  pub held : Accepted file → AcceptedAs e (lines_in file) (levels_in file) m → Held file m
  held ok a = record { laid_out = laid_out ok.header a; votes = subst VotesNeed (sym (decoded file a)) ok.votes }

-- what checking says that accepts
pub record Checked (file : List ℕ) (m : Model) : Type 0 where
  pub counts : AcceptedAs (file_number file) (lines_in file) (levels_in file) m
  pub accepted : Accepted file
  pub system : sections m.lines m.levels file ≡ decode file
  pub limits : (m.lines ≤ 64) × (m.levels ≤ 8)
  pub laid_out : LaidOut file m
  pub held : Held file m

-- What checking's two answers say. In an arm the clause is the fact that is asked for.
module _ (file : List ℕ) where
  pub checked : {m : Model} → sized m.lines m.levels ≡ check_answer file → Checked file m
  checked h =
      let counts = accepted_as (file_number file) (lines_in file) (levels_in file) h in
      let whole = accepted file counts.number in
      let at_hand = held whole counts in
      record {
        counts = counts;
        accepted = whole;
        system = decoded file counts;
        limits = (at_hand.laid_out.few_lines, at_hand.laid_out.few_levels);
        laid_out = at_hand.laid_out;
        held = at_hand;
      }

  pub refused : {r : Refusal} → refusal (number_of r) ≡ check_answer file → RefusedAs (file_number file) r
  refused h = refused_as (file_number file) (lines_in file) (levels_in file) h

-- the system of the file that checking hands back is the one that the file stands for
pub held_decoded : {file : List ℕ} (f : HeldFile) → f.bytes.now ≡ file → Checked file f.model → held_system f ≡ decode file
held_decoded f same known = ap (sections f.model.lines f.model.levels) same ∙ known.system

-- the mask of all lines of an accepted file, as `full_set` gives it
pub all_lines : (file : List ℕ) {m : Model} {all : ℕ} → Checked file m → all ≡ full (min m.lines 64) → all ≡ full (lines_in file)
all_lines file known mask = mask ∙ ap full (min-eq_left known.limits.0 ∙ known.counts.lines)

-- further checks are made of an accepted file alone
pub after_file : (file : List ℕ) (more : List Check) → file_number file ≡ 0 → first_of (file_checks file ++ more) ≡ first_of more
unfolding file_number
after_file file more = after_none (file_checks file) more refl
