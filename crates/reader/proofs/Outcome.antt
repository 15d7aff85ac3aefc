-- The contract of reading in each of its cases: refused with a number, or accepted.
-- Assumes nothing.
use mathlib.Core.List.{List}
use mathlib.Core.Path.{◌≡◌, sym, ◌∙◌, ap, ap₂}
use Prim.Native.Nat.{ℕ}
use lib.ListN.{length}
use Rattle.std.specs.Prelude.{Ok, Err}
use Rattle.answers.specs.Check.{unless}
use Rattle.answers.specs.declared.Refusal.{Refusal}
use Rattle.system.specs.System.{System}
use Rattle.model.specs.File.{lines_in, levels_in, decode}
use Rattle.reader.specs.Says.{read_number, ReadSays}
use Rattle.model.specs.Says.{sized, filled}
use Rattle.model.proofs.Refusals.{RefusedAs, refused_answer, filled_refused}
use Rattle.model.specs.Files.{held_system}
use Rattle.model.specs.declared.held.HeldFile.{HeldFile}
use Rattle.checker.proofs.Accepted.{Checked, held_decoded}

pub read_refused :
    (file signs kinds thresholds words : List ℕ) (r : Refusal)
    → RefusedAs (read_number file (length signs) (length kinds) (length thresholds) (length words)) r
    → ReadSays file signs kinds thresholds words (Err r) signs kinds thresholds words
read_refused file signs kinds thresholds words r h =
    record {
      answer = refused_answer h (sized (lines_in file) (levels_in file));
      left = record {
        signs_left = filled_refused (decode file).signs signs h.positive;
        kinds_left = filled_refused (decode file).kinds kinds h.positive;
        thresholds_left = filled_refused (decode file).thresholds thresholds h.positive;
        words_left = filled_refused (decode file).words words h.positive;
      };
    }

-- the slices are filled with the sections of the file that checking handed back
pub read_accepted :
    (file signs kinds thresholds words signs' kinds' thresholds' words' : List ℕ) (held : HeldFile)
    → read_number file (length signs) (length kinds) (length thresholds) (length words) ≡ 0
    → held.bytes.now ≡ file
    → Checked file held.model
    → signs' ≡ filled 0 (held_system held).signs signs
    → kinds' ≡ filled 0 (held_system held).kinds kinds
    → thresholds' ≡ filled 0 (held_system held).thresholds thresholds
    → words' ≡ filled 0 (held_system held).words words
    → ReadSays file signs kinds thresholds words (Ok held.model) signs' kinds' thresholds' words'
read_accepted file signs kinds thresholds words signs' kinds' thresholds' words' held none same known signs-filled kinds-filled thresholds-filled words-filled =
    let system = held_decoded held same known in
    record {
      answer = ap₂ sized known.counts.lines known.counts.levels ∙ sym (ap (λ (x : ℕ). unless x (sized (lines_in file) (levels_in file))) none);
      left = record {
        signs_left = signs-filled ∙ ap₂ (λ (x : ℕ) (s : System). filled x s.signs signs) (sym none) system;
        kinds_left = kinds-filled ∙ ap₂ (λ (x : ℕ) (s : System). filled x s.kinds kinds) (sym none) system;
        thresholds_left = thresholds-filled ∙ ap₂ (λ (x : ℕ) (s : System). filled x s.thresholds thresholds) (sym none) system;
        words_left = words-filled ∙ ap₂ (λ (x : ℕ) (s : System). filled x s.words words) (sym none) system;
      };
    }
