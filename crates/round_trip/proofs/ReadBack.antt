-- The two operations on a file, one after the other: reading what was written hands the model back, and writing what was read
-- makes a new file of the same model, which is the file itself if that was new.
-- Assumes nothing.
use mathlib.Core.Bool.{false}
use mathlib.Core.List.{List, ◌++◌}
use mathlib.Core.Path.{◌≡◌, refl, sym, ◌∙◌, ap, ap₂}
use Prim.Native.Nat.{ℕ, ◌*◌, ◌^◌, ◌≤◌}
use borrow.Author.Tests.{le-ltb}
use lib.ListN.{length, take}
use lib.Seq.{take_at}
use Rattle.std.specs.Prelude.{Result}
use Rattle.answers.specs.Answer.{Answer}
use Rattle.answers.specs.declared.Refusal.{Refusal}
use Rattle.answers.specs.Check.{unless}
use Rattle.answers.proofs.Checks.{passes_both, passes_none, none_first}
use Rattle.system.specs.System.{System, system_of}
use Rattle.model.specs.File.{file_length, lines_in, levels_in, decode, encode}
use Rattle.checker.specs.Checks.{file_checks, file_number}
use Rattle.reader.specs.Says.{room_checks, read_number, ReadSays}
use Rattle.writer.specs.Says.{write_number, written_answer, WriteSays}
use Rattle.model.specs.Says.{sized, made, reading_answer, filled}
use Rattle.model.specs.declared.layout.Model.{Model}
use Rattle.lists.specs.Below.{AllBelow}
use Rattle.model.proofs.Refusals.{none_of}
use Rattle.model.proofs.RoundTrip.{old_in, encode_length, encode_lines, encode_levels}
use Rattle.checker.proofs.Accepted.{after_file}
use Rattle.round_trip.proofs.RightFiles.{NewFile, written_fits, written_new, read_sliced, read_writable, read_renewed, read_length, read_encodes}

-- reading a right file into slices that are long enough
room_enough :
    (file : List ℕ) (s k t w : ℕ) → file_number file ≡ 0 → levels_in file ≤ s → lines_in file ≤ k → lines_in file ≤ t → lines_in file * levels_in file ≤ w
    → read_number file s k t w ≡ 0
unfolding read_number
room_enough file s k t w right hs hk ht hw =
    after_file file (room_checks file s k t w) right
    ∙ passes_none (room_checks file s k t w)
    (le-ltb s (levels_in file) hs, (le-ltb k (lines_in file) hk, (le-ltb t (lines_in file) ht, (le-ltb w (lines_in file * levels_in file) hw, tt))))

-- a file that is read is right
file_right : (file : List ℕ) (s k t w : ℕ) → read_number file s k t w ≡ 0 → file_number file ≡ 0
unfolding read_number file_number
file_right file s k t w h =
    passes_none (file_checks file) (passes_both (file_checks file) (room_checks file s k t w) (none_first (file_checks file ++ room_checks file s k t w) refl h)).0

-- the front of a lent list after an operation that was not refused
pub filled_front : {new left : List ℕ} {e n : ℕ} (old : List ℕ) → left ≡ filled e new old → e ≡ 0 → length new ≡ n → take n left ≡ new
filled_front {new} {n = n} old says none long = ap (take n) (says ∙ ap (λ (e : ℕ). filled e new old) none) ∙ take_at new _ n long

-- what a model's slices hold after reading
pub record Holds (m : System) (r : Result Model Refusal) (signs kinds thresholds words : List ℕ) : Type 0 where
  pub counts : reading_answer r ≡ sized m.lines m.levels
  pub signs_read : take m.levels signs ≡ m.signs
  pub kinds_read : take m.lines kinds ≡ m.kinds
  pub thresholds_read : take m.lines thresholds ≡ m.thresholds
  pub words_read : take (m.lines * m.levels) words ≡ m.words

-- the system that reading hands back, with n lines and d levels
abbrev pub handed_back : ℕ → ℕ → List ℕ → List ℕ → List ℕ → List ℕ → System
handed_back n d signs kinds thresholds words = system_of n d (take d signs) (take n kinds) (take n thresholds) (take (n * d) words)

holds_system :
    (m : System) (r : Result Model Refusal) (signs kinds thresholds words : List ℕ) → Holds m r signs kinds thresholds words
    → (n d : ℕ) → reading_answer r ≡ sized n d → handed_back n d signs kinds thresholds words ≡ m
holds_system m r signs kinds thresholds words held n d ok =
    let counts = sym ok ∙ held.counts in
    ap₂ (λ (i j : ℕ). handed_back i j signs kinds thresholds words) (ap (λ (a : Answer). a.lines) counts) (ap (λ (a : Answer). a.levels) counts)
    ∙ (λ i. record {
      lines = m.lines;
      levels = m.levels;
      signs = held.signs_read i;
      kinds = held.kinds_read i;
      thresholds = held.thresholds_read i;
      words = held.words_read i;
    })

-- a file is read
module _
    (file signs kinds thresholds words signs' kinds' thresholds' words' : List ℕ) (r : Result Model Refusal)
    (read : ReadSays file signs kinds thresholds words r signs' kinds' thresholds' words') where
  -- what reading hands back is the model that the file stands for
  read_holds : read_number file (length signs) (length kinds) (length thresholds) (length words) ≡ 0 → Holds (decode file) r signs' kinds' thresholds' words'
  unfolding decode
  read_holds none =
      let sliced = read_sliced file (file_right file (length signs) (length kinds) (length thresholds) (length words) none) in
      record {
        counts = read.answer ∙ ap (λ (e : ℕ). unless e (sized (lines_in file) (levels_in file))) none;
        signs_read = filled_front signs read.left.signs_left none sliced.signs_long;
        kinds_read = filled_front kinds read.left.kinds_left none sliced.kinds_long;
        thresholds_read = filled_front thresholds read.left.thresholds_left none sliced.thresholds_long;
        words_read = filled_front words read.left.words_left none sliced.words_long;
      }

  -- Reading accepts the file, with n lines and d levels,
  module _ (n d : ℕ) (ok : reading_answer r ≡ sized n d) where
    none : read_number file (length signs) (length kinds) (length thresholds) (length words) ≡ 0
    none = none_of _ _ _ read.answer refl (ap (λ (a : Answer). a.number) ok)

    right : file_number file ≡ 0
    right = file_right file (length signs) (length kinds) (length thresholds) (length words) none

    system : handed_back n d signs' kinds' thresholds' words' ≡ decode file
    system = holds_system (decode file) r signs' kinds' thresholds' words' (read_holds none) n d ok

    size : file_length n d ≡ file_length (decode file).lines (decode file).levels
    size = ap (λ (m : System). file_length m.lines m.levels) system

    -- and what it filled is written.
    module _ (buffer buffer' : List ℕ) (w : Result ℕ Refusal) (wrote : WriteSays (handed_back n d signs' kinds' thresholds' words') buffer w buffer') where
      -- Into a buffer that is long enough for a new file, that makes the new file of the system that the file stands for.
      pub read_then_written : file_length n d ≤ length buffer → (written_answer w ≡ made (file_length n d)) × (take (file_length n d) buffer' ≡ encode (decode file))
      read_then_written long =
          let says : WriteSays (decode file) buffer w buffer' = rw system at wrote in
          let accepts = read_writable file right (length buffer) (rw size at long) in (
            says.answer ∙ ap (λ (e : ℕ). unless e (made (file_length (decode file).lines (decode file).levels))) accepts ∙ ap made (sym size),
            filled_front buffer says.left accepts (encode_length (decode file) (read_sliced file right) ∙ sym size),
          )

      -- Checking accepts what was made, and it stands for the same system: an old file is made new.
      pub read_then_renewed : AllBelow 256 file → file_length n d ≤ length buffer → NewFile (decode file) (take (file_length n d) buffer')
      read_then_renewed bytes long = rw (read_then_written long).1 (read_renewed file right bytes)

      -- A new file is made again.
      pub new_read_then_written : AllBelow 256 file → old_in file ≡ false → length file ≤ length buffer → (written_answer w ≡ made (length file)) × (take (length file) buffer' ≡ file)
      new_read_then_written bytes new long =
          let same : file_length n d ≡ length file = size ∙ sym (read_length file right new) in
          let wrote-new = read_then_written (rw same long) in
          (wrote-new.0 ∙ ap made same, ap (λ (k : ℕ). take k buffer') (sym same) ∙ wrote-new.1 ∙ read_encodes file right bytes new)

-- Writing accepts a model. Reading the bytes that it made, into slices that are long enough, hands the model back.
pub written_then_read :
    (m : System) (buffer buffer' : List ℕ) (w : Result ℕ Refusal) → WriteSays m buffer w buffer' → (written_answer w).number ≡ 0 → AllBelow (2 ^ 64) m.words
    → (signs kinds thresholds words signs' kinds' thresholds' words' : List ℕ) (r : Result Model Refusal)
    → ReadSays (take (file_length m.lines m.levels) buffer') signs kinds thresholds words r signs' kinds' thresholds' words'
    → m.levels ≤ length signs → m.lines ≤ length kinds → m.lines ≤ length thresholds → m.lines * m.levels ≤ length words
    → Holds m r signs' kinds' thresholds' words'
written_then_read m buffer buffer' w wrote ok below signs kinds thresholds words signs' kinds' thresholds' words' r read hs hk ht hw =
    let none : write_number m (length buffer) ≡ 0 = none_of _ _ _ wrote.answer refl ok in
    let fit = written_fits m (length buffer) none below in
    let file = filled_front buffer wrote.left none (encode_length m fit.sliced) in
    let new = written_new m (length buffer) none below in
    let lines = encode_lines m fit in
    let levels = encode_levels m fit in
    let room = room_enough (encode m) (length signs) (length kinds) (length thresholds) (length words) new.right (rw levels hs) (rw lines hk) (rw lines ht) (rw (lines, levels) hw) in
    rw new.stands at (read_holds (encode m) signs kinds thresholds words signs' kinds' thresholds' words' r (rw file at read) room)
