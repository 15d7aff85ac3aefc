-- A system that writing accepts, and a file that checking accepts: the file that is written is new and right and stands for the system,
-- and what a right file stands for may be written, which makes a new file that stands for the same, or that file again if it is new.
-- Assumes nothing.
use mathlib.Core.Bool.{Bool, true, false}
use mathlib.Core.List.{List}
use mathlib.Core.Path.{◌≡◌}
use mathlib.Mathlib.Data.Bool.Basic.{or-eq-false-eq-eq-false-and-eq-false as neither}
use Prim.Native.Nat.{ℕ, ◌^◌, ◌≤◌}
use native.Mathlib.Nat.{le_refl, le_step}
use native.Mathlib.Omega.{arith}
use borrow.Author.Tests.{ltb-false, le-ltb}
use lib.Dec.{ltb}
use lib.ListN.{length, get_or}
use Rattle.answers.proofs.Checks.{Passes, inside}
use Rattle.system.specs.System.{System, Sliced}
use Rattle.model.specs.File.{file_length, words_in, highest_kind, decode, encode}
use Rattle.model.specs.Checks.{some, content_checks}
use Rattle.checker.specs.Checks.{file_number}
use Rattle.writer.specs.Says.{write_number}
use Rattle.lists.specs.Below.{AllBelow}
use Rattle.lists.proofs.Below.{below_drop}
use Rattle.numbers.proofs.Codec.{words_below}
use Rattle.model.proofs.Searches.{some_false, false_some}
use Rattle.model.proofs.RoundTrip.{Fitting, old_in, encode_lines, encode_levels, encode_new, encode_laid, decode_encode, encode_decode}
use Rattle.checker.proofs.Accepted.{accepted, formed}
use Rattle.checker.proofs.Passed.{file_passes, passes_file}
use Rattle.writer.proofs.Passed.{new_checks, write_passes, passes_write}

-- a new file that checking accepts and that stands for the system m
pub record NewFile (m : System) (file : List ℕ) : Type 0 where
  pub right : file_number file ≡ 0
  pub new : old_in file ≡ false
  pub stands : decode file ≡ m

-- a system that was written
module _ (m : System) (room : ℕ) (none : write_number m room ≡ 0) (below : AllBelow (2 ^ 64) m.words) where
  pub written_fits : Fitting m
  written_fits =
      let ok = write_passes m room none in
      let lines = inside 64 m.lines ok.counts.0 in
      record {
        lines_some = lines.0;
        lines_few = lines.1;
        levels_few = (inside 8 m.levels ok.counts.1.0).1;
        sliced = ok.sliced;
        words_below = below;
      }

  -- Its file is new and right, and stands for it.
  pub written_new : NewFile m (encode m)
  written_new =
      let ok = write_passes m room none in
      let fit = written_fits in
      let new = encode_new m fit in
      let stands = decode_encode m fit in
      record {
        right =
            passes_file (encode m) (record {
              counts = rw (encode_lines m fit, encode_levels m fit) ok.counts;
              laid = encode_laid m fit;
              contents = rw (new, stands) ok.contents;
            });
        new = new;
        stands = stands;
      }

-- contents that pass as an old file's pass as a new file's
none_over : (xs : List ℕ) → some (ltb 1) xs ≡ false → some (ltb 2) xs ≡ false
none_over xs h = some_false (ltb 2) xs (le_refl (length xs)) (λ i l. le-ltb 2 (get_or xs i 0) (le_step (ltb-false 1 (get_or xs i 0) (false_some (ltb 1) xs h i l))))

pub passes_new : (old : Bool) (m : System) → Passes (content_checks (highest_kind old) m) → Passes (new_checks m)
passes_new true m h =
    let bytes = (neither (some (ltb 1) m.signs) (some (ltb 1) m.kinds)).0 h.0 in
    (rw bytes.0 (none_over m.kinds bytes.1), h.1)
passes_new false m h = h

-- a file that was read
module _ (file : List ℕ) (none : file_number file ≡ 0) where
  -- The slices of the system that it stands for have the right lengths,
  pub read_sliced : Sliced (decode file)
  read_sliced = (formed file (accepted file none)).sliced

  -- and that system may be written into any buffer that is long enough for its file.
  pub read_writable : (room : ℕ) → file_length (decode file).lines (decode file).levels ≤ room → write_number (decode file) room ≡ 0
  unfolding decode
  read_writable room long =
      let ok = file_passes file none in
      passes_write (decode file) room (record {
        counts = ok.counts;
        sliced = read_sliced;
        contents = passes_new (old_in file) (decode file) ok.contents;
        enough = long;
      })

  -- That file is new and right, and stands for the same system.
  pub read_renewed : AllBelow 256 file → NewFile (decode file) (encode (decode file))
  read_renewed bytes =
      let words : AllBelow (2 ^ 64) (decode file).words = unfold decode in words_below _ _ (below_drop (words_in file) bytes) in
      written_new (decode file) _ (read_writable _ (le_refl _)) words

  -- A new file is as long as that file, and is that file.
  pub read_length : old_in file ≡ false → length file ≡ file_length (decode file).lines (decode file).levels
  unfolding decode
  read_length new =
      let laid = (file_passes file none).laid in
      omega (arith, laid.length_right, rw new at laid.words_right)

  pub read_encodes : AllBelow 256 file → old_in file ≡ false → encode (decode file) ≡ file
  read_encodes bytes = encode_decode file bytes (file_passes file none).laid
