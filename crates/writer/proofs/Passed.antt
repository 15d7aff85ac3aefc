-- A system passes all checks of writing exactly where its counts, slices and contents pass and there is room for its file.
-- Assumes nothing.
use mathlib.Core.Bool.{false}
use mathlib.Core.List.{List, [], ◌∷◌, ◌++◌}
use mathlib.Core.Path.{◌≡◌, refl}
use Prim.Native.Nat.{ℕ, ◌≤◌}
use lib.Dec.{ltb}
use borrow.Author.Tests.{ltb-false, le-ltb}
use Rattle.answers.specs.Check.{Check, ◌if◌}
use Rattle.answers.proofs.Checks.{Passes, passes_both, passes_append, passes_none, none_first, same, unlike}
use Rattle.system.specs.System.{System, Sliced}
use Rattle.model.specs.File.{file_length, highest_kind}
use Rattle.model.specs.Checks.{count_checks, content_checks}
use Rattle.writer.specs.Says.{slice_checks, write_number}

pub sliced_passes : {m : System} → Sliced m → Passes (slice_checks m)
sliced_passes sliced = (unlike sliced.signs_long, (unlike sliced.kinds_long, (unlike sliced.thresholds_long, (unlike sliced.words_long, tt))))

passes_sliced : (m : System) → Passes (slice_checks m) → Sliced m
passes_sliced m h =
    record { signs_long = same h.0; kinds_long = same h.1.0; thresholds_long = same h.1.1.0; words_long = same h.1.1.1.0 }

-- writing's checks of the contents, which are those of a new file, its last check, and its checks from the contents on and from the slices on
abbrev pub new_checks : System → List Check
new_checks = content_checks (highest_kind false)

abbrev pub buffer_checks : System → ℕ → List Check
buffer_checks m room = 12 if ltb room (file_length m.lines m.levels) ∷ []

abbrev pub from_contents : System → ℕ → List Check
from_contents m room = new_checks m ++ buffer_checks m room

abbrev pub from_slices : System → ℕ → List Check
from_slices m room = slice_checks m ++ from_contents m room

-- a system passes where its counts, slices and contents do, and there is room for its file
pub record WritePasses (m : System) (room : ℕ) : Type 0 where
  pub counts : Passes (count_checks m.lines m.levels)
  pub sliced : Sliced m
  pub contents : Passes (new_checks m)
  pub enough : file_length m.lines m.levels ≤ room

pub write_passes : (m : System) (room : ℕ) → write_number m room ≡ 0 → WritePasses m room
unfolding write_number
write_passes m room h =
    let all = passes_both (count_checks m.lines m.levels) (from_slices m room) (none_first (count_checks m.lines m.levels ++ from_slices m room) refl h) in
    let slices = passes_both (slice_checks m) (from_contents m room) all.1 in
    let contents = passes_both (new_checks m) (buffer_checks m room) slices.1 in
    record {
      counts = all.0;
      sliced = passes_sliced m slices.0;
      contents = contents.0;
      enough = ltb-false room (file_length m.lines m.levels) contents.1.0;
    }

pub passes_write : (m : System) (room : ℕ) → WritePasses m room → write_number m room ≡ 0
unfolding write_number
passes_write m room ok =
    passes_none (count_checks m.lines m.levels ++ from_slices m room)
    (passes_append (count_checks m.lines m.levels) (from_slices m room) ok.counts
    (passes_append (slice_checks m) (from_contents m room) (sliced_passes ok.sliced)
    (passes_append (new_checks m) (buffer_checks m room) ok.contents (le-ltb room (file_length m.lines m.levels) ok.enough, tt))))
