-- `writer::write` meets its contract: each refusal is the first number that applies, and the file is `put_file`'s.
-- Assumes nothing.
use mathlib.Core.List.{List}
use mathlib.Core.Path.{◌≡◌, refl, sym, ◌∙◌, ap₂}
use Prim.Native.Nat.{ℕ, ◌<◌}
use borrow.Author.Tests.{eq-eqb, ne_eqb, lt-ltb}
use lib.ListN.{length}
use Rattle.std.specs.Prelude.{Err}
use Rattle.std.proofs.lemmas.Result.{err_from_is_err_and}
use Rattle.answers.specs.Answer.{number_of}
use Rattle.answers.specs.Check.{first_of}
use Rattle.answers.proofs.Checks.{Passes, first_after, none_first}
use Rattle.answers.specs.declared.Refusal.{Refusal}
use Rattle.answers.specs.declared.Refusal.TheVariants.{SignOrKind, StraySelection, Room, SliceLength, Threshold}
use Rattle.system.specs.System.{System, system_of, Sliced}
use Rattle.model.specs.File.{file_length}
use Rattle.model.specs.Checks.{count_checks}
use Rattle.writer.specs.Says.{slice_checks, write_number, WriteSays}
use Rattle.model.proofs.Refusals.{AcceptedAs, accepted_as, refused_as, refused_by, refused_before}
use Rattle.writer.proofs.Passed.{new_checks, buffer_checks, from_contents, from_slices, sliced_passes, passes_write}
use Rattle.writer.proofs.Outcome.{write_refused, write_accepted}
use Rattle.writer.proofs.write.Goals as goal
use Rattle.writer.proofs.write.Goals.{then-signs-d-via-then-signs-d, then-signs-d-via-else-signs-d+then-kinds-n, then-signs-d-via-else-signs-d+else-kinds-n+then-thresholds-n, then-signs-d-via-else-signs-d+else-kinds-n+else-thresholds-n+then-words-n, then-one_over-via-then-one_over, then-one_over-via-else-one_over+then-one_over-2, In_ok-m, Else-words-n, Else-one_misfits, After-file_length-length}

-- the system that is to be written, where the counts are right
abbrev system : In_ok-m → System
system c = system_of c.args.n c.args.d c.args.signs.now c.args.kinds.now c.args.thresholds.now c.args.words.now

counts : (c : In_ok-m) → AcceptedAs (first_of (count_checks c.args.n c.args.d)) c.args.n c.args.d c.in_ok-m.m
counts c = accepted_as _ c.args.n c.args.d c.in_ok-m.ensures

counted : (c : In_ok-m) → Passes (count_checks c.args.n c.args.d)
counted c = none_first (count_checks c.args.n c.args.d) refl (counts c).number

-- a number behind those of the counts refuses
refused₁ : (m : System) (buffer : List ℕ) (r : Refusal) → Passes (count_checks m.lines m.levels) → first_of (from_slices m (length buffer)) ≡ number_of r
    → WriteSays m buffer (Err r) buffer
unfolding write_number
refused₁ m buffer r passed number =
    write_refused m buffer r (refused_by r (first_after (count_checks m.lines m.levels) (from_slices m (length buffer)) passed ∙ number))

-- and one behind those of the slices
refused₂ : (m : System) (buffer : List ℕ) (r : Refusal) → Passes (count_checks m.lines m.levels) → Sliced m → first_of (from_contents m (length buffer)) ≡ number_of r
    → WriteSays m buffer (Err r) buffer
refused₂ m buffer r passed sliced number =
    refused₁ m buffer r passed (first_after (slice_checks m) (from_contents m (length buffer)) (sliced_passes sliced) ∙ number)

-- where the lengths of the slices are right too
sliced : (c : Else-words-n) → Sliced (system_of c.args.n c.args.d c.args.signs.now c.args.kinds.now c.args.thresholds.now c.args.words.now)
sliced c =
    record {
      signs_long = c.if-signs-d.false;
      kinds_long = c.if-kinds-n.false;
      thresholds_long = c.if-thresholds-n.false;
      words_long = c.if-words-n.false;
    }

-- where the contents are right too
contents : (c : Else-one_misfits) → Passes (new_checks (system_of c.args.n c.args.d c.args.signs.now c.args.kinds.now c.args.thresholds.now c.args.words.now))
contents c = (
  rw (sym c.if-one_over.ensures, sym c.if-one_over-2.ensures),
  (sym c.if-one_strays.ensures, (rw c.if-kinds-n.false at (sym c.if-one_misfits.ensures), tt)),
)

-- what the file takes
size : (c : After-file_length-length) (e : ℕ) → AcceptedAs e c.args.n c.args.d c.in_ok-m.m → c.file_length-length.result ≡ file_length c.args.n c.args.d
size c e known = c.file_length-length.ensures ∙ ap₂ file_length known.lines known.levels

pub returns-in_err-m : goal.returns-in_err-m
unfolding write_number
returns-in_err-m c =
    let m = system_of c.args.n c.args.d c.args.signs.now c.args.kinds.now c.args.thresholds.now c.args.words.now in
    let refused = refused_as _ c.args.n c.args.d c.in_err-m.ensures in
    let exit = err_from_is_err_and c.from_residual.result c.from_residual.ensures.1 in
    rw (exit.1, exit.2)
    (write_refused m c.args.buffer.now _ (refused_before (count_checks c.args.n c.args.d) (from_slices m (length c.args.buffer.now)) refused))

pub returns-then-signs-d : goal.returns-then-signs-d
returns-then-signs-d c =
    refused₁ _ _ SliceLength (counted (goal.at.returns-then-signs-d c).In_ok-m)
    (elim c.then-signs-d.branch [
      | then-signs-d-via-then-signs-d w ↦ simp (ne_eqb _ _ w.if-signs-d.true)
      | then-signs-d-via-else-signs-d+then-kinds-n w ↦ simp (eq-eqb _ _ w.if-signs-d.false, ne_eqb _ _ w.if-kinds-n.true)
      | then-signs-d-via-else-signs-d+else-kinds-n+then-thresholds-n w ↦
          simp (eq-eqb _ _ w.if-signs-d.false, eq-eqb _ _ w.if-kinds-n.false, ne_eqb _ _ w.if-thresholds-n.true)
      | then-signs-d-via-else-signs-d+else-kinds-n+else-thresholds-n+then-words-n w ↦
          simp (
            eq-eqb _ _ w.if-signs-d.false,
            eq-eqb _ _ w.if-kinds-n.false,
            eq-eqb _ _ w.if-thresholds-n.false,
            ne_eqb _ _ w.if-words-n.true,
          )
    ])

pub returns-then-one_over : goal.returns-then-one_over
returns-then-one_over c =
    let at = goal.at.returns-then-one_over c in
    refused₂ _ _ SignOrKind (counted at.In_ok-m) (sliced at.Else-words-n)
    (elim c.then-one_over.branch [
      | then-one_over-via-then-one_over w ↦ simp (sym w.if-one_over.ensures)
      | then-one_over-via-else-one_over+then-one_over-2 w ↦ simp (sym w.if-one_over.ensures, sym w.if-one_over-2.ensures)
    ])

pub returns-then-one_strays : goal.returns-then-one_strays
returns-then-one_strays c =
    let at = goal.at.returns-then-one_strays c in
    refused₂ _ _ StraySelection (counted at.In_ok-m) (sliced at.Else-words-n)
    (simp (
      sym c.if-one_over.ensures,
      sym c.if-one_over-2.ensures,
      sym c.if-one_strays.ensures,
    ))

pub returns-then-one_misfits : goal.returns-then-one_misfits
returns-then-one_misfits c =
    let at = goal.at.returns-then-one_misfits c in
    refused₂ _ _ Threshold (counted at.In_ok-m) (sliced at.Else-words-n)
    (simp (
      sym c.if-one_over.ensures,
      sym c.if-one_over-2.ensures,
      sym c.if-one_strays.ensures,
      rw c.if-kinds-n.false at (sym c.if-one_misfits.ensures),
    ))

pub returns-then-buffer-length : goal.returns-then-buffer-length
returns-then-buffer-length c =
    let at = goal.at.returns-then-buffer-length c in
    let m = system at.In_ok-m in
    let space = length c.args.buffer.now in
    let short : space < file_length m.lines m.levels = rw (size at.After-file_length-length _ (counts at.In_ok-m)) at c.if-buffer-length.true in
    refused₂ m c.args.buffer.now Room (counted at.In_ok-m) (sliced at.Else-words-n)
    (first_after (new_checks m) (buffer_checks m space) (contents at.Else-one_misfits) ∙ simp (lt-ltb _ _ short))

pub returns : goal.returns
returns c =
    let at = goal.at.returns c in
    let m = system at.In_ok-m in
    let known = counts at.In_ok-m in
    let accepted : write_number m (length c.args.buffer.now) ≡ 0 =
    passes_write m (length c.args.buffer.now)
    (record {
      counts = counted at.In_ok-m;
      sliced = sliced at.Else-words-n;
      contents = contents at.Else-one_misfits;
      enough = rw (size at.After-file_length-length _ known) at c.if-buffer-length.false;
    }) in
    write_accepted m c.args.buffer.now _ _ _ _ accepted (sliced at.Else-words-n) known c.file_length-length.ensures c.put_file.ensures
