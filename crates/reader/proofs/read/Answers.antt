-- `reader::read` meets its contract: it refuses with the number of `check`, then for a slice that is too short,
-- and else fills the slices with the sections of the file.
-- Assumes nothing.
use mathlib.Core.List.{List, ◌++◌}
use mathlib.Core.Path.{◌≡◌, sym, ◌∙◌, ap, ap₂, subst}
use Prim.Native.Nat.{ℕ, ◌+◌, ◌-◌, ◌*◌, ◌≤◌, ◌<◌}
use native.Mathlib.Omega.{arith}
use borrow.Author.Tests.{lt-ltb, le-ltb}
use lib.ListN.{length, take, drop, length-drop}
use lib.Seq.{length-take-le}
use Rattle.std.specs.Prelude.{Err}
use Rattle.std.proofs.Common.{Bor}
use Rattle.std.proofs.lemmas.Result.{err_from_is_err_and}
use Rattle.answers.specs.Check.{Check, first_of}
use Rattle.answers.specs.declared.Refusal.TheVariants.{Room}
use Rattle.model.specs.File.{lines_in, levels_in}
use Rattle.system.specs.System.{System}
use Rattle.model.specs.Held.{system_in}
use Rattle.model.specs.Files.{laid_system, held_system}
use Rattle.model.specs.Says.{filled}
use Rattle.model.specs.declared.layout.Model.{Model}
use Rattle.checker.specs.Checks.{file_checks, file_number}
use Rattle.reader.specs.Says.{room_checks, read_number, ReadSays}
use Rattle.numbers.proofs.Codec.{words_copied}
use Rattle.model.proofs.Refusals.{refused_by, refused_before}
use Rattle.checker.proofs.Accepted.{Checked, checked, refused, after_file}
use Rattle.reader.proofs.Outcome.{read_refused, read_accepted}
use Rattle.reader.proofs.read.Goals as goal
use Rattle.reader.proofs.read.Goals.{then-signs-d-via-then-signs-d, then-signs-d-via-else-signs-d+then-kinds-n, then-signs-d-via-else-signs-d+else-kinds-n+then-thresholds-n, then-signs-d-via-else-signs-d+else-kinds-n+else-thresholds-n+then-words-n, In_ok-held}

-- where the file is right: the checks behind those of the file decide
abbrev rest : In_ok-held → List Check
rest c =
    room_checks c.args.file.now (length c.args.signs.now) (length c.args.kinds.now) (length c.args.thresholds.now) (length c.args.words.now)

right : (c : In_ok-held) → Checked c.args.file.now c.in_ok-held.held.model
right c = checked c.args.file.now c.in_ok-held.ensures.answer

behind : (c : In_ok-held) → read_number c.args.file.now (length c.args.signs.now) (length c.args.kinds.now) (length c.args.thresholds.now) (length c.args.words.now)
    ≡ first_of (rest c)
unfolding read_number
behind c = after_file c.args.file.now (rest c) (right c).counts.number

short : (c : In_ok-held) → first_of (rest c) ≡ 12
    → ReadSays c.args.file.now c.args.signs.now c.args.kinds.now c.args.thresholds.now c.args.words.now (Err Room)
    c.args.signs.now c.args.kinds.now c.args.thresholds.now c.args.words.now
short c small = read_refused _ _ _ _ _ Room (refused_by Room (behind c ∙ small))

words_count : (c : In_ok-held) → c.in_ok-held.held.model.lines * c.in_ok-held.held.model.levels ≡ lines_in c.args.file.now * levels_in c.args.file.now
words_count c = ap₂ ◌*◌ (right c).counts.lines (right c).counts.levels

-- d bytes of the file, from 16 up to k, are copied into the first d entries of a slice
signs_copied : (file signs part : List ℕ) (d k : ℕ) → k ≡ 16 + d → k ≤ length file → part ≡ take (k - 16) (drop 16 file)
    → part ++ drop d signs ≡ filled 0 (take d (drop 16 file)) signs
signs_copied file signs part d k end within copied =
    let count : k - 16 ≡ d = omega arith in
    ap₂ (λ (r : List ℕ) (n : ℕ). r ++ drop n signs) (copied ∙ ap (λ (j : ℕ). take j (drop 16 file)) count)
    (sym (length-take-le d (drop 16 file) (omega (arith, length-drop 16 file))))

pub returns-in_err-held : goal.returns-in_err-held
unfolding read_number file_number
returns-in_err-held c =
    let file = c.args.file.now in
    let checks = room_checks file (length c.args.signs.now) (length c.args.kinds.now) (length c.args.thresholds.now) (length c.args.words.now) in
    let exit = err_from_is_err_and c.from_residual.result c.from_residual.ensures.1 in
    rw (exit.1, exit.2) (read_refused _ _ _ _ _ _ (refused_before (file_checks file) checks (refused file c.in_err-held.ensures.answer)))

pub returns-then-signs-d : goal.returns-then-signs-d
returns-then-signs-d c =
    let at = (goal.at.returns-then-signs-d c).In_ok-held in
    let counts = (right at).counts in
    short at
    (elim c.then-signs-d.branch [
      | then-signs-d-via-then-signs-d w ↦ simp (lt-ltb _ _ (rw counts.levels at w.if-signs-d.true))
      | then-signs-d-via-else-signs-d+then-kinds-n w ↦
          simp (le-ltb _ _ (rw counts.levels at w.if-signs-d.false), lt-ltb _ _ (rw counts.lines at w.if-kinds-n.true))
      | then-signs-d-via-else-signs-d+else-kinds-n+then-thresholds-n w ↦
          simp (
            le-ltb _ _ (rw counts.levels at w.if-signs-d.false),
            le-ltb _ _ (rw counts.lines at w.if-kinds-n.false),
            lt-ltb _ _ (rw counts.lines at w.if-thresholds-n.true),
          )
      | then-signs-d-via-else-signs-d+else-kinds-n+else-thresholds-n+then-words-n w ↦
          simp (
            le-ltb _ _ (rw counts.levels at w.if-signs-d.false),
            le-ltb _ _ (rw counts.lines at w.if-kinds-n.false),
            le-ltb _ _ (rw counts.lines at w.if-thresholds-n.false),
            lt-ltb _ _ (subst (λ (k : ℕ). length c.args.words.now < k) (words_count at) w.if-words-n.true),
          )
    ])

pub returns : goal.returns
returns c =
    let at = (goal.at.returns c).In_ok-held in
    let file = c.args.file.now in
    let held = c.in_ok-held.held in
    let laid = held.held.laid_out in
    let known = right at in
    let accepted : read_number file (length c.args.signs.now) (length c.args.kinds.now) (length c.args.thresholds.now) (length c.args.words.now) ≡ 0 =
    behind at
    ∙ simp (
      le-ltb _ _ (rw known.counts.levels at c.if-signs-d.false),
      le-ltb _ _ (rw known.counts.lines at c.if-kinds-n.false),
      le-ltb _ _ (rw known.counts.lines at c.if-thresholds-n.false),
      le-ltb _ _ (subst (λ (k : ℕ). k ≤ length c.args.words.now) (words_count at) c.if-words-n.false),
    ) in
    let lines : laid_system c.laid.result ≡ held_system held = ap₂ (λ (bytes : Bor (List ℕ)) (m : Model). system_in bytes.now m) c.laid.ensures.0 c.laid.ensures.1 in
    read_accepted _ _ _ _ _ _ _ _ _ held accepted c.in_ok-held.ensures.same known
    (signs_copied held.bytes.now c.args.signs.now _ held.model.levels c.kinds_at-kinds_at.result c.kinds_at-kinds_at.ensures
    (omega (arith, c.kinds_at-kinds_at.ensures, laid.laid, laid.whole)) c.copy_from_slice.ensures.after)
    (c.read_lines.ensures.kinds ∙ ap (λ (s : System). filled 0 s.kinds c.args.kinds.now) lines)
    (c.read_lines.ensures.thresholds ∙ ap (λ (s : System). filled 0 s.thresholds c.args.thresholds.now) lines)
    (words_copied held.bytes.now _ _ _ _ _ c.words_in-words_at.ensures c.read_words.ensures)
