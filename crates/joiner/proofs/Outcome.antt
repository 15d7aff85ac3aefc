-- The contract of joining in each of its cases: one of the files is refused, the two do not go together, the buffer is too short, or the file is made.
-- Assumes nothing.
use mathlib.Core.Bool.{Bool, true, false, not}
use mathlib.Core.List.{List, ◌++◌}
use mathlib.Core.Path.{◌≡◌, sym, ◌∙◌, ap, ap₂, subst}
use Prim.Native.Nat.{ℕ, ◌+◌, ◌-◌, ◌^◌, ◌≤◌, ◌<◌}
use native.Mathlib.Omega.{arith}
use borrow.Author.Tests.{eq-eqb, ne_eqb, lt-ltb, le-ltb}
use lib.Dec.{eqb}
use lib.ListN.{length, take, drop, length-drop}
use lib.Seq.{length-take-le}
use Rattle.std.proofs.Common.{Bor}
use Rattle.std.specs.Cmp.Lexicographic.{pointwise}
use Rattle.std.specs.Prelude.{Ok, Err}
use Rattle.lists.specs.Below.{AllBelow}
use Rattle.answers.specs.Answer.{number_of}
use Rattle.answers.specs.Check.{Check, first_of, unless}
use Rattle.answers.specs.declared.Refusal.{Refusal}
use Rattle.answers.specs.declared.Refusal.TheVariants.{Lines, Room, LevelsDiffer}
use Rattle.system.specs.System.{System, Sliced, WellFormed}
use Rattle.system.specs.Joined.{joined}
use Rattle.system.proofs.Joined.{joined_formed}
use Rattle.model.specs.File.{kinds_at, file_length, decode, encode}
use Rattle.model.specs.Checks.{some_below}
use Rattle.model.specs.Held.{LaidOut, system_in}
use Rattle.model.specs.Files.{laid_system, held_system}
use Rattle.model.specs.declared.held.LaidFile.{LaidFile}
use Rattle.model.specs.declared.held.HeldFile.{HeldFile}
use Rattle.model.specs.Says.{made, filled}
use Rattle.model.specs.declared.layout.Model.{Model}
use Rattle.model.proofs.RoundTrip.{encode_length}
use Rattle.model.proofs.Refusals.{RefusedAs, refused_by, refused_answer, refused_before, filled_refused}
use Rattle.checker.specs.Checks.{file_checks, file_number}
use Rattle.checker.proofs.Accepted.{Checked, formed, held_decoded, after_file}
use Rattle.joiner.specs.Says.{differ_at, joined_of, join_number, JoinSays}
use Rattle.joined_file.specs.AtHand.{joined_laid, LaidAtHand}
use Rattle.joiner.proofs.Passed.{both_checks, compared, joinable}

-- the signs of a file at hand are there
pub signs_there : {file : List ℕ} {m : Model} → LaidOut file m → kinds_at m.levels ≤ length file
signs_there laid = omega (arith, laid.laid, laid.whole)

-- whether the signs of two files at hand differ, where they have the levels of the first
abbrev pub signs_differ : HeldFile → HeldFile → Bool
signs_differ one other = some_below one.model.levels (differ_at (held_system one).signs (held_system other).signs)

-- what comparing the signs up to e tells, where the kinds of the first begin
pub signs_tested : (one other : HeldFile) (e : ℕ) (r : Bool) → one.model.levels ≡ other.model.levels → e ≡ kinds_at one.model.levels
    → r ≡ not (pointwise eqb (take (e - 16) (drop 16 one.bytes.now)) (take (e - 16) (drop 16 other.bytes.now)))
    → r ≡ signs_differ one other
signs_tested one other e r same end tested =
    let d = one.model.levels in
    let first = drop 16 one.bytes.now in
    let second = drop 16 other.bytes.now in
    let count : e - 16 ≡ d = omega arith in
    let long₁ : length (take d first) ≡ d = length-take-le d first (omega (arith, length-drop 16 one.bytes.now, signs_there one.held.laid_out)) in
    let long₂ : length (take d second) ≡ d = length-take-le d second (omega (arith, length-drop 16 other.bytes.now, signs_there other.held.laid_out)) in
    tested
    ∙ ap (λ (n : ℕ). not (pointwise eqb (take n first) (take n second))) count
    ∙ compared (take d first) (take d second) (long₁ ∙ sym long₂)
    ∙ ap₂ (λ (n j : ℕ). some_below n (differ_at (take d first) (take j second))) long₁ same

-- what checking told of the two files that it handed back
pub record BothChecked (first second : List ℕ) (one other : HeldFile) : Type 0 where
  pub same₁ : one.bytes.now ≡ first
  pub same₂ : other.bytes.now ≡ second
  pub known₁ : Checked first one.model
  pub known₂ : Checked second other.model

-- a laid out file is that of a file at hand
abbrev pub LaidOf : HeldFile → LaidFile → Type 0
LaidOf held laid = (laid.bytes ≡ held.bytes) × (laid.model ≡ held.model)

laid_same : (held : HeldFile) (laid : LaidFile) → LaidOf held laid → laid_system laid ≡ held_system held
laid_same held laid of = ap₂ (λ (bytes : Bor (List ℕ)) (m : Model). system_in bytes.now m) of.0 of.1

words_fit : (held : HeldFile) (laid : LaidFile) → LaidOf held laid → WellFormed (held_system held) → AllBelow (2 ^ laid.model.lines) (laid_system laid).words
words_fit held laid of W = subst (λ (s : System). AllBelow (2 ^ s.lines) s.words) (sym (laid_same held laid of)) W.words_within

module _ (first second buffer : List ℕ) where
  abbrev room : ℕ
  room = length buffer

  join_refused : {e : Refusal} → RefusedAs (join_number first second room) e → JoinSays first second buffer (Err e) buffer
  join_refused h = record { answer = refused_answer h (made _); left = filled_refused (encode (joined_of first second)) buffer h.positive }

  -- the checks behind those of the first
  abbrev rest : List Check
  rest = file_checks second ++ both_checks (decode first) (decode second) room

  pub first_refused : {e : Refusal} → RefusedAs (file_number first) e → JoinSays first second buffer (Err e) buffer
  unfolding join_number file_number
  first_refused h = join_refused (refused_before (file_checks first) rest h)

  after_first : file_number first ≡ 0 → join_number first second room ≡ first_of rest
  unfolding join_number
  after_first = after_file first rest

  pub second_refused : {e : Refusal} → file_number first ≡ 0 → RefusedAs (file_number second) e → JoinSays first second buffer (Err e) buffer
  unfolding file_number
  second_refused {e} right h =
      join_refused (subst (λ (n : ℕ). RefusedAs n e) (sym (after_first right)) (refused_before (file_checks second) (both_checks (decode first) (decode second) room) h))

  -- Both files are accepted.
  module _ {one other : HeldFile} (known : BothChecked first second one other) where
    abbrev s₁ : System
    s₁ = held_system one

    abbrev s₂ : System
    s₂ = held_system other

    system₁ : s₁ ≡ decode first
    system₁ = held_decoded one known.same₁ known.known₁

    system₂ : s₂ ≡ decode second
    system₂ = held_decoded other known.same₂ known.known₂

    number_is : join_number first second room ≡ first_of (both_checks s₁ s₂ room)
    number_is =
        after_first known.known₁.counts.number ∙ after_file second (both_checks (decode first) (decode second) room) known.known₂.counts.number
        ∙ ap₂ (λ (a b : System). first_of (both_checks a b room)) (sym system₁) (sym system₂)

    both_refused : (e : Refusal) → first_of (both_checks s₁ s₂ room) ≡ number_of e → JoinSays first second buffer (Err e) buffer
    both_refused e h = join_refused (refused_by e (number_is ∙ h))

    pub levels_differ : (one.model.levels ≡ other.model.levels → ⊥) → JoinSays first second buffer (Err LevelsDiffer) buffer
    levels_differ h = both_refused LevelsDiffer (rw (ne_eqb one.model.levels other.model.levels h))

    -- their levels are the same
    module _ (same : one.model.levels ≡ other.model.levels) where
      abbrev n : ℕ
      n = one.model.lines + other.model.lines

      pub signs_differ_lem : signs_differ one other ≡ true → JoinSays first second buffer (Err LevelsDiffer) buffer
      signs_differ_lem h = both_refused LevelsDiffer (rw (eq-eqb one.model.levels other.model.levels same, h))

      -- and their signs
      module _ (alike : signs_differ one other ≡ false) where
        pub too_many : 64 < n → JoinSays first second buffer (Err Lines) buffer
        too_many h = both_refused Lines (rw (eq-eqb one.model.levels other.model.levels same, alike, lt-ltb 64 n h))

        -- and they have at most 64 lines
        module _ (few : n ≤ 64) where
          abbrev size : ℕ
          size = file_length n one.model.levels

          pub no_room : room < size → JoinSays first second buffer (Err Room) buffer
          no_room h = both_refused Room (rw (eq-eqb one.model.levels other.model.levels same, alike, le-ltb 64 n few, lt-ltb room size h))

          -- so the two are at hand, and their joined system has as many entries as its counts say
          formed₁ : WellFormed s₁
          formed₁ = subst WellFormed (sym system₁) (formed first known.known₁.accepted)

          formed₂ : WellFormed s₂
          formed₂ = subst WellFormed (sym system₂) (formed second known.known₂.accepted)

          sliced : Sliced (joined s₁ s₂)
          sliced = (joined_formed s₁ s₂ formed₁ formed₂ (joinable formed₁ formed₂ same alike few)).sliced

          module _ (laid₁ laid₂ : LaidFile) (of₁ : LaidOf one laid₁) (of₂ : LaidOf other laid₂) where
            pub at_hand : LaidAtHand laid₁ laid₂
            at_hand =
                record {
                  first_laid = laid₁.laid_out;
                  second_laid = laid₂.laid_out;
                  first_words = words_fit one laid₁ of₁ formed₁;
                  second_words = words_fit other laid₂ of₂ formed₂;
                  same_levels = rw (of₁.1, of₂.1) (sym same);
                  some_line = rw (of₂.1, known.known₂.counts.lines) known.known₂.accepted.header.lines_least;
                  few_lines = rw (of₁.1, of₂.1) few;
                }

            pub join_made : {buffer' : List ℕ} {bytes : ℕ} → bytes ≡ size → size ≤ room
                → buffer' ≡ encode (joined_laid laid₁ laid₂) ++ drop (file_length (joined_laid laid₁ laid₂).lines (joined_laid laid₁ laid₂).levels) buffer
                → JoinSays first second buffer (Ok bytes) buffer'
            join_made count h wrote =
                let both = joined s₁ s₂ in
                let none : join_number first second room ≡ 0 =
                number_is ∙ rw (eq-eqb one.model.levels other.model.levels same, alike, le-ltb 64 n few, le-ltb room size h) in
                let whole : both ≡ joined_of first second = ap₂ joined system₁ system₂ in
                let long : length (encode both) ≡ size = encode_length both sliced in
                record {
                  answer =
                      ap made (count ∙ ap (λ (s : System). file_length s.lines s.levels) whole)
                      ∙ sym (ap (λ (x : ℕ). unless x (made (file_length (joined_of first second).lines (joined_of first second).levels))) none);
                  left =
                      wrote ∙ ap (λ (s : System). encode s ++ drop (file_length s.lines s.levels) buffer) (ap₂ joined (laid_same one laid₁ of₁) (laid_same other laid₂ of₂))
                      ∙ ap (λ (j : ℕ). encode both ++ drop j buffer) (sym long)
                      ∙ ap₂ (λ (x : ℕ) (s : System). filled x (encode s) buffer) (sym none) whole;
                }
