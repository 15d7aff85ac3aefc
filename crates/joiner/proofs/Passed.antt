-- Two files that joining accepts: each is right, their systems can be joined, and there is room for the joined file. So what is made fits the buffer.
-- Assumes nothing.
use mathlib.Core.Bool.{false, not}
use mathlib.Core.List.{List, ◌++◌}
use mathlib.Core.Path.{◌≡◌, refl, sym, ◌∙◌, ap}
use Prim.Native.Nat.{ℕ, ◌≤◌}
use native.Mathlib.Nat.{le_refl}
use borrow.Author.Tests.{ltb-false, eq-eqb}
use lib.Dec.{eqb}
use lib.ListN.{length, get_or}
use Rattle.std.proofs.Math.Bool.{not-not}
use Rattle.std.specs.Cmp.Lexicographic.{pointwise}
use Rattle.std.proofs.lemmas.Bool.{not-true}
use Rattle.std.proofs.lemmas.Bool.Decides.{same_from_decides, Decides-eqb}
use Rattle.std.proofs.lemmas.Slice.Eq.{slice_eq-Decides}
use Rattle.std.proofs.lemmas.Grind.{same_number_lists}
use Rattle.std.specs.Prelude.{Result, Ok}
use Rattle.answers.specs.Answer.{Answer}
use Rattle.answers.specs.declared.Refusal.{Refusal}
use Rattle.answers.specs.Check.{Check, unless}
use Rattle.answers.proofs.Checks.{passes_both, passes_none, none_first, same}
use Rattle.system.specs.System.{System, WellFormed}
use Rattle.system.specs.Joined.{joined, Joinable}
use Rattle.model.specs.File.{file_length, decode}
use Rattle.model.specs.Checks.{some_below}
use Rattle.model.specs.Says.{made}
use Rattle.model.proofs.Searches.{false_below, below_false}
use Rattle.model.proofs.Refusals.{none_of}
use Rattle.checker.specs.Checks.{file_checks, file_number}
use Rattle.checker.proofs.Accepted.{accepted, formed}
use Rattle.writer.specs.Says.{written_answer}
use Rattle.joiner.specs.Says.{differ_at, level_checks, size_checks, joined_of, join_checks, join_number, join_answer, JoinSays}

-- the checks of two systems together, in a buffer of `room` bytes
abbrev pub both_checks : System → System → ℕ → List Check
both_checks m₁ m₂ room = level_checks m₁ m₂ ++ size_checks (joined m₁ m₂) room

-- two lists of one length, where they differ at no place
same_lists : (xs ys : List ℕ) → length xs ≡ length ys → some_below (length xs) (differ_at xs ys) ≡ false → xs ≡ ys
same_lists xs ys long alike = same_number_lists xs ys long (λ i l. same (false_below (differ_at xs ys) (length xs) alike i l))

-- comparing them tells whether they differ at some place
pub compared : (xs ys : List ℕ) → length xs ≡ length ys → not (pointwise eqb xs ys) ≡ some_below (length xs) (differ_at xs ys)
compared xs ys long =
    let test = pointwise eqb xs ys in
    let found = some_below (length xs) (differ_at xs ys) in
    let nowhere : xs ≡ ys → found ≡ false =
    λ e. below_false (differ_at xs ys) (length xs) (le_refl (length xs)) (λ i l. ap not (eq-eqb _ _ (ap (λ (zs : List ℕ). get_or zs i 0) e))) in
    ap not
    (same_from_decides test (not found) (slice_eq-Decides Decides-eqb xs ys test refl)
    (λ h. same_lists xs ys long (not-true found h), λ e. ap not (nowhere e)))
    ∙ not-not found

module _ {m₁ m₂ : System} (W₁ : WellFormed m₁) (W₂ : WellFormed m₂) where
  -- where no sign differs, the signs are the same
  pub joinable : m₁.levels ≡ m₂.levels → some_below m₁.levels (differ_at m₁.signs m₂.signs) ≡ false → (joined m₁ m₂).lines ≤ 64 → Joinable m₁ m₂
  joinable levels alike few =
      let long = W₁.sliced.signs_long in
      record {
        same_levels = levels;
        same_signs = same_lists m₁.signs m₂.signs (long ∙ levels ∙ sym W₂.sliced.signs_long) (rw long alike);
        few_lines = few;
      }

pub record JoinPasses (first second : List ℕ) (room : ℕ) : Type 0 where
  pub first_right : file_number first ≡ 0
  pub second_right : file_number second ≡ 0
  pub can_join : Joinable (decode first) (decode second)
  pub enough : file_length (joined_of first second).lines (joined_of first second).levels ≤ room

pub join_passes : (first second : List ℕ) (room : ℕ) → join_number first second room ≡ 0 → JoinPasses first second room
unfolding join_number file_number
join_passes first second room none =
    let m₁ = decode first in
    let m₂ = decode second in
    let all = passes_both (file_checks first) (file_checks second ++ both_checks m₁ m₂ room) (none_first (join_checks first second room) refl none) in
    let behind = passes_both (file_checks second) (both_checks m₁ m₂ room) all.1 in
    let right₁ = passes_none (file_checks first) all.0 in
    let right₂ = passes_none (file_checks second) behind.0 in
    let both = behind.1 in
    record {
      first_right = right₁;
      second_right = right₂;
      can_join = joinable (formed first (accepted first right₁)) (formed second (accepted second right₂)) (same both.0) both.1.0 (ltb-false 64 _ both.1.1.0);
      enough = ltb-false room _ both.1.1.1.0;
    }

-- what is made is no longer than the buffer
pub made_fits : {first second buffer buffer' : List ℕ} {r : Result ℕ Refusal} {bytes : ℕ} → JoinSays first second buffer r buffer' → r ≡ Ok bytes → bytes ≤ length buffer
made_fits {first} {second} {buffer} {bytes = bytes} says is =
    let size = file_length (joined_of first second).lines (joined_of first second).levels in
    let answer : made bytes ≡ join_answer first second (length buffer) = ap written_answer (sym is) ∙ says.answer in
    let none : join_number first second (length buffer) ≡ 0 = none_of _ _ _ answer refl refl in
    let long : bytes ≡ size = ap (λ (a : Answer). a.length) (answer ∙ ap (λ (e : ℕ). unless e (made size)) none) in
    rw long (join_passes first second (length buffer) none).enough
