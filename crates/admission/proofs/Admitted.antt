-- What it means that a file and its bounds are admitted: the file is whole, the bounds are a range of its lines, and no number up to 9 applies.
-- From no line to all lines, 9 never applies. 10 is no number of theirs.
-- Assumes nothing.
use mathlib.Core.Bool.{Bool, false, not, ◌||◌}
use mathlib.Mathlib.Data.Bool.Basic.{or-eq-false-eq-eq-false-and-eq-false as neither}
use mathlib.Core.List.{List, [], ◌∷◌, ◌++◌}
use mathlib.Core.Path.{◌≡◌, refl, sym, ap₂, subst}
use Prim.Native.Nat.{ℕ, ◌≤◌}
use native.Mathlib.Omega.{arith}
use borrow.Author.Tests.{not-false}
use Rattle.answers.specs.Check.{Check, ◌if◌, first_of, unless}
use Rattle.answers.specs.Answer.{refusal, number_of}
use Rattle.answers.specs.declared.Refusal.{Refusal}
use Rattle.answers.proofs.Checks.{Passes, passes_both, passes_none, none_first, first_other, after_none, before_passes}
use Rattle.sets.specs.Set.{full, is_within}
use Rattle.sets.proofs.Order.{refl⊑, empty_least, within_le, le_within}
use Rattle.sets.proofs.Range.{full_below}
use Rattle.fixpoint.specs.Lawful.{Range}
use Rattle.fixpoint.specs.Sets.{sets}
use Rattle.fixpoint.proofs.Sets.{sets_range}
use Rattle.system.specs.System.{System}
use Rattle.model.specs.File.{lines_in, levels_in, decode}
use Rattle.checker.specs.Checks.{file_checks, file_number, InUse}
use Rattle.model.specs.Says.{sized}
use Rattle.model.specs.declared.layout.Model.{Model}
use Rattle.model.proofs.Refusals.{AcceptedAs, RefusedAs, accepted_as, refused_as}
use Rattle.checker.proofs.Accepted.{accepted, decoded, held}
use Rattle.model.specs.Held.{Held, system_in}
use Rattle.admission.specs.Checks.{misplaced, bound_checks, bound_number}

pub record Admitted (file : List ℕ) (a b : ℕ) (m : Model) : Type 0 where
  pub number : bound_number file a b ≡ 0
  pub counts : AcceptedAs (bound_number file a b) (lines_in file) (levels_in file) m
  pub in_use : InUse file m.lines m.levels
  pub held : Held file m
  pub system : system_in file m ≡ decode file
  pub some_line : 1 ≤ (decode file).lines
  pub range : Range (sets (decode file).lines) a b

-- bounds that are not misplaced are a range
in_range : (n a b : ℕ) → misplaced n a b ≡ false → Range (sets n) a b
in_range n a b h =
    let first = (neither (not (is_within a (full n))) (not (is_within b (full n)) || not (is_within a b))).0 h in
    let rest = (neither (not (is_within b (full n))) (not (is_within a b))).0 first.1 in
    sets_range n a b (within_le a b (not-false (is_within a b) rest.1)) (full_below n b (within_le b (full n) (not-false (is_within b (full n)) rest.0)))

-- the bounds are a range of as many lines as the counts say
pub counted_range : {file : List ℕ} {a b : ℕ} {m : Model} → Admitted file a b m → Range (sets m.lines) a b
counted_range {file} {a} {b} {m} ad = subst (λ (s : System). Range (sets s.lines) a b) (sym ad.system) ad.range

module _ (file : List ℕ) (a b : ℕ) where
  -- no check up to 9 applies
  passes : bound_number file a b ≡ 0 → Passes (bound_checks file a b)
  unfolding bound_number
  passes h = none_first (bound_checks file a b) refl h

  -- so the file is accepted
  pub file_passed : bound_number file a b ≡ 0 → file_number file ≡ 0
  unfolding file_number
  file_passed h = passes_none (file_checks file) (passes_both (file_checks file) (9 if misplaced (lines_in file) a b ∷ []) (passes h)).0

  -- what `admit`'s two answers say; in an arm the clause is the fact that is asked for
  pub admitted : {m : Model} → sized m.lines m.levels ≡ unless (bound_number file a b) (sized (lines_in file) (levels_in file)) → Admitted file a b m
  unfolding file_number decode
  admitted says =
      let counts = accepted_as (bound_number file a b) (lines_in file) (levels_in file) says in
      let both = passes_both (file_checks file) (9 if misplaced (lines_in file) a b ∷ []) (passes counts.number) in
      let none : file_number file ≡ 0 = file_passed counts.number in
      let whole = accepted file none in
      record {
        number = counts.number;
        counts = counts;
        in_use = rw none (sym (ap₂ sized counts.lines counts.levels));
        held = held whole counts;
        system = decoded file counts;
        some_line = whole.header.lines_least;
        range = in_range (lines_in file) a b both.1.0;
      }

  pub turned_down : {e : Refusal} → refusal (number_of e) ≡ unless (bound_number file a b) (sized (lines_in file) (levels_in file)) → RefusedAs (bound_number file a b) e
  turned_down says = refused_as (bound_number file a b) (lines_in file) (levels_in file) says

  -- 10 is left to the ceilings
  pub never_ten : bound_number file a b ≡ 10 → ⊥
  unfolding bound_number
  never_ten = first_other 10 (bound_checks file a b) refl (omega arith)

  -- the number of an operation that makes more checks behind these
  pub after_bounds : (more : List Check) → bound_number file a b ≡ 0 → first_of (bound_checks file a b ++ more) ≡ first_of more
  unfolding bound_number
  after_bounds more = after_none (bound_checks file a b) more refl

-- no line and all lines are bounds of n lines
well_placed : (n : ℕ) → misplaced n 0 (full n) ≡ false
well_placed n = ap₂ (λ (s t : Bool). not s || (not t || not s)) (le_within 0 (full n) (empty_least (full n))) (le_within (full n) (full n) (refl⊑ (full n)))

-- so what is turned down between them is the file
pub never_misplaced : (file : List ℕ) → bound_number file 0 (full (lines_in file)) ≡ file_number file
unfolding bound_number file_number
never_misplaced file = before_passes (file_checks file) (9 if misplaced (lines_in file) 0 (full (lines_in file)) ∷ []) (well_placed (lines_in file), tt)
