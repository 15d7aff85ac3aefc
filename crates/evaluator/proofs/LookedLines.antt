-- The line that a loop over lines looks at: the lowest of the rest. Its word for a level is there, and what a mask of that word finds.
-- Assumes nothing.
use mathlib.Core.Bool.{Bool, true, false, not}
use mathlib.Core.List.{List}
use mathlib.Core.Path.{◌≡◌, refl, sym, ◌∙◌, ap}
use Prim.Native.Nat.{ℕ, ◌+◌, ◌*◌, ◌^◌, ◌≤◌, ◌<◌}
use native.Mathlib.Omega.{arith}
use native.Mathlib.Nat.{mul_comm, mul_assoc}
use lib.Count.{count_trailing_zeros}
use lib.Dec.{eqb}
use lib.ListN.{length, get_or}
use Rattle.sets.specs.Set.{is_member, intersection, members}
use Rattle.sets.proofs.Range.{member_below}
use Rattle.sets.proofs.Membership.{Lowest}
use Rattle.sets.proofs.PassedLines.{lowest_line}
use Rattle.numbers.specs.Numbers.{number_at}
use Rattle.system.specs.Query.{any, count_set, selected, words_of}
use Rattle.model.specs.File.{words_in}
use Rattle.model.specs.Held.{LaidOut, system_in}
use Rattle.model.specs.declared.layout.Model.{Model}
use Rattle.model.proofs.Places.{word_place}
use Rattle.model.proofs.Sizes.{line_fits}
use Rattle.system.proofs.Masks.{any_selected, count_selected}

-- the bits, in the argument x, that the word at the place of line i selects
abbrev pub masked : List ℕ → ℕ → ℕ → ℕ → ℕ → List Bool
masked file at line x i = selected 64 (number_at file (at + line * i) 8) x

-- what a mask of that word finds
module _ (file : List ℕ) (at line x i w : ℕ) (e : w ≡ number_at file (at + line * i) 8) (lw : w < 2 ^ 64) (lx : x < 2 ^ 64) where
  pub any_masked : any (masked file at line x i) ≡ not (eqb (intersection w x) 0)
  any_masked = ap (λ (y : ℕ). any (selected 64 y x)) (sym e) ∙ any_selected w x lw lx

  pub count_masked : count_set (masked file at line x i) ≡ members (intersection w x)
  count_masked = ap (λ (y : ℕ). count_set (selected 64 y x)) (sym e) ∙ count_selected w x lw lx

-- the lowest of the rest is one of n lines, and there is room for the eight bytes of its word
pub record Looked (bytes n at line rest t : ℕ) : Type 0 where
  pub low : Lowest 64 rest t
  pub one : t < n
  pub room : at + line * t + 8 ≤ bytes

module _ {file : List ℕ} {m : Model} (laid : LaidOut file m) {k : ℕ} (l : k < m.levels) {at line : ℕ} (ea : at ≡ words_in file + 8 * k) (el : line ≡ 8 * m.levels) where
  pub looked : {lines : ℕ} → lines < 2 ^ m.lines → (rest : ℕ) → rest ≤ lines → (rest ≡ 0 → ⊥) → Looked (length file) m.lines at line rest (count_trailing_zeros 64 rest)
  looked few rest some ne =
      let t = count_trailing_zeros 64 rest in
      let lowest = lowest_line laid.few_lines few rest some ne in
      let begin : 8 * m.levels * t ≡ 8 * (t * m.levels) = mul_assoc 8 m.levels t ∙ ap (λ (y : ℕ). 8 * y) (mul_comm m.levels t) in
      record { low = lowest.low; one = lowest.one; room = omega (arith, laid.whole, line_fits m.levels lowest.one, ap (λ (y : ℕ). y * t) el) }

  -- the bits that the word of one of some lines selects
  same_bits : {lines : ℕ} → lines < 2 ^ m.lines → (x i : ℕ) → is_member lines i ≡ true → masked file at line x i ≡ selected 64 (get_or (words_of (system_in file m) i) k 0) x
  same_bits {lines} few x i e = ap (λ (w : ℕ). selected 64 w x) (word_place m.lines m.levels file i k at line (member_below m.lines lines i few e) l ea el)

  -- so what is asked of them is the same, where it is nothing of any other line
  pub in_lines : {A : Type 0} {lines : ℕ} → lines < 2 ^ m.lines → (x i : ℕ) (f : Bool → List Bool → A) → ((bs cs : List Bool) → f false bs ≡ f false cs)
      → f (is_member lines i) (masked file at line x i) ≡ f (is_member lines i) (selected 64 (get_or (words_of (system_in file m) i) k 0) x)
  in_lines {A} {lines} few x i f none = go (is_member lines i) refl
    where
      go : (t : Bool) → is_member lines i ≡ t → f t (masked file at line x i) ≡ f t (selected 64 (get_or (words_of (system_in file m) i) k 0) x)
      go true e = ap (f true) (same_bits few x i e)
      go false e = none _ _
