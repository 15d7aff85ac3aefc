-- The value of a line at its place in a file, and some lines' values as a set.
-- Assumes nothing.
use mathlib.Core.Bool.{Bool, true, false, ◌&&◌}
use mathlib.Core.List.{List}
use mathlib.Core.Path.{◌≡◌, refl, sym, ◌∙◌, ap, ap₂}
use Prim.Native.Nat.{ℕ, ◌+◌, ◌-◌, ◌*◌, ◌^◌, ◌≤◌, ◌<◌}
use native.Mathlib.Omega.{arith}
use borrow.Author.Tests.{lt-ltb}
use lib.Dec.{ltb}
use lib.ListN.{length, get_or, take, drop}
use Rattle.std.proofs.lemmas.List.{take_rest, length-drop, length-take-le}
use Rattle.sets.specs.Set.{is_member, intersection}
use Rattle.sets.proofs.Membership.{member_meet, same_members}
use Rattle.sets.proofs.Range.{member_below}
use Rattle.system.specs.Query.{value_of, line_value, operands, words_of, set_of}
use Rattle.system.proofs.LineSets.{member_set}
use Rattle.numbers.specs.Numbers.{words_from}
use Rattle.model.specs.File.{words_in}
use Rattle.model.specs.Held.{system_in}
use Rattle.model.specs.declared.layout.Model.{Model}
use Rattle.model.proofs.Lines.{words_of_lem}

-- the value of line i at the arguments in front of xs
abbrev pub value_at : List ℕ → Model → List ℕ → ℕ → Bool
value_at file m xs i = line_value (system_in file m) i (operands (words_of (system_in file m) i) (take m.levels xs))

-- a line's words and the arguments of all levels, as parts: there is a word for each argument
pub parts_fit : (file xs : List ℕ) (d at : ℕ) → d ≤ length xs → at + 8 * d ≤ length file → 8 * length (take d xs) ≤ length (take (length file - at) (drop at file))
parts_fit file xs d at h room = rw (take_rest file at) (omega (arith, length-take-le d xs h, length-drop at file))

-- it is that of the kind, the threshold and the words at the line's places
pub value_at_lem : (file : List ℕ) (m : Model) (xs : List ℕ) (i k t at : ℕ) → i < m.lines → k ≡ get_or (system_in file m).kinds i 0 → t ≡ get_or (system_in file m).thresholds i 0
    → at ≡ words_in file + 8 * (i * m.levels) → value_of k t (operands (words_from m.levels (drop at file)) (take m.levels xs)) ≡ value_at file m xs i
value_at_lem file m xs i k t at inside ek et ea =
    ap₂ (λ (k t : ℕ). value_of k t (operands (words_from m.levels (drop at file)) (take m.levels xs))) ek et
    ∙ ap (λ (ws : List ℕ). line_value (system_in file m) i (operands ws (take m.levels xs)))
    (ap (λ (at : ℕ). words_from m.levels (drop at file)) ea ∙ sym (words_of_lem m.lines m.levels file i inside))

-- and so with those words as a part of the file, one for each of the arguments
pub value_at_words : (file : List ℕ) (m : Model) (xs : List ℕ) (i k t at : ℕ) → i < m.lines → m.levels ≤ length xs
    → k ≡ get_or (system_in file m).kinds i 0 → t ≡ get_or (system_in file m).thresholds i 0 → at ≡ words_in file + 8 * (i * m.levels)
    → value_of k t (operands (words_from (length (take m.levels xs)) (take (length file - at) (drop at file))) (take m.levels xs)) ≡ value_at file m xs i
value_at_words file m xs i k t at inside enough ek et ea = rw (take_rest file at, length-take-le m.levels xs enough) (value_at_lem file m xs i k t at inside ek et ea)

-- those of some of n lines of which p holds
pub found_lines : (n lines found : ℕ) (p : ℕ → Bool) → lines < 2 ^ n → ((i : ℕ) → is_member found i ≡ (is_member lines i && p i)) → found ≡ intersection lines (set_of n p)
found_lines n lines found p few is =
    same_members found (intersection lines (set_of n p)) (λ i. is i ∙ sym (member_meet lines (set_of n p) i ∙ ap (λ (b : Bool). is_member lines i && b) (member_set n p i) ∙ one i (is_member lines i) refl))
  where
    one : (i : ℕ) (t : Bool) → is_member lines i ≡ t → (t && (ltb i n && p i)) ≡ (t && p i)
    one i true e = rw (lt-ltb i n (member_below n lines i few e))
    one i false e = refl
