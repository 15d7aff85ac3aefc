-- A line's operands level by level: what the words and arguments from level k + 1 on select, and how one level more is taken off.
-- Assumes nothing.
use mathlib.Core.Bool.{Bool, not, ◌&&◌, ◌||◌}
use mathlib.Core.List.{List, [], ◌++◌}
use mathlib.Core.Path.{◌≡◌, refl, ◌∙◌, ap}
use Prim.Native.Nat.{ℕ, zero, suc, ◌+◌, ◌-◌, ◌*◌, ◌^◌, ◌≤◌, ◌<◌}
use native.Mathlib.Nat.{sub-zero}
use native.Mathlib.Numerals.{add-one}
use native.Mathlib.Omega.{arith}
use lib.Dec.{eqb, leb}
use lib.ListN.{length, get_or, drop}
use lib.Seq.{drop-drop, drop-cons}
use Rattle.sets.specs.Set.{intersection, is_within, members}
use Rattle.system.specs.Query.{any, all, count_set, value_of, selected, operands}
use Rattle.numbers.specs.Numbers.{number_at, words_from}
use Rattle.system.proofs.Masks.{any_append, all_append, count_append, any_selected, all_selected, count_selected}

module _ (words xs : List ℕ) where
  -- the operands that the words select, one for each argument, and those from level k + 1 on
  abbrev pub whole : List Bool
  whole = operands (words_from (length xs) words) xs

  unfoldable pub from : ℕ → List Bool
  from k = operands (words_from (length xs - k) (drop (8 * k) words)) (drop k xs)

  pub from_start : from 0 ≡ whole
  unfolding from
  from_start = rw (sub-zero (length xs))

  pub from_end : (k : ℕ) → length xs ≤ k → from k ≡ []
  unfolding from words_from operands
  from_end k h = let none : length xs - k ≡ 0 = omega arith in rw none

  pub from_step : (k : ℕ) → k < length xs → from k ≡ selected 64 (number_at words (8 * k) 8) (get_or xs k 0) ++ from (k + 1)
  unfolding from words_from operands
  from_step k l =
      let more : length xs - k ≡ suc (length xs - (k + 1)) = omega arith in
      let further : 8 * k + 8 ≡ 8 * (k + 1) = omega arith in
      rw (more, drop-cons xs k 0 l, drop-drop 8 (8 * k) words, further, ← add-one k)

  module _ (k : ℕ) (l : k < length xs) (w : ℕ) (e : w ≡ number_at words (8 * k) 8) (lw : w < 2 ^ 64) (lx : get_or xs k 0 < 2 ^ 64) where
    pub any_step : any (from k) ≡ (not (eqb (intersection w (get_or xs k 0)) 0) || any (from (k + 1)))
    any_step =
        ap any (from_step k l) ∙ any_append (selected 64 (number_at words (8 * k) 8) (get_or xs k 0)) (from (k + 1))
        ∙ rw (← e, any_selected w (get_or xs k 0) lw lx)

    pub all_step : all (from k) ≡ (is_within w (get_or xs k 0) && all (from (k + 1)))
    all_step =
        ap all (from_step k l) ∙ all_append (selected 64 (number_at words (8 * k) 8) (get_or xs k 0)) (from (k + 1))
        ∙ rw (← e, all_selected w (get_or xs k 0) lw lx)

    pub count_step : count_set (from k) ≡ members (intersection w (get_or xs k 0)) + count_set (from (k + 1))
    count_step =
        ap count_set (from_step k l) ∙ count_append (selected 64 (number_at words (8 * k) 8) (get_or xs k 0)) (from (k + 1))
        ∙ rw (← e, count_selected w (get_or xs k 0) lw lx)

-- a line's value by its kind
pub value_any : (kind t : ℕ) (bits : List Bool) → kind ≡ 0 → value_of kind t bits ≡ any bits
value_any kind t bits e = rw e

pub value_all : (kind t : ℕ) (bits : List Bool) → kind ≡ 1 → value_of kind t bits ≡ all bits
value_all kind t bits e = rw e

pub value_vote : (kind t : ℕ) (bits : List Bool) → (kind ≡ 0 → ⊥) → (kind ≡ 1 → ⊥) → value_of kind t bits ≡ leb t (count_set bits)
value_vote zero t bits n m = absurd (n refl)
value_vote (suc zero) t bits n m = absurd (m refl)
value_vote (suc (suc k)) t bits n m = refl
