-- A table that follows document 01's recurrence for the leaf counts, from height 2 on, holds L(n, h) at (h - 2) * 65 + n.
-- Assumes nothing.
use mathlib.Core.Bool.{Bool}
use mathlib.Core.List.{List}
use mathlib.Core.Path.{◌≡◌, sym, ◌∙◌}
use Prim.Native.Nat.{ℕ, zero, suc, ◌+◌, ◌*◌, ◌/◌, ◌%◌, ◌≤◌, ◌<◌}
use native.Mathlib.Omega.{arith}
use lib.Dec.{T, eqb, eqb→eq}
use lib.ListN.{length, get_or}
use Rattle.trees.specs.Built.{leaf_count}
use Rattle.trees.proofs.Halves.{by_halves}
use Rattle.trees.proofs.Built.{leaf_none, leaf_one, leaf_step}
use Rattle.trees.proofs.Every.{every, at}

-- the table's number for L(n, h + 2)
abbrev pub entry : List ℕ → ℕ → ℕ → ℕ
entry table n h = get_or table (h * 65 + n) 0

-- L(n, h + 1) by the table; it has no numbers for height 1, where it is n
abbrev entry_below : List ℕ → ℕ → ℕ → ℕ
entry_below table n zero = n
entry_below table n (suc h) = entry table n h

-- what the recurrence asks for L(n, h + 2), of the table's other numbers
abbrev recurrence : List ℕ → ℕ → ℕ → ℕ
recurrence table zero h = 0
recurrence table (suc n) h = entry table (suc n / 2) h + entry_below table (suc n) h + entry table (n / 2) h

-- the number x at k is what the recurrence asks
abbrev pub follows : List ℕ → ℕ → ℕ → Bool
follows table k x = eqb x (recurrence table (k % 65) (k / 65))

-- the place of L(n, h + 2) tells n and h
place_n : (n h : ℕ) → n ≤ 64 → (h * 65 + n) % 65 ≡ n
place_n n h p = omega arith

place_h : (n h : ℕ) → n ≤ 64 → (h * 65 + n) / 65 ≡ h
place_h n h p = omega arith

-- the table's number for L(n, h + 2) is right, where it has one
abbrev Right : List ℕ → ℕ → ℕ → Type 0
Right table h n = n ≤ 64 → h * 65 + n < length table → entry table n h ≡ leaf_count n (suc (suc h))

module _ (table : List ℕ) (passed : T (every (follows table) 0 table)) where
  entry_recurrence : (n h : ℕ) → n ≤ 64 → h * 65 + n < length table → entry table n h ≡ recurrence table n h
  entry_recurrence n h p q =
      eqb→eq _ _ (rw (place_n n h p, place_h n h p) at (at (follows table) table passed (h * 65 + n) q))

  -- the numbers for one height, over those for the height below
  by_height : (h : ℕ) → ((n : ℕ) → n ≤ 64 → h * 65 + n < length table → entry_below table n h ≡ leaf_count n (suc h)) → (n : ℕ) → Right table h n
  by_height h below =
      by_halves (Right table h) (λ p q. entry_recurrence 0 h p q ∙ sym (leaf_none (suc (suc h))))
      (λ n first last p q.
      entry_recurrence (suc n) h p q
      ∙ rw (first (omega arith) (omega arith), below (suc n) p q, last (omega arith) (omega arith)) (sym (leaf_step n (suc h))))

  pub entry_count : (h n : ℕ) → Right table h n
  entry_count zero = by_height 0 (λ n p q. sym (leaf_one n))
  entry_count (suc h) = by_height (suc h) (λ n p q. entry_count h n p (omega arith))
