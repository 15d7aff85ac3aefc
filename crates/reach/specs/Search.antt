-- The set of the positions that can be met, found by rounds: each adds to a set all successors of its members that are allowed.
-- Assumes nothing.
use Rattle.std.specs.Prelude.{cond, ℕ, zero, suc}
use Rattle.sets.specs.Set.{is_member, union, intersection}

-- the successors of those of the first n positions that are in the set x; `next p` is the set of the successors of p
unfoldable pub successors : (ℕ → ℕ) → ℕ → ℕ → ℕ
successors next zero x = 0
successors next (suc n) x = union (successors next n x) (cond (is_member x n) (next n) 0)

-- one round over n positions: x, and the successors of its members that are allowed
abbrev pub one_round : ℕ → (ℕ → ℕ) → ℕ → ℕ → ℕ
one_round n next allowed x = union x (intersection (successors next n x) allowed)

-- m rounds from x
unfoldable pub rounds : ℕ → (ℕ → ℕ) → ℕ → ℕ → ℕ → ℕ
rounds n next allowed zero x = x
rounds n next allowed (suc m) x = rounds n next allowed m (one_round n next allowed x)

-- The set that is met from the set x: n rounds over n positions. `reached_is` in proofs/Search says that these are just the positions that can be met.
abbrev pub reached : ℕ → (ℕ → ℕ) → ℕ → ℕ → ℕ
reached n next allowed x = rounds n next allowed n x
