-- The number of members: 0 of the empty set, n of all n lines and more of a larger set.
-- Assumes nothing.
use mathlib.Core.Path.{◌≡◌, sym, ap, ◌∙◌}
use Prim.Native.Nat.{ℕ, ◌/◌, ◌≤◌, ◌<◌}
use native.Mathlib.Nat.{le_of_eq}
use native.Mathlib.Omega.{arith}
use lib.Arith.{bin_ind, lt_of_le-ne}
use lib.Bits.{and_step, and_zero_r}
use lib.Count.{ones_step, ones-ones}
use Rattle.sets.specs.Set.{full, members}
use Rattle.sets.proofs.Order.{◌⊑◌, empty_least}

pub members_empty : members 0 ≡ 0
members_empty = ones-ones 0

pub members_full : (n : ℕ) → members (full n) ≡ n
members_full = ones-ones

-- a set within b has no more members, and as many only if it is b; by induction on b's digits, lowest first
abbrev Counted : ℕ → Type 0
Counted b = (a : ℕ) → a ⊑ b → (members a ≤ members b) × (members a ≡ members b → a ≡ b)

counted_step : (b : ℕ) → Counted (b / 2) → Counted b
counted_step b ih a h =
    let split = and_step a b in
    let count-a = ones_step a in
    let count-b = ones_step b in
    let halves = ih (a / 2) (omega arith) in
    (omega arith, λ e. let same = halves.1 (omega arith) in omega arith)

counted : (b : ℕ) → Counted b
counted = bin_ind Counted (λ a h. let e : a ≡ 0 = sym h ∙ and_zero_r a in (le_of_eq (ap members e), λ _. e)) counted_step

pub members_most : (a b : ℕ) → a ⊑ b → members a ≤ members b
members_most a b h = (counted b a h).0

pub members_strict : (a b : ℕ) → a ⊑ b → (a ≡ b → ⊥) → members a < members b
members_strict a b h ne = lt_of_le-ne (members_most a b h) (λ e. ne ((counted b a h).1 e))

-- one at least where there is a member
pub members_some : (x : ℕ) → (x ≡ 0 → ⊥) → 1 ≤ members x
members_some x ne = omega (arith, members_strict 0 x (empty_least x) (λ e. ne (sym e)), members_empty)
