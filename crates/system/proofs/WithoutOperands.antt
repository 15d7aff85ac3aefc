-- A line without operands (request W2): whatever the arguments, a query's set does not have it if its kind is any, and has it if its kind is all.
-- Assumes nothing.
use mathlib.Core.Bool.{true, false}
use mathlib.Core.List.{List, [], ◌∷◌}
use mathlib.Core.Path.{◌≡◌, refl, ◌∙◌, ap}
use Prim.Native.Nat.{ℕ, zero, suc, ◌<◌}
use borrow.Author.Tests.{lt-ltb}
use lib.ListN.{get_or}
use Rattle.sets.specs.Set.{is_member}
use Rattle.sets.proofs.Membership.{member_empty}
use Rattle.system.specs.System.{System}
use Rattle.system.specs.Query.{value_of, selected, operands, words_of, line_value, WithoutOperands, query}
use Rattle.system.proofs.LineSets.{member_set}

selected_none : (m x : ℕ) → selected m 0 x ≡ []
unfolding selected
selected_none zero x = refl
selected_none (suc m) x = rw (member_empty m) (selected_none m x)

no_operands : (ws xs : List ℕ) → ((k : ℕ) → get_or ws k 0 ≡ 0) → operands ws xs ≡ []
unfolding operands
no_operands [] xs h = refl
no_operands (w ∷ ws) [] h = refl
no_operands (w ∷ ws) (x ∷ xs) h = rw (h 0, selected_none 64 x) (no_operands ws xs (λ k. h (suc k)))

module _ (m : System) (i : ℕ) (l : i < m.lines) (none : WithoutOperands m i) (xs : List ℕ) where
  value_of_none : is_member (query m xs) i ≡ line_value m i []
  unfolding query
  value_of_none = member_set m.lines _ i ∙ rw (lt-ltb i m.lines l, no_operands (words_of m i) xs none)

  pub any_of_none : get_or m.kinds i 0 ≡ 0 → is_member (query m xs) i ≡ false
  any_of_none kind = value_of_none ∙ ap (λ (k : ℕ). value_of k (get_or m.thresholds i 0) []) kind

  pub all_of_none : get_or m.kinds i 0 ≡ 1 → is_member (query m xs) i ≡ true
  all_of_none kind = value_of_none ∙ ap (λ (k : ℕ). value_of k (get_or m.thresholds i 0) []) kind
