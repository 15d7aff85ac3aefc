-- The search from line 0 over each line's operands finds precisely the lines that can be met, as the definition by paths has them: in every well-formed system with
-- a line, so in every file that checking accepts. Line 0 is one of them, so the share is of one line at least, and it is at most 1000.
-- Assumes nothing.
use mathlib.Core.Bool.{true, true≢false}
use mathlib.Core.List.{List, [], ◌∷◌}
use mathlib.Core.Logic.{◌⊎◌, inl, inr, ◌↔◌}
use mathlib.Core.Path.{◌≡◌, sym, ◌∙◌, ap, ap₂, subst}
use Prim.Native.Nat.{ℕ, zero, suc, ◌^◌, ◌≤◌, ◌<◌}
use native.Mathlib.Decide.{dec_lt}
use native.Mathlib.Omega.{arith}
use borrow.Author.Tests.{eqb-true}
use lib.ListN.{length, get_or, get_or-eq_default}
use lib.Pow.{ones_lt, pow-lt}
use Rattle.lists.proofs.Below.{below_at}
use Rattle.sets.specs.Set.{is_member, full, intersection, members}
use Rattle.sets.proofs.Order.{le_member, meet_right, join_left, join_right}
use Rattle.sets.proofs.Range.{member_below}
use Rattle.sets.proofs.Members.{members_most, members_some}
use Rattle.sets.proofs.Membership.{member_power, member_full, member_empty, in_either}
use Rattle.reach.specs.Met.{Met, here, Leads}
use Rattle.reach.specs.Search.{reached}
use Rattle.reach.proofs.Search.{met_map, reached_is, reached_same, reached_below}
use Rattle.share.proofs.Rounding.{share_most}
use Rattle.system.specs.System.{System, WellFormed}
use Rattle.system.specs.Query.{words_of}
use Rattle.system.proofs.Formed.{line_words_below}
use Rattle.model.specs.File.{decode}
use Rattle.checker.specs.Checks.{file_number}
use Rattle.checker.proofs.Accepted.{accepted, formed}
use Rattle.met_lines.specs.Met.{IsOperand, MetLine}
use Rattle.met_lines.specs.MetLines.{union_of, operand_set, met_lines, met_share}

-- a search over a table that has each line's operands
pub table_search : (m : System) (table : List ℕ) {all : ℕ} → length table ≡ m.lines → all ≡ full m.lines → ((p : ℕ) → p < m.lines → get_or table p 0 ≡ operand_set m p)
    → reached (length table) (λ p. get_or table p 0) all 1 ≡ met_lines m
unfolding met_lines
table_search m table long mask same =
    ap₂ (λ (n all : ℕ). reached n (λ p. get_or table p 0) all 1) long mask ∙ reached_same (λ p. get_or table p 0) (operand_set m) m.lines same (full m.lines) 1

-- what is found are lines
pub met_below : (m : System) → 1 ≤ m.lines → met_lines m < 2 ^ m.lines
unfolding met_lines
met_below m some = reached_below m.lines (operand_set m) (full m.lines) (ones_lt m.lines) 1 (pow-lt some)

-- who is in a union of sets
union_in : (ws : List ℕ) (k j : ℕ) → is_member (get_or ws k 0) j ≡ true → is_member (union_of ws) j ≡ true
unfolding union_of
union_in [] k j h = h
union_in (w ∷ ws) zero j h = le_member _ _ (join_left w (union_of ws)) j h
union_in (w ∷ ws) (suc k) j h = le_member _ _ (join_right w (union_of ws)) j (union_in ws k j h)

in_union : (ws : List ℕ) (j : ℕ) → is_member (union_of ws) j ≡ true → (k : ℕ) × (is_member (get_or ws k 0) j ≡ true)
unfolding union_of
in_union [] j h = (0, h)
in_union (w ∷ ws) j h = go (in_either w (union_of ws) j h) (in_union ws j)
  where
    go : (is_member w j ≡ true) ⊎ (is_member (union_of ws) j ≡ true) → (is_member (union_of ws) j ≡ true → (k : ℕ) × (is_member (get_or ws k 0) j ≡ true))
        → (k : ℕ) × (is_member (get_or (w ∷ ws) k 0) j ≡ true)
    go (inl i) ih = (0, i)
    go (inr i) ih = let (k, q) = ih i in (suc k, q)

module _ (m : System) (formed : WellFormed m) (some : 1 ≤ m.lines) where
  -- the operands of a line are lines
  pub operand_line : (i j : ℕ) → IsOperand m i j → j < m.lines
  operand_line i j (k, h) = go (dec_lt k (length (words_of m i)))
    where
      go : Dec (k < length (words_of m i)) → j < m.lines
      go (yes l) = member_below m.lines (get_or (words_of m i) k 0) j (below_at (line_words_below m formed i) k l) h
      go (no g) = absurd (true≢false (sym h ∙ ap (λ (w : ℕ). is_member w j) (get_or-eq_default (words_of m i) 0 {n = k} (omega arith)) ∙ member_empty j))

  -- The search finds precisely the lines that can be met.
  pub met_exactly : (j : ℕ) → (is_member (met_lines m) j ≡ true) ↔ MetLine m j
  unfolding met_lines
  met_exactly j = (there, back)
    where
      found : (is_member (reached m.lines (operand_set m) (full m.lines) 1) j ≡ true) ↔ ((p : ℕ) × (is_member 1 p ≡ true) × Met (Leads (operand_set m) (full m.lines)) p j)
      found = reached_is m.lines (operand_set m) (full m.lines) (ones_lt m.lines) 1 (pow-lt some) j

      there : is_member (reached m.lines (operand_set m) (full m.lines) 1) j ≡ true → MetLine m j
      there h =
          let (p, first, path) = found.0 h in
          let begin : p ≡ 0 = eqb-true p 0 (sym (member_power 0 p) ∙ first) in
          subst (λ (q : ℕ). Met (IsOperand m) q j) begin (met_map (λ a b s. in_union (words_of m a) b s.successor) path)

      back : MetLine m j → is_member (reached m.lines (operand_set m) (full m.lines) 1) j ≡ true
      back path =
          found.1 (
            0,
            member_power 0 0,
            met_map (λ a b s. record {
              successor = union_in (words_of m a) s.0 b s.1;
              admitted = member_full m.lines b (operand_line a b s);
            }) path,
          )

  -- so line 0 is one of them, and there is one at least
  pub some_met : 1 ≤ members (met_lines m)
  some_met = members_some (met_lines m) (λ none. true≢false (sym ((met_exactly 0).1 here) ∙ ap (λ (x : ℕ). is_member x 0) none ∙ member_empty 0))

-- in every file that is accepted
pub file_met : (file : List ℕ) → file_number file ≡ 0 → (j : ℕ) → (is_member (met_lines (decode file)) j ≡ true) ↔ MetLine (decode file) j
unfolding decode
file_met file h = let ok = accepted file h in met_exactly (decode file) (formed file ok) ok.header.lines_least

-- of the lines that can be met, no more are good than there are
pub met_few : (m : System) (good : ℕ) → met_share m good ≤ 1000
unfolding met_share
met_few m good = share_most _ _ (members_most (intersection good (met_lines m)) (met_lines m) (meet_right good (met_lines m)))
