-- What the arguments of the outer levels come to, line by line: with none known, with one level's more, and with all.
-- Assumes nothing.
use mathlib.Core.Bool.{Bool, true, false, ◌&&◌, beq}
use mathlib.Core.List.{List, [], ◌∷◌, ◌++◌}
use mathlib.Core.Path.{◌≡◌, refl, ◌∙◌, ap}
use Prim.Native.Nat.{ℕ, suc, ◌-◌, ◌<◌}
use native.Mathlib.Nat.{sub-zero}
use native.Mathlib.Omega.{arith}
use borrow.Author.Tests.{lt-ltb, ltb-true}
use lib.Dec.{ltb}
use lib.ListN.{length, get_or, drop}
use lib.Seq.{drop-cons}
use Rattle.sets.specs.Set.{is_member}
use Rattle.system.specs.System.{System}
use Rattle.system.specs.Query.{count_set, selected, operands, words_of, line_value, VotesNeed, query}
use Rattle.evaluator.specs.ByLevels.{initial_value, initial_set, selects, set_at, is_met, line_needs, outer_value, is_open, outer_set, open_set, still_needs}
use Rattle.system.proofs.LineSets.{set_same_values, member_set}
use Rattle.system.proofs.Masks.{count_append}
use Rattle.evaluator.proofs.Needs.{changed, left_out, decides, one_level_lem}

-- the operands above level k are those of level k + 1 and those above it
operands_above : (s : System) (k x : ℕ) (ys : List ℕ) (i : ℕ) → k < length (words_of s i)
    → operands (drop k (words_of s i)) (x ∷ ys) ≡ selected 64 (get_or (words_of s i) k 0) x ++ operands (drop (suc k) (words_of s i)) ys
unfolding operands
operands_above s k x ys i h = rw (drop-cons (words_of s i) k 0 h)

-- at no arguments there are no operands
operands_none : (ws : List ℕ) → operands ws [] ≡ []
unfolding operands
operands_none [] = refl
operands_none (w ∷ ws) = refl

module _ (s : System) where
  -- with no argument known, every line is open, and as without operands
  pub outer_none : (k : ℕ) → outer_set s k [] ≡ initial_set s
  unfolding outer_set initial_set
  outer_none k = set_same_values s.lines _ _ (λ i l. ap (line_value s i) (operands_none (drop k (words_of s i))))

  pub open_none : (k i : ℕ) → i < s.lines → is_member (open_set s k []) i ≡ true
  unfolding open_set
  open_none k i h =
      member_set s.lines _ i ∙ rw (lt-ltb i s.lines h, operands_none (drop k (words_of s i))) (same (initial_value s i))
    where
      same : (t : Bool) → beq t t ≡ true
      same true = refl
      same false = refl

  -- with every argument known, the set is the query's
  pub outer_all : (xs : List ℕ) → outer_set s 0 xs ≡ query s xs
  unfolding outer_set query
  outer_all xs = refl

  -- with no argument known, a line needs what it needs
  pub needs_none : (k i : ℕ) → still_needs s k [] i ≡ line_needs s i
  needs_none k i = ap (λ (bits : List Bool). line_needs s i - count_set bits) (operands_none (drop k (words_of s i))) ∙ sub-zero (line_needs s i)

  module _ (votes : VotesNeed s) (k x : ℕ) (ys : List ℕ) (i : ℕ) (room : i < s.lines → k < length (words_of s i)) where
    -- with one argument more it needs less by the operands that are set
    pub needs_more : i < s.lines → still_needs s k (x ∷ ys) i ≡ still_needs s (suc k) ys i - set_at s k x i
    needs_more l =
        ap (λ (bits : List Bool). line_needs s i - count_set bits) (operands_above s k x ys i (room l))
        ∙ omega (arith, count_append (selected 64 (get_or (words_of s i) k 0) x) (operands (drop (suc k) (words_of s i)) ys))

    abbrev now_open : Bool
    now_open = is_member (open_set s (suc k) ys) i

    abbrev now_set : Bool
    now_set = is_member (outer_set s (suc k) ys) i

    -- whether the argument x of level k + 1 decides line i, which needs what stands in needs
    abbrev pub decided : List ℕ → Bool
    decided needs = decides now_open now_set (is_met s k x needs i) (selects s k (left_out x) i)

    pub next_set : (needs : List ℕ) → (now_open ≡ true → now_set ≡ false → get_or needs i 0 ≡ still_needs s (suc k) ys i)
        → (is_member (outer_set s k (x ∷ ys)) i ≡ changed now_set (decided needs)) × (is_member (open_set s k (x ∷ ys)) i ≡ changed now_open (decided needs))
    unfolding outer_set open_set
    next_set needs known =
        rw (member_set s.lines (outer_value s k (x ∷ ys)) i, member_set s.lines (is_open s k (x ∷ ys)) i, member_set s.lines (outer_value s (suc k) ys) i, member_set s.lines (is_open s (suc k) ys) i)
        (go (ltb i s.lines) refl (rw (member_set s.lines (outer_value s (suc k) ys) i, member_set s.lines (is_open s (suc k) ys) i) at known))
      where
        go : (t : Bool) → ltb i s.lines ≡ t
            → ((t && is_open s (suc k) ys i) ≡ true → (t && outer_value s (suc k) ys i) ≡ false → get_or needs i 0 ≡ still_needs s (suc k) ys i)
            → let d = decides (t && is_open s (suc k) ys i) (t && outer_value s (suc k) ys i) (is_met s k x needs i) (selects s k (left_out x) i) in
            ((t && outer_value s k (x ∷ ys) i) ≡ changed (t && outer_value s (suc k) ys i) d) × ((t && is_open s k (x ∷ ys) i) ≡ changed (t && is_open s (suc k) ys i) d)
        go true e known =
            let l = one_level_lem (get_or s.kinds i 0) (get_or s.thresholds i 0) (votes i) (operands (drop (suc k) (words_of s i)) ys) (get_or (words_of s i) k 0) x (get_or needs i 0) known in
            rw (operands_above s k x ys i (room (ltb-true i s.lines e))) (l.value, l.openness)
        go false e known = (refl, refl)
