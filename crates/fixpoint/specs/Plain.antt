-- The plain rounds between two bounds, with the queries that they make (document 01, "Plain route").
-- Assumes nothing.
use Rattle.std.specs.Prelude.{Bool, true, false, cond, List, ◌∷◌, ℕ, zero, suc, ◌+◌}
use Rattle.fixpoint.specs.Values.{Values}

-- a value, and the queries made on the way to it
pub record Run (C : Type 0) : Type 0 where
  pub value : C
  pub queries : ℕ

-- The run r of one round: all there is if it changed nothing, else with the run t of the rounds after it.
unfoldable pub then_rounds : {C : Type 0} → Bool → Run C → Run C → Run C
then_rounds true r t = r
then_rounds false r t = record { value = t.value; queries = r.queries + t.queries }

module _ {C : Type 0} (same : C → C → Bool) (round : C → Run C) where
  -- Rounds from x, up to and with the first that changes nothing. There are at most m of them, so that the definition ends.
  unfoldable pub settle : ℕ → C → Run C
  settle zero x = record { value = x; queries = 0 }
  settle (suc m) x =
      let r : Run C = round x in
      let t : Run C = settle m r.value in
      then_rounds (same r.value x) r t

module _ (𝓥 : Values) (same : 𝓥.C → 𝓥.C → Bool) (rounds : ℕ) (sign : ℕ → Bool) (f : List 𝓥.C → 𝓥.C) (a b : 𝓥.C) where
  open 𝓥 use {C, step}

  -- The levels k, .., 1, each with at most `rounds` rounds: a least level starts from a, a greatest from b, afresh
  -- for all arguments xs of the levels outside. That the bound on the rounds is never met is a theorem (proofs/Plain.antt).
  unfoldable pub plain : ℕ → List C → Run C
  plain zero xs = record { value = step a b (f xs); queries = 1 }
  plain (suc k) xs = settle same (λ x. plain k (x ∷ xs)) rounds (cond (sign k) b a)
