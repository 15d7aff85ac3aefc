-- What can be met by steps, defined by paths (request W7). A step is any relation of positions.
-- Assumes nothing.
use Rattle.std.specs.Prelude.{true, ◌≡◌, ℕ}
use Rattle.sets.specs.Set.{is_member}

-- q can be met from p: it is p, or a step leads to it from a position that can be met
pub data Met (Step : ℕ → ℕ → Type 0) (p : ℕ) : ℕ → Type 0 where
  here : Met Step p p
  onward : {q r : ℕ} → Met Step p q → Step q r → Met Step p r

-- a step to a successor that is allowed; `next p` is the set of the successors of p
pub record Leads (next : ℕ → ℕ) (allowed p q : ℕ) : Type 0 where
  pub successor : is_member (next p) q ≡ true
  pub admitted : is_member allowed q ≡ true
