-- Which bytes say a kind: 0 any, 1 all, 2 and more a vote.
-- Assumes nothing.
use mathlib.Core.Logic.{◌⊎◌, inl, inr}
use mathlib.Core.Path.{◌≡◌}
use Prim.Native.Nat.{ℕ, zero, suc, ◌≤◌, ◌<◌}
use native.Mathlib.Omega.{arith}
use Rattle.model.specs.Kinds.{kind_of}
use Rattle.model.specs.declared.kind.Kind.TheVariants.{Any, All, Vote}

pub is_vote : (byte : ℕ) → kind_of byte ≡ Vote → 2 ≤ byte
is_vote zero p = absurd (cc)
is_vote (suc zero) p = absurd (cc)
is_vote (suc (suc k)) p = omega arith

pub is_any : (byte : ℕ) → kind_of byte ≡ Any → byte ≡ 0
is_any zero p = omega arith
is_any (suc zero) p = absurd (cc)
is_any (suc (suc k)) p = absurd (cc)

pub is_all : (byte : ℕ) → kind_of byte ≡ All → byte ≡ 1
is_all zero p = absurd (cc)
is_all (suc zero) p = omega arith
is_all (suc (suc k)) p = absurd (cc)

pub is_no_vote : (byte : ℕ) → (kind_of byte ≡ Any) ⊎ (kind_of byte ≡ All) → byte < 2
is_no_vote byte (inl p) = omega (arith, is_any byte p)
is_no_vote byte (inr p) = omega (arith, is_all byte p)
