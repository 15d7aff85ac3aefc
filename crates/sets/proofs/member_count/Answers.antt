-- `sets::member_count` meets its contract: the members of both halves are all members.
-- Assumes nothing.
use mathlib.Core.Path.{◌≡◌, sym, ◌∙◌, ap}
use Prim.Native.Nat.{ℕ, ◌+◌, ◌*◌, ◌/◌, ◌%◌, ◌^◌}
use native.Mathlib.Nat.{mod-lt}
use native.Mathlib.Omega.{arith}
use lib.Count.{ones_cat, ones-le}
use lib.Pow.{pow_pos}
use Rattle.sets.specs.Set.{members}
use Rattle.sets.proofs.member_count.Goals as goal

halves : (x : ℕ) → members (x / 2 ^ 32) + members (x % 2 ^ 32) ≡ members x
halves x = sym (ones_cat 32 (x / 2 ^ 32) (x % 2 ^ 32) (mod-lt x (pow_pos 32))) ∙ ap members whole
  where
    whole : x / 2 ^ 32 * 2 ^ 32 + x % 2 ^ 32 ≡ x
    whole = omega arith

pub overflow_add-result : goal.overflow_add-result
overflow_add-result c =
    let x = c.args.x in
    omega (arith, ones-le 32 (x / 2 ^ 32) (omega arith), ones-le 32 (x % 2 ^ 32) (mod-lt x (pow_pos 32)))

pub returns : goal.returns
returns c = halves c.args.x
