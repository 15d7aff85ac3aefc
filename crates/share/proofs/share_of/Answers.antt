-- `share::share_of` meets its contract: by what the division leaves, what it gives meets the definition of rounding, and only the share does; of no lines
-- both are 0.
-- Assumes nothing.
use mathlib.Core.Path.{sym}
use Prim.Native.Nat.{ℕ, ◌+◌, ◌*◌, ◌/◌, ◌%◌, ◌^◌, ◌<◌}
use native.Mathlib.Nat.{div-le_self, mod-lt}
use native.Mathlib.Omega.{arith}
use Rattle.share.proofs.Rounding.{rounded_none, only_rounded, low_rounds, next_rounds}
use Rattle.share.proofs.share_of.Goals as goal

-- what fits a word, whatever is divided
next_fits : (x n : ℕ) → x < 2 ^ 63 → x / n + 1 < 2 ^ 64
next_fits x n few = omega (arith, div-le_self x n)

rest_fits : (x n : ℕ) → 0 < n → n < 2 ^ 63 → 2 * (x % n) < 2 ^ 64
rest_fits x n some few = omega (arith, mod-lt x some)

pub returns-then-n-eq0 : goal.returns-then-n-eq0
returns-then-n-eq0 c = rw c.if-n-eq0.true (sym (rounded_none _))

pub overflow_add-next : goal.overflow_add-next
overflow_add-next c = record { fits = next_fits _ _ (omega arith) }

pub overflow_mul-twice_rest : goal.overflow_mul-twice_rest
overflow_mul-twice_rest c = record { fits = rest_fits _ _ (omega arith) (omega arith) }

pub returns-then-twice_rest-lines : goal.returns-then-twice_rest-lines
returns-then-twice_rest-lines c =
    let args = c.args in
    only_rounded (omega arith) (low_rounds (1000 * args.good) args.n (omega arith) (omega arith) (λ half. absurd (omega arith)))

pub returns-then-lines-twice_rest : goal.returns-then-lines-twice_rest
returns-then-lines-twice_rest c =
    let args = c.args in
    only_rounded (omega arith) (next_rounds (1000 * args.good) args.n (omega arith) (omega arith) (λ half. absurd (omega arith)))

pub returns-then-low-eq0 : goal.returns-then-low-eq0
returns-then-low-eq0 c =
    let args = c.args in
    only_rounded (omega arith) (low_rounds (1000 * args.good) args.n (omega arith) (omega arith) (λ half. omega arith))

pub returns : goal.returns
returns c =
    let args = c.args in
    only_rounded (omega arith) (next_rounds (1000 * args.good) args.n (omega arith) (omega arith) (λ half. omega arith))
