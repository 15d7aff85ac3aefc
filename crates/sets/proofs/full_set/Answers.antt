-- `sets::full_set` meets its contract: below 64 lines the shift loses nothing, and of 64 lines or more the word has every digit set.
-- Assumes nothing.
use mathlib.Core.Path.{ap, sym}
use native.Mathlib.Nat.{min-eq_left, min-eq_right}
use native.Mathlib.Omega.{arith}
use lib.Pow.{pow_pos, pow-lt}
use borrow.Author.Rules.{rules}
use Rattle.sets.specs.Set.{full}
use Rattle.sets.proofs.full_set.Goals as goal

pub returns-then-n-ge64 : goal.returns-then-n-ge64
returns-then-n-ge64 c = sym (ap full (min-eq_right (search rules)))

pub overflow_sub-result : goal.overflow_sub-result
overflow_sub-result c = omega (arith, pow_pos c.args.n, pow-lt {i = c.args.n} {j = 64} (search rules))

pub returns : goal.returns
returns c =
    rw (min-eq_left {n = c.args.n} {m = 64} (search rules)) (omega (arith, pow-lt {i = c.args.n} {j = 64} (search rules)))
