-- `text::put_refused` meets its contract: the word, the number and what stands behind it are put one behind the other.
-- Assumes nothing.
use mathlib.Core.List.{[], ◌∷◌}
use mathlib.Core.Path.{◌≡◌, refl}
use Prim.Native.Nat.{ℕ, zero, suc, ◌<◌}
use native.Mathlib.Omega.{arith}
use Rattle.text.specs.Text.{number_line, behind_number}
use Rattle.text.proofs.Digits.{decimal_few, puts_then}
use Rattle.text.proofs.put_refused.Goals as goal

-- a count that is not 0 stands behind the number
counted : (count : ℕ) → 0 < count → number_line (32 ∷ []) count ≡ behind_number count
counted zero h = absurd (omega arith)
counted (suc count) h = refl

pub put-requires : goal.put-requires
put-requires c = omega (arith, decimal_few c.args.number)

pub returns-then-count-eq0 : goal.returns-then-count-eq0
returns-then-count-eq0 c =
    rw c.if-count-eq0.true
    (puts_then (omega (arith, c.requires)) c.put-word.ensures
    (puts_then (omega (arith, c.put-word)) c.put_decimal-behind.ensures c.put.ensures))

pub put_number_line-requires : goal.put_number_line-requires
put_number_line-requires c = omega (arith, decimal_few c.args.number)

pub returns-else-count-eq0 : goal.returns-else-count-eq0
returns-else-count-eq0 c =
    puts_then (omega (arith, c.requires)) c.put-word.ensures
    (puts_then (omega (arith, c.put-word)) c.put_decimal-behind.ensures
    (rw (counted c.args.count (omega (arith, c.if-count-eq0.false))) at c.put_number_line.ensures))
