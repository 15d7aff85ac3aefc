-- How long a judgement's line is at most, so that all lines fit.
-- Assumes nothing.
use mathlib.Core.List.{[], ◌∷◌}
use Prim.Native.Nat.{ℕ, zero, suc, ◌≤◌}
use native.Mathlib.Omega.{arith}
use lib.ListN.{length, length-append}
use Rattle.answers.specs.Answer.{Answer}
use Rattle.text.specs.Text.{hex, number_line, text_or_refused}
use Rattle.text.proofs.Digits.{hex_long, number_line_few, refused_few}
use Rattle.report.specs.Report.{found_line, answer_line}

pub answer_few : (x : Answer) → length (answer_line x) ≤ 50
answer_few x = few x.number
  where
    few : (n : ℕ) → length (text_or_refused n x.count (found_line x.set x.count)) ≤ 50
    few zero = omega (arith, length-append (hex x.set) (number_line (32 ∷ []) x.count), hex_long x.set, number_line_few (32 ∷ []) x.count)
    few (suc n) = refused_few (suc n) x.count
