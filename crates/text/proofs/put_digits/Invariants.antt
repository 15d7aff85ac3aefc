-- `text::put_digits` meets its contract. The loop's invariant is `Filling`.
-- Assumes nothing.
use Rattle.text.proofs.Digits.{Filling}
use Rattle.text.proofs.put_digits.Given as goal

abbrev pub invariant-loop-i : goal.invariant-loop-i
invariant-loop-i l = Filling l.initial.out l.at l.base l.k l.x l.out l.rest l.i
