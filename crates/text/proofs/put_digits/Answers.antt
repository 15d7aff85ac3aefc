use mathlib.Core.Path.{sym, ap}
use Prim.Native.Nat.{ℕ, ◌+◌, ◌-◌}
use native.Mathlib.Omega.{arith}
use Rattle.text.proofs.Digits.{digits_length, filling_step, filling_end}
use Rattle.text.proofs.put_digits.Goals as goal

pub loop-i-preserved : goal.loop-i-preserved
loop-i-preserved c =
    let l = c.loop-i in
    filling_step _ _ _ _ _ l.i (l.i - 1) (omega arith) (omega arith) c.requires.k_in_bounds l.invariant c.digit_of.result c.digit_of.ensures

pub returns : goal.returns
returns c =
    record {
      end = ap (λ (n : ℕ). c.args.at + n) (sym (digits_length c.args.base c.args.k c.args.x));
      left = filling_end _ _ _ _ _ c.loop-i.i (omega arith) c.loop-i.invariant;
    }
