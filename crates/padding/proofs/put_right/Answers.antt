-- `padding::put_right` meets its contract: the number has no more digits than there are places, and blanks fill the others.
-- Assumes nothing.
use mathlib.Core.Path.{sym, ◌∙◌, subst}
use Prim.Native.Nat.{ℕ, ◌-◌, ◌≤◌}
use native.Mathlib.Omega.{arith}
use Rattle.text.specs.Text.{places, digits, Puts}
use Rattle.padding.specs.Padding.{blanks}
use Rattle.text.proofs.Digits.{digits_length, places_within, puts_then}
use Rattle.padding.proofs.Blanks.{blanks_length}
use borrow.Author.Rules.{rules}
use Rattle.padding.proofs.put_right.Goals as goal
use Rattle.padding.proofs.put_right.Goals.{After-decimal_places-places}

-- the number fits in its places
fits : (c : After-decimal_places-places) → c.decimal_places-places.result ≤ c.args.k
fits c =
    omega (arith, c.decimal_places-places.ensures.0, places_within 19 c.args.k c.args.x c.requires.le_k.0 c.requires.le_k.1)

pub overflow_sub-k : goal.overflow_sub-k
overflow_sub-k c = omega (arith, fits (goal.at.overflow_sub-k c).After-decimal_places-places)

pub put_digits-requires : goal.put_digits-requires
put_digits-requires c =
    let few = fits (goal.at.put_digits-requires c).After-decimal_places-places in record {
      le_base = search rules;
      k_in_bounds = omega (arith, blanks_length (c.args.k - c.decimal_places-places.result));
    }

pub returns : goal.returns
returns c =
    let k = c.args.k in
    let x = c.args.x in
    let same = c.decimal_places-places.ensures.0 in
    let fill = subst (λ (n : ℕ). Puts c.args.at (blanks (k - n)) c.args.out.now c.put_blanks-first.new.out c.put_blanks-first.result) (same ∙ sym (digits_length 10 (places 19 x) x)) c.put_blanks-first.ensures in
    let number = subst (λ (n : ℕ). Puts c.put_blanks-first.result (digits 10 n x) c.put_blanks-first.new.out c.put_digits.new.out c.put_digits.result) same c.put_digits.ensures in
    puts_then (omega (arith, c.requires)) fill number
