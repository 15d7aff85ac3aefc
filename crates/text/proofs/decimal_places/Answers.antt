use mathlib.Core.Path.{◌≡◌, refl, ◌∙◌, ap}
use Prim.Native.Nat.{ℕ, zero, suc, ◌+◌, ◌/◌, ◌^◌, ◌≤◌, ◌<◌}
use native.Mathlib.Nat.{lt_trans, pow-suc, div-lt_iff_lt-mul}
use native.Mathlib.Omega.{arith}
use borrow.Author.Tests.{lt-ltb, le-ltb}
use lib.Dec.{lit<}
use Rattle.text.specs.Text.{places}
use Rattle.text.proofs.decimal_places.Invariants.{Counting}
use Rattle.text.proofs.decimal_places.Goals as goal

-- a number of two places or more has one more than its tenth
longer : (m rest : ℕ) → 9 < rest → places (suc m) rest ≡ suc (places m (rest / 10))
unfolding places
longer m rest h = rw (le-ltb rest 10 h)

-- a number below ten has one
last : (m rest : ℕ) → rest ≤ 9 → places m rest ≡ 1
unfolding places
last zero rest h = refl
last (suc m) rest h = rw (lt-ltb rest 10 (omega arith))

step : {x rest n : ℕ} → 9 < rest → Counting x rest n → Counting x (rest / 10) (n + 1)
step {x} {rest} {n} h c = go c.more c.counted c.room c.fits
  where
    go : (m : ℕ) → places 19 x + 1 ≡ n + places m rest → n + m ≡ 20 → rest < 10 ^ suc m → Counting x (rest / 10) (n + 1)
    go zero e r f = absurd (omega arith)
    go (suc m) e r f =
        record {
          more = m;
          counted = e ∙ ap (λ (p : ℕ). n + p) (longer m rest h) ∙ omega arith;
          room = omega arith;
          fits = (div-lt_iff_lt-mul (lit< tt)).1 (rw pow-suc at f);
        }

pub loop-rest-init : goal.loop-rest-init
loop-rest-init c = record { more = 19; counted = omega arith; room = refl; fits = lt_trans c.ranges.x.fits (lit< tt) }

pub loop-rest-preserved : goal.loop-rest-preserved
loop-rest-preserved c = step c.loop-rest-test.true c.loop-rest.invariant

pub returns : goal.returns
returns c =
    let l = c.loop-rest in
    let counted = l.invariant.counted in
    let one = last l.invariant.more l.rest c.loop-rest-test.false in
    let room = l.invariant.room in
    (omega arith, omega arith)
