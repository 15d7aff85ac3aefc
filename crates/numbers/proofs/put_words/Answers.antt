use mathlib.Core.Path.{◌≡◌, refl, ◌∙◌}
use Prim.Native.Nat.{◌+◌, ◌*◌}
use native.Mathlib.Omega.{arith}
use Rattle.numbers.specs.Numbers.{word_bytes}
use Rattle.numbers.proofs.Codec.{word_stored}
use Rattle.lists.proofs.Front.{front_all}
use Rattle.numbers.proofs.put_words.Goals as goal

pub loop-i-init : goal.loop-i-init
unfolding word_bytes
loop-i-init c = refl

pub loop-i-preserved : goal.loop-i-preserved
loop-i-preserved c =
    let i = c.loop-i.i in
    let next : 8 * i + 8 ≡ 8 * (i + 1) = omega arith in
    word_stored c.args.words.now c.args.s.now c.loop-i.s _ i (8 * i) _ (omega arith) refl refl c.loop-i.invariant c.put_number.ensures ∙ rw next

pub returns : goal.returns
returns c =
    let words = c.args.words.now in
    front_all word_bytes words c.args.s.now (omega arith) (omega arith) c.loop-i.invariant
