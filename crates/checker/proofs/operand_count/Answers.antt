use mathlib.Core.Path.{◌≡◌, refl, ◌∙◌, ap}
use Prim.Native.Nat.{ℕ, ◌*◌}
use native.Mathlib.Omega.{arith}
use lib.ListN.{drop}
use lib.Seq.{drop-drop}
use Rattle.sets.specs.Set.{members}
use Rattle.system.specs.Query.{operand_count}
use Rattle.numbers.specs.Numbers.{words_from}
use Rattle.numbers.proofs.Codec.{words_more}
use Rattle.system.proofs.Masks.{operands_more}
use Rattle.checker.proofs.operand_count.Goals as goal

pub loop-k-init : goal.loop-k-init
loop-k-init c = (omega arith, unfold words_from in refl)

pub loop-k-preserved : goal.loop-k-preserved
loop-k-preserved c =
    let start = c.args in
    let loop = c.loop-k in
    let file = start.file.now in
    (omega arith, rw (words_more loop.k (drop start.at file), operands_more, drop-drop (8 * loop.k) start.at file) (omega (arith, c.member_count.ensures, ap members c.u64_at.ensures)))

pub returns : goal.returns
returns c =
    let start = c.args in
    let all : c.loop-k.k ≡ start.d = omega arith in
    c.loop-k.invariant.1 ∙ ap (λ (k : ℕ). operand_count (words_from k (drop start.at start.file.now))) all
