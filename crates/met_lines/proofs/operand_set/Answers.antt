use mathlib.Core.List.{List, [], ◌∷◌, ◌++◌}
use mathlib.Core.Path.{◌≡◌, refl, sym, ◌∙◌, ap, ap₂}
use Prim.Native.Nat.{ℕ, ◌*◌}
use native.Mathlib.Omega.{arith}
use lib.Bits.{or_comm}
use lib.ListN.{drop}
use lib.Seq.{drop-drop}
use Rattle.sets.specs.Set.{union}
use Rattle.sets.proofs.Order.{digit_join, same_digits}
use Rattle.numbers.specs.Numbers.{words_from}
use Rattle.numbers.proofs.Codec.{words_more}
use Rattle.met_lines.specs.MetLines.{union_of}
use Rattle.met_lines.proofs.operand_set.Goals as goal

union_assoc : (a b c : ℕ) → union a (union b c) ≡ union (union a b) c
union_assoc a b c =
    same_digits (union a (union b c)) (union (union a b) c)
    (λ i. omega (arith, digit_join a (union b c) i, digit_join b c i, digit_join (union a b) c i, digit_join a b i))

-- one set more, behind the others
union_last : (ws : List ℕ) (w : ℕ) → union_of (ws ++ (w ∷ [])) ≡ union (union_of ws) w
unfolding union_of
union_last [] w = or_comm w 0
union_last (v ∷ ws) w = ap (union v) (union_last ws w) ∙ union_assoc v (union_of ws) w

pub loop-k-init : goal.loop-k-init
unfolding words_from union_of
loop-k-init c = refl

pub loop-k-preserved : goal.loop-k-preserved
loop-k-preserved c =
    let l = c.loop-k in
    let at = c.args.at in
    let file = c.args.file.now in
    ap₂ union l.invariant (c.u64_at-set.ensures ∙ rw (drop-drop (8 * l.k) at file))
    ∙ sym (ap union_of (words_more l.k (drop at file)) ∙ union_last (words_from l.k (drop at file)) _)
