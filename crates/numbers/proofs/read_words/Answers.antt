use mathlib.Core.List.{List, [], ◌∷◌, ◌++◌}
use mathlib.Core.Path.{◌≡◌, refl, sym, ◌∙◌, ap}
use Prim.Native.Nat.{ℕ, ◌+◌}
use native.Mathlib.Omega.{arith}
use lib.ListN.{drop}
use Rattle.numbers.specs.Numbers.{words_from}
use Rattle.numbers.proofs.Codec.{words_length, words_more}
use Rattle.lists.proofs.Front.{front_store}
use Rattle.numbers.proofs.read_words.Goals as goal

pub loop-i-init : goal.loop-i-init
unfolding words_from
loop-i-init c = refl

pub loop-i-preserved : goal.loop-i-preserved
loop-i-preserved c =
    let s = c.args.s.now in
    let i = c.loop-i.i in
    front_store (words_from i s) c.args.words.now c.loop-i.words i c.u64_at.result (words_length i s) (omega arith) c.loop-i.invariant
    ∙ ap (λ (ws : List ℕ). ws ++ drop (i + 1) c.args.words.now) (ap (λ (w : ℕ). words_from i s ++ (w ∷ [])) c.u64_at.ensures ∙ sym (words_more i s))

pub returns : goal.returns
returns c =
    let all : c.loop-i.i ≡ c.args.k = omega arith in
    c.loop-i.invariant ∙ ap (λ (n : ℕ). words_from n c.args.s.now ++ drop n c.args.words.now) all
