-- `encoder::put_header` meets its contract: each number is written behind those before it.
-- Assumes nothing.
use mathlib.Core.List.{◌++◌}
use mathlib.Core.Path.{refl, ◌∙◌, ap₂}
use Prim.Native.Nat.{ℕ}
use lib.ListN.{drop}
use Rattle.numbers.specs.Numbers.{bytes_of}
use Rattle.lists.proofs.Front.{front_part}
use Rattle.encoder.proofs.put_header.Goals as goal

pub returns : goal.returns
unfolding bytes_of
returns c =
    let s = c.args.s.now in
    let n = c.args.m.lines in
    let d = c.args.m.levels in
    let f₁ = bytes_of 2 n in
    let f₂ = f₁ ++ bytes_of 2 d in
    let f₃ = f₂ ++ bytes_of 4 16 in
    let f₄ = f₃ ++ bytes_of 4 c.kinds_at.result in
    let e₂ = front_part f₁ (bytes_of 2 d) s _ _ 2 2 4 refl refl c.put_number.ensures c.put_number-2.ensures in
    let e₃ = front_part f₂ (bytes_of 4 16) s _ _ 4 4 8 refl refl e₂ c.put_number-3.ensures in
    let e₄ = front_part f₃ (bytes_of 4 _) s _ _ 8 4 12 refl refl e₃ c.put_number-4.ensures in
    front_part f₄ (bytes_of 4 _) s _ _ 12 4 16 refl refl e₄ c.put_number-5.ensures
    ∙ ap₂ (λ (k w : ℕ). f₃ ++ bytes_of 4 k ++ bytes_of 4 w ++ drop 16 s) c.kinds_at.ensures c.words_at.ensures
