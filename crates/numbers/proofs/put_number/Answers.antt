use mathlib.Core.List.{List, [], ◌∷◌, ◌++◌}
use mathlib.Core.Path.{refl, sym, ◌∙◌, ap}
use Prim.Native.Nat.{ℕ, ◌+◌, ◌/◌, ◌%◌, ◌^◌}
use native.Mathlib.Nat.{div-one, div-div-eq-div-mul, pow-suc}
use native.Mathlib.Numerals.{add-one}
use native.Mathlib.Omega.{arith}
use lib.ListN.{drop}
use Rattle.numbers.specs.Numbers.{bytes_of}
use Rattle.numbers.proofs.Codec.{bytes_length, bytes_more}
use Rattle.lists.proofs.Front.{front_store}
use Rattle.numbers.proofs.put_number.Goals as goal

pub loop-i-init : goal.loop-i-init
unfolding bytes_of
loop-i-init c = (sym (div-one c.args.x), refl)

pub loop-i-preserved : goal.loop-i-preserved
loop-i-preserved c =
    let i = c.loop-i.i in
    let x = c.args.x in
    let inv = c.loop-i.invariant in (
      ap (λ (y : ℕ). y / 256) inv.0 ∙ div-div-eq-div-mul x (256 ^ i) 256 ∙ rw (add-one, pow-suc),
      front_store (bytes_of i x) c.args.s.now c.loop-i.s i (c.loop-i.rest % 256) (bytes_length i x) (omega arith) inv.1
          ∙ ap (λ (bs : List ℕ). bs ++ drop (i + 1) c.args.s.now) (ap (λ (y : ℕ). bytes_of i x ++ (y % 256 ∷ [])) inv.0 ∙ sym (bytes_more i x)),
    )

pub returns : goal.returns
returns c =
    c.loop-i.invariant.1
    ∙ ap (λ (n : ℕ). bytes_of n c.args.x ++ drop n c.args.s.now) (omega arith)
