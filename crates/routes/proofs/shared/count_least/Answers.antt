use mathlib.Core.Path.{◌≡◌, refl, sym, ◌∙◌, ap}
use Prim.Native.Nat.{ℕ, ◌+◌}
use native.Mathlib.Numerals.{add-one}
use native.Mathlib.Omega.{arith}
use borrow.Author.Tests.{not-true, not-false}
use Rattle.fixpoint.specs.Levels.{least_among}
use Rattle.fixpoint.proofs.Levels.{least_at_least, least_at_greatest}
use mathlib.Core.Bool.{true, false, not}
use Rattle.system.specs.System.{System, sign}
use Rattle.model.specs.Files.{held_system}
use Rattle.routes.specs.Parts.{least_of}
use Rattle.routes.proofs.shared.count_least.Goals as goal

pub loop-k-init : goal.loop-k-init
unfolding least_among
loop-k-init c = (omega arith, refl)

-- a level more, by its sign
least_more : (s : System) (k : ℕ) → not (sign s k) ≡ true → least_of s (k + 1) ≡ least_of s k + 1
least_more s k e = ap (least_of s) (add-one k) ∙ least_at_least (sign s) k (not-true _ e) ∙ sym (add-one _)

least_same : (s : System) (k : ℕ) → not (sign s k) ≡ false → least_of s (k + 1) ≡ least_of s k
least_same s k e = ap (least_of s) (add-one k) ∙ least_at_greatest (sign s) k (not-false _ e)

pub loop-k-preserved : goal.loop-k-preserved
loop-k-preserved c =
    let s = held_system c.args.file in
    let told = c.is_greatest.ensures in
    grind (arith, least_more s c.loop-k.k, least_same s c.loop-k.k)

pub returns : goal.returns
returns c =
    let all : c.loop-k.k ≡ c.args.file.model.levels = omega arith in
    c.loop-k.invariant.1 ∙ ap (least_of (held_system c.args.file)) all
