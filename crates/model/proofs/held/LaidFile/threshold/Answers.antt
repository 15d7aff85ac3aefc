-- `model::held::LaidFile::threshold` meets its contract: an old file has none, and a new one has them behind the kinds.
-- Assumes nothing.
use mathlib.Core.Bool.{false}
use mathlib.Core.Path.{◌≡◌, sym, ◌∙◌, ap}
use Prim.Native.Nat.{ℕ, ◌+◌, ◌*◌}
use native.Mathlib.Omega.{arith}
use lib.ListN.{get_or}
use Rattle.model.specs.File.{is_old}
use Rattle.model.proofs.Places.{new_words, old_threshold, new_threshold}
use Rattle.model.proofs.held.LaidFile.threshold.Goals as goal
use Rattle.model.proofs.held.LaidFile.threshold.Goals.{Else-is_old}

pub returns-then-is_old : goal.returns-then-is_old
returns-then-is_old c =
    let z = c.args in
    sym (old_threshold z.self.model.lines z.self.model.levels z.self.bytes.now z.i (sym c.is_old.ensures ∙ c.if-is_old.true))

new : (c : Else-is_old) → let z = c.args in is_old z.self.model.lines z.self.model.levels z.self.bytes.now ≡ false
new c = sym c.is_old.ensures ∙ c.if-is_old.false

pub bounds-self-at : goal.bounds-self-at
bounds-self-at c =
    omega (arith, new_words c.args.self.laid_out (new (goal.at.bounds-self-at c).Else-is_old), c.args.self.laid_out.whole)

pub returns : goal.returns
returns c =
    let z = c.args in
    ap (λ (at : ℕ). get_or z.self.bytes.now (at + 1 + 2 * z.i) 0) c.kinds_at.ensures
    ∙ sym (new_threshold z.self.model.lines z.self.model.levels z.self.bytes.now z.i c.requires (new (goal.at.returns c).Else-is_old))
