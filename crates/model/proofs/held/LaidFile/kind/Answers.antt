-- `model::held::LaidFile::kind` meets its contract: the kinds stand one byte apart in an old file, two in a new one.
-- Assumes nothing.
use mathlib.Core.Path.{◌≡◌, sym, ◌∙◌, ap, ap₂}
use Prim.Native.Nat.{ℕ, ◌+◌, ◌*◌, ◌<◌}
use native.Mathlib.Omega.{arith}
use lib.ListN.{length, get_or}
use Rattle.model.specs.File.{kinds_at, is_old, line_bytes}
use Rattle.model.proofs.Places.{line_kind, kind-room}
use Rattle.model.proofs.held.LaidFile.kind.Goals as goal
use Rattle.model.proofs.held.LaidFile.kind.Goals.{After-line_bytes}

-- where it stands
place : (c : After-line_bytes) →
    let z = c.args in
    c.kinds_at.result + c.line_bytes.result * z.i ≡ kinds_at z.self.model.levels + line_bytes (is_old z.self.model.lines z.self.model.levels z.self.bytes.now) * z.i
place c = ap₂ (λ (at step : ℕ). at + step * c.args.i) c.kinds_at.ensures c.line_bytes.ensures

inside : (c : After-line_bytes) → c.kinds_at.result + c.line_bytes.result * c.args.i < length c.args.self.bytes.now
inside c = rw (place c) (kind-room c.args.self.bytes.now c.args.self.model c.args.i c.args.self.laid_out c.requires)

pub overflow_mul-at : goal.overflow_mul-at
overflow_mul-at c = omega (arith, inside (goal.at.overflow_mul-at c).After-line_bytes)

pub overflow_add-at : goal.overflow_add-at
overflow_add-at c = omega (arith, inside (goal.at.overflow_add-at c).After-line_bytes)

pub bounds-self-at : goal.bounds-self-at
bounds-self-at c = inside (goal.at.bounds-self-at c).After-line_bytes

pub returns : goal.returns
returns c =
    let z = c.args in
    ap (λ (at : ℕ). get_or z.self.bytes.now at 0) (place (goal.at.returns c).After-line_bytes) ∙ sym (line_kind z.self.model.lines z.self.model.levels z.self.bytes.now z.i c.requires)
