-- `model::held::HeldFile::is_greatest` meets its contract: the signs begin at 16.
-- Assumes nothing.
use mathlib.Core.List.{List}
use mathlib.Core.Path.{◌≡◌, sym, ◌∙◌, ap}
use Prim.Native.Nat.{ℕ, ◌+◌, ◌<◌}
use lib.Dec.{eqb}
use lib.ListN.{get_or, drop}
use lib.Seq.{get_or-take, get_or-drop}
use Rattle.system.specs.System.{sign}
use Rattle.model.specs.Held.{system_in}
use Rattle.model.specs.declared.layout.Model.{Model}
use Rattle.model.proofs.held.HeldFile.is_greatest.Goals as goal

sign_at : (file : List ℕ) (m : Model) (k : ℕ) → k < m.levels → eqb (get_or file (16 + k) 0) 1 ≡ sign (system_in file m) k
sign_at file m k h = ap (λ (x : ℕ). eqb x 1) (sym (get_or-take m.levels (drop 16 file) k 0 h ∙ get_or-drop 16 file k 0))

pub returns : goal.returns
returns c = sign_at c.args.self.bytes.now c.args.self.model c.args.k c.requires
