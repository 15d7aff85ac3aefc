-- A model in use: what the three judgings of it give.
-- Assumes nothing.
use Rattle.std.specs.Prelude.{Option, List, ◌≡◌, ℕ}
use Rattle.system.specs.System.{System}
use Rattle.model.specs.File.{lines_in, levels_in}
use Rattle.model.specs.declared.held.HeldFile.{HeldFile}
use Rattle.routes.specs.Parts.{Lent, Gives}
use Rattle.plain_route.specs.Under.{under}
use Rattle.routes.specs.Routes.{least_levels, greatest_levels, built_least, built_greatest, plain_run, restricted_set, restricted_count}
use Rattle.routes.specs.declared.shared.Found.{Found}
use Rattle.plain_route.specs.declared.Settled.{Settled}

-- the counts of a file at hand are the file's own
abbrev pub ItsCounts : HeldFile → Type 0
ItsCounts file = (file.model.lines ≡ lines_in file.bytes.now) × (file.model.levels ≡ levels_in file.bytes.now)

-- the outcome of the plain route under a ceiling
abbrev pub PlainIs : System → ℕ → ℕ → ℕ → Option Settled → Type 0
PlainIs s a b ceiling r = r ≡ under ceiling (plain_run s a b)

-- the restricted set over two trees, with its queries
abbrev pub LentIs : System → ℕ → ℕ → List ℕ → List ℕ → Found → Type 0
LentIs s a b u v r = Gives r (restricted_set s a b u v) (restricted_count s u v)

-- the same over the built-in trees for the system's lines
abbrev pub BuiltIs : System → ℕ → ℕ → Found → Type 0
BuiltIs s a b r = LentIs s a b (built_least s s.lines) (built_greatest s s.lines) r

-- trees that may be lent: as high as the system's least and greatest levels, and not too long
pub record Fitting (s : System) (hu : ℕ) (u : List ℕ) (hv : ℕ) (v : List ℕ) : Type 0 where
  pub least : hu ≡ least_levels s
  pub first : Lent hu u
  pub greatest : hv ≡ greatest_levels s
  pub second : Lent hv v
