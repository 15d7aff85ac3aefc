-- The kind that a byte of a file says, as the value of a line goes by it: 0 any, 1 all, and else a vote.
-- Assumes nothing.
use Rattle.std.specs.Prelude.{ℕ, zero, suc}
use Rattle.model.specs.declared.kind.Kind.{Kind}
use Rattle.model.specs.declared.kind.Kind.TheVariants.{Any, All, Vote}

abbrev pub kind_of : ℕ → Kind
kind_of zero = Any
kind_of (suc zero) = All
kind_of (suc (suc k)) = Vote
