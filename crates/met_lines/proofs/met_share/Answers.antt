-- `met_lines::met_share` meets its contract: the two numbers are those of the good lines that can be met and of all that can.
-- Assumes nothing.
use mathlib.Core.Path.{◌∙◌, ap, ap₂}
use Prim.Native.Nat.{ℕ}
use Rattle.sets.specs.Set.{intersection, members}
use Rattle.share.specs.Share.{share_of}
use Rattle.met_lines.specs.MetLines.{met_share}
use Rattle.met_lines.proofs.met_share.Goals as goal

pub returns : goal.returns
unfolding met_share
returns c =
    c.share_of.ensures
    ∙ ap₂ share_of c.member_count.ensures c.member_count-2.ensures
    ∙ ap (λ (x : ℕ). share_of (members (intersection c.args.good x)) (members x)) c.met_lines-met.ensures
