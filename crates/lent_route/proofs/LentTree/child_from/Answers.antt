-- `lent_route::LentTree::child_from` meets its contract: cut at its first gap of its height, what is left of a lent tree gives a tree one lower.
-- Assumes nothing.
use Rattle.std.proofs.Common.{◌≡◌, suc, ◌-◌, arith}
use Rattle.lists.proofs.Front.{rest_whole}
use Rattle.lent_route.proofs.FirstChild.{rest_lent, front_lent}
use Rattle.lent_route.proofs.LentTree.child_from.Goals as goal

pub invariant_of-result : goal.invariant_of-result
invariant_of-result c =
    let z = c.args in
    let gaps = z.self.gaps.now in
    let higher : z.self.height ≡ suc (z.self.height - 1) = omega (arith, c.requires.0) in
    record { lent = rw (rest_whole gaps z.from) (front_lent _ c.first_gap-cut.result higher (rest_lent gaps z.from z.self.lent) (rw (rest_whole gaps z.from) at c.first_gap-cut.ensures.before)) }
