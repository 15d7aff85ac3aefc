-- `one_sided_leaves::arguments::find_arguments` meets its contract. The loop's invariant: the levels passed have their arguments, and the blocks of the
-- others are those of `start` and `last`.
-- Assumes nothing.
use Rattle.system.specs.System.{sign}
use Rattle.model.specs.Files.{held_system}
use Rattle.one_sided_leaves.proofs.Blocks.{Nested}
use Rattle.one_sided_leaves.proofs.arguments.find_arguments.Given as goal

abbrev pub invariant-loop-k : goal.invariant-loop-k
invariant-loop-k l = Nested (sign (held_system l.file)) l.v l.i l.args l.start l.last l.height l.k
