-- Every row of the table of samples holds, by computing the definitions.
-- Assumes nothing.
use mathlib.Core.Path.{refl}
use lib.Count.{ones}
use Rattle.sets.specs.Extreme.{meet_pre_fixed, join_post_fixed}
use Rattle.trees.specs.Tree.{children, grow}
use Rattle.trees.specs.Built.{built, halved_children, leaf_count}
use Rattle.fixpoint.specs.Levels.{least_among, greatest_among}
use Rattle.fixpoint.specs.Nested.{nested, extreme}
use Rattle.fixpoint.specs.Restricted.{restricted, level, rise, fall, sum_over, level_queries, restricted_queries}
use Rattle.fixpoint.specs.Plain.{then_rounds, settle, plain}
use Rattle.system.specs.Query.{selected, operands, set_of, query}
use Rattle.share.specs.Rounding.{rounded}
use Rattle.reach.specs.Search.{successors, rounds}
use Rattle.met_lines.specs.MetLines.{union_of, met_lines, met_share}
use Rattle.text.specs.Text.{digits, places}
use Rattle.page_layout.specs.Page.{rows_of, page}
use Rattle.one_sided.specs.OneSided.{descend, one_level, one_sided}
use Rattle.one_sided.specs.Equations.{in_turn, generate_level, generate}
use Rattle.one_sided.specs.Stages.{any_changed, alike, stage, due_among, stages, run}
use Rattle.samples.specs.Table.{table, Holds}

pub samples_hold : Holds table
unfolding table nested extreme restricted level rise fall sum_over level_queries restricted_queries then_rounds settle plain least_among greatest_among built halved_children leaf_count grow children meet_pre_fixed join_post_fixed selected operands set_of query ones digits places rounded successors rounds union_of met_lines met_share rows_of page descend one_level one_sided in_turn generate_level generate any_changed alike stage due_among stages run
samples_hold = (refl, (refl, (refl, (refl, (refl, (refl, (refl, (refl, (refl, (refl, (refl, (refl, (refl, (refl, (refl, (refl, (refl, (refl, (refl, (refl, (refl, (refl, (refl, (refl, (refl, (refl, (refl, (refl, (refl, (refl, (refl, (refl, (refl, (refl, (refl, (refl, (refl, tt)))))))))))))))))))))))))))))))))))))
