-- `writer::operand_count` meets its contract: the sum is the recursion that counts.
-- Assumes nothing.
use Rattle.std.proofs.Common.{◌≡◌, refl, sym, ◌∙◌, rules}
use Rattle.std.specs.List.{sum_by}
use Rattle.std.proofs.lemmas.List.Recursion.{is_sum_by}
use Rattle.sets.specs.Set.{members}
use Rattle.system.specs.Query.{operand_count}
use Rattle.writer.proofs.operand_count.Goals as goal

pub returns : goal.returns
returns c =
    let words = c.args.words.now in
    let by_sum : c.sum.result ≡ sum_by members words = search rules in
    by_sum ∙ sym (is_sum_by operand_count members refl (λ _ _. refl) words)
