-- `writer::one_misfits` meets its contract: `any` over the numbers below the number of lines is the search of the contract.
-- Assumes nothing.
use Rattle.std.proofs.Common.{◌≡◌, ℕ, [], Bool, length, get_or, refl, ◌∙◌, ap, arith, zero-add}
use Rattle.std.specs.List.{list_any, range_with_len}
use Rattle.std.proofs.lemmas.Grind.{common_steps}
use Rattle.std.proofs.lemmas.Iterator.{YieldsList-from_range}
use Rattle.std.proofs.lemmas.Iterator.Search.{any_from_yields_List}
use Rattle.std.proofs.lemmas.List.FromFn.{length-range_with_len, get_or-range_with_len}
use Rattle.system.specs.System.{system_of}
use Rattle.model.specs.Checks.{some_below, threshold_misfits}
use Rattle.model.proofs.Searches.{some_index, below_same}
use Rattle.writer.proofs.one_misfits.Goals as goal

-- a search of the first n numbers
any_below : (p : ℕ → Bool) (n : ℕ) → list_any p (range_with_len 0 n) ≡ some_below n p
any_below p n =
    let all = range_with_len 0 n in
    some_index p all ∙ ap (λ (k : ℕ). some_below k (λ i. p (get_or all i 0))) (length-range_with_len 0 n)
    ∙ below_same (λ i. p (get_or all i 0)) p n (λ i l. ap p (get_or-range_with_len 0 n i 0 l ∙ zero-add i))

pub returns : goal.returns
returns c =
    let n = length c.args.kinds.now in
    let test = threshold_misfits (system_of n c.args.d [] c.args.kinds.now c.args.thresholds.now c.args.words.now) in
    any_from_yields_List test _ _ _ c.any.ensures.ran (YieldsList-from_range 0 n n refl (omega arith)) (λ x b q k. grind (arith, common_steps, k))
    ∙ any_below test n
