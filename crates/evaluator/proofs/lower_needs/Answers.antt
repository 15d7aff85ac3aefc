use mathlib.Core.Bool.{Bool, true, false, cond}
use mathlib.Core.List.{List, [], ◌∷◌}
use mathlib.Core.Path.{◌≡◌, refl, sym, ◌∙◌, ap, ap₂}
use Prim.Native.Nat.{ℕ, zero, suc, ◌-◌, ◌*◌, ◌≤◌}
use native.Mathlib.Omega.{arith}
use lib.Bits.{and_lt}
use lib.Count.{count_trailing_zeros, ones-le}
use lib.ListN.{length, get_or, set}
use lib.Seq.{get_or-set_other}
use Rattle.sets.specs.Set.{is_member}
use Rattle.system.specs.Query.{count_set}
use Rattle.sets.proofs.PassedLines.{passed_all, unpassed, passed_more}
use Rattle.evaluator.proofs.LookedLines.{masked, count_masked, Looked, looked, in_lines}
use Rattle.evaluator.proofs.lower_needs.Goals as goal
use Rattle.evaluator.proofs.lower_needs.Goals.{After-member_count-count, In-loop-rest}

-- the line that is looked at
at_line : (c : In-loop-rest) →
    let z = c.args in
    let rest = c.loop-rest.rest in
    Looked (length z.file.bytes.now) z.file.model.lines c.level_words-at.result (8 * z.file.model.levels) rest (count_trailing_zeros 64 rest)
at_line c =
    looked c.args.file.held.laid_out c.requires.0 c.level_words-at.ensures refl c.requires.1 c.loop-rest.rest c.loop-rest.invariant.few c.loop-rest-test.true

pub u64_at-requires : goal.u64_at-requires
u64_at-requires c = (at_line (goal.at.u64_at-requires c).In-loop-rest).room

-- a word has at most 64 lines
few : (c : After-member_count-count) → c.member_count-count.result ≤ 64
few c = rw c.member_count-count.ensures (ones-le 64 _ (and_lt 64 c.u64_at.result _ (omega arith) (omega arith)))

-- the count is that of the line's operands that are set
counted : (c : After-member_count-count) →
    let z = c.args in
    c.member_count-count.result
    ≡ count_set (masked z.file.bytes.now c.level_words-at.result (8 * z.file.model.levels) z.x (count_trailing_zeros 64 c.loop-rest.rest))
counted c =
    let z = c.args in
    c.member_count-count.ensures
    ∙ sym (count_masked z.file.bytes.now c.level_words-at.result (8 * z.file.model.levels) z.x (count_trailing_zeros 64 c.loop-rest.rest)
    c.u64_at.result c.u64_at.ensures (omega arith) (omega arith))

-- an entry that is put back less by n is that much less, be it there or not
set_less : (s : List ℕ) (i n : ℕ) → get_or (set s i (get_or s i 0 - n)) i 0 ≡ get_or s i 0 - n
set_less [] i n = omega arith
set_less (x ∷ s) zero n = refl
set_less (x ∷ s) (suc i) n = set_less s i n

pub loop-rest-preserved : goal.loop-rest-preserved
loop-rest-preserved c =
    let l = c.loop-rest in
    let t = count_trailing_zeros 64 l.rest in
    let low = (at_line (goal.at.loop-rest-preserved c).In-loop-rest).low in
    passed_more _ _ _ low l.invariant
    (rw c.saturating_sub.ensures (set_less l.row t _) ∙ ap₂ ◌-◌ (unpassed _ _ _ low l.invariant) (counted (goal.at.loop-rest-preserved c).After-member_count-count))
    (λ i ne. get_or-set_other l.row t i _ 0 ne)

less : (s : Bool) (k n : ℕ) → cond s (n - k) n ≡ n - cond s k 0
less true k n = refl
less false k n = omega arith

pub returns : goal.returns
returns c = λ i.
    let z = c.args in
    let l = c.loop-rest in
    let end : l.rest ≡ 0 = c.loop-rest-test.false in
    passed_all _ _ _ (rw end at l.invariant) i ∙ less (is_member z.lines i) _ (get_or z.needs.now i 0)
    ∙ ap (λ (k : ℕ). get_or z.needs.now i 0 - k) (in_lines c.args.file.held.laid_out c.requires.0 c.level_words-at.ensures refl c.requires.1 z.x i (λ t bits. cond t (count_set bits) 0) (λ bs cs. refl))
