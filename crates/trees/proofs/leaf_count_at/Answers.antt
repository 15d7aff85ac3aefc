-- `trees::leaf_count_at` meets its contract: antt computes that each of the table's numbers follows the recurrence, and so it is the leaf count.
-- Heights 0 and 1, which have no numbers in the table, go by laws of the leaf count.
-- Assumes nothing.
use mathlib.Core.List.{List}
use mathlib.Core.Path.{◌≡◌, sym, ◌∙◌, ap}
use Prim.Native.Nat.{ℕ, zero, suc, ◌+◌, ◌-◌, ◌*◌, ◌^◌, ◌<◌, ◌≤◌}
use native.Mathlib.Omega.{arith}
use lib.Dec.{T, ltb, ltb→lt}
use borrow.Author.Rules.{rules}
use lib.ListN.{length, get_or}
use mir.Syntax.{w64}
use mir.Val.{Fits}
use Rattle.trees.specs.Built.{leaf_count}
use Rattle.trees.proofs.Built.{leaf_none, leaf_zero, leaf_one}
use Rattle.trees.proofs.Every.{every, at}
use Rattle.trees.proofs.Counts.{follows, entry_count}
use Rattle.trees.proofs.leaf_count_at.Goals as goal

-- each number of a table that passes this test fits
number_fits : (table : List ℕ) (k : ℕ) → T (every (λ i x. ltb x (2 ^ 64)) 0 table) → k < length table → Fits w64 (get_or table k 0)
number_fits table k t l = record { fits = ltb→lt _ _ (at (λ i x. ltb x (2 ^ 64)) table t k l) }

pub overflow_cast-result : goal.overflow_cast-result
overflow_cast-result c = search (rules, number_fits)

-- the number for height h in a table that follows the recurrence
number_count : (table : List ℕ) (n h : ℕ) → T (every (follows table) 0 table) → 1 < h → n ≤ 64 → (h - 2) * 65 + n < length table → get_or table ((h - 2) * 65 + n) 0 ≡ leaf_count n h
number_count table n h t high few l =
    entry_count table t (h - 2) n few l ∙ ap (leaf_count n) (omega arith)

pub returns-then-h-gt1 : goal.returns-then-h-gt1
returns-then-h-gt1 c = search (rules, number_count)

pub returns-then-h-eq1 : goal.returns-then-h-eq1
returns-then-h-eq1 c =
    let e : c.args.h ≡ 1 = omega (arith, c.if-h-eq1.true) in
    rw e (sym (leaf_one c.args.n))

pub returns-then-n-eq0 : goal.returns-then-n-eq0
returns-then-n-eq0 c =
    let e : c.args.n ≡ 0 = omega (arith, c.if-n-eq0.true) in
    rw e (sym (leaf_none c.args.h))

-- a tree of height 0 is one leaf
height_0 : (n h : ℕ) → 0 < n → h ≡ 0 → 1 ≡ leaf_count n h
height_0 zero h some e = absurd (omega arith)
height_0 (suc n) h some e = rw e (sym (leaf_zero n))

pub returns : goal.returns
returns c =
    height_0 c.args.n c.args.h (omega (arith, c.if-n-eq0.false))
    (omega (arith, c.if-h-gt1.false, c.if-h-eq1.false))
