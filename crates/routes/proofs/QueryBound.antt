-- The queries of a level are few: their number fits 64 bits.
-- Assumes nothing.
use mathlib.Core.List.{List}
use mathlib.Core.Path.{◌≡◌, ◌∙◌, ap}
use Prim.Native.Nat.{ℕ, zero, suc, ◌+◌, ◌*◌, ◌/◌, ◌^◌, ◌≤◌}
use native.Mathlib.Nat.{le_trans, mul-le-mul, mul-le-mul_right, add-mul, suc-mul, pow-succ', pow-le-pow_right}
use native.Mathlib.Omega.{arith}
use lib.Pow.{pow-add}
use Rattle.trees.specs.Tree.{leaves, IsTree}
use Rattle.trees.specs.Built.{built, leaf_count}
use Rattle.trees.proofs.Halves.{by_halves}
use Rattle.trees.proofs.Built.{leaf_none, leaf_zero, leaf_step, built_tree}
use Rattle.fixpoint.proofs.Levels.{levels_sum}
use Rattle.fixpoint.proofs.Queries.{queries_product}
use Rattle.system.specs.System.{System, sign}
use Rattle.routes.specs.Parts.{least_of, greatest_of, queries_from, LineCount, Lent}

-- L(n, h) is at most 64 ^ h for n up to 64

-- with at most c leaves to each child, S(n, h + 1) has at most n * c
by_children : (h c : ℕ) → ((n : ℕ) → n ≤ 64 → leaf_count n h ≤ c) → (n : ℕ) → n ≤ 64 → leaf_count n (suc h) ≤ n * c
by_children h c few =
    by_halves (λ (n : ℕ). n ≤ 64 → leaf_count n (suc h) ≤ n * c) (λ q. omega (arith, leaf_none (suc h)))
    (λ n first last q. omega (arith, leaf_step n h, first (omega arith), few (suc n) q, last (omega arith), split n))
  where
    split : (n : ℕ) → suc n * c ≡ suc n / 2 * c + (n / 2 * c + c)
    split n =
        let halves : suc n ≡ suc n / 2 + suc (n / 2) = omega arith in
        ap (λ (x : ℕ). x * c) halves ∙ add-mul (suc n / 2) (suc (n / 2)) c ∙ rw suc-mul

pub leaf_few : (h n : ℕ) → n ≤ 64 → leaf_count n h ≤ 64 ^ h
leaf_few zero zero q = omega (arith, leaf_none 0)
leaf_few zero (suc n) q = omega (arith, leaf_zero n)
leaf_few (suc h) n q =
    rw (pow-succ' 64 h) (le_trans (by_children h (64 ^ h) (leaf_few h) n q) (mul-le-mul_right (64 ^ h) q))

-- over built-in trees for up to 64 lines, at most 8 levels high together

pub product_few : {x y : ℕ} (h k : ℕ) → x ≤ 64 ^ h → y ≤ 64 ^ k → h + k ≤ 8 → x * y ≤ 64 ^ 8
product_few h k few few' low = le_trans (mul-le-mul few few') (rw (← (pow-add 64 h k)) (pow-le-pow_right {n = 64} (omega arith) {j = 8} low))

count_tree : (n h : ℕ) → LineCount n → IsTree h (built n h)
count_tree zero h z = absurd (omega arith)
count_tree (suc n) h z = built_tree n h

count_few : (n h : ℕ) → LineCount n → leaves (built n h) ≤ 64 ^ h
unfolding leaf_count
count_few zero h z = absurd (omega arith)
count_few (suc n) h z = leaf_few h (suc n) z.1

pub built_few : (s : System) (k p q : ℕ) → k ≤ 8 → LineCount p → LineCount q → queries_from s k (built p (least_of s k)) (built q (greatest_of s k)) ≤ 64 ^ 8
built_few s k p q h y z =
    let i = least_of s k in
    let j = greatest_of s k in
    rw (queries_product (sign s) k (built p i) (built q j) (count_tree p i y) (count_tree q j z))
    (product_few i j (count_few p i y) (count_few q j z) (omega (arith, levels_sum (sign s) k)))

-- over lent trees
pub lent_few : (s : System) (k : ℕ) (u v : List ℕ) → Lent (least_of s k) u → Lent (greatest_of s k) v → queries_from s k u v ≤ 1024 * 1024
lent_few s k u v y z =
    rw (queries_product (sign s) k u v y.tree z.tree) (mul-le-mul {n₂ = 1024} {m₂ = 1024} (omega arith) (omega arith))
