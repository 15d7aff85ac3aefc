-- Little-endian numbers: a number is its first bytes and, so many bytes higher, the rest of them.
-- Assumes nothing.
use mathlib.Core.List.{List, [], ◌∷◌, ◌++◌}
use mathlib.Core.Path.{◌≡◌, sym, ◌∙◌, ap}
use Prim.Native.Nat.{ℕ, zero, suc, ◌+◌, ◌*◌, ◌^◌, ◌≤◌, ◌<◌}
use native.Mathlib.Nat.{zero-add, mul_assoc, mul_comm, one-mul, pow-suc}
use native.Mathlib.Numerals.{add-one}
use native.Mathlib.Omega.{arith}
use lib.ListN.{length, get_or, take, drop, length-drop}
use lib.Seq.{take_all, take-add, drop-drop, drop-cons, length-take-le}
use Rattle.std.specs.Int.{byte_worth, sum_through}
use Rattle.numbers.specs.Numbers.{little, number_at}

pub little_append : (xs ys : List ℕ) → little (xs ++ ys) ≡ little xs + 256 ^ length xs * little ys
unfolding little
little_append [] ys = omega (arith, one-mul (little ys))
little_append (x ∷ xs) ys =
    omega (
      arith,
      little_append xs ys,
      ap (λ (p : ℕ). p * little ys) (pow-suc 256 (length xs)),
      ap (λ (p : ℕ). p * little ys) (mul_comm (256 ^ length xs) 256),
      mul_assoc 256 (256 ^ length xs) (little ys),
    )

-- the j + k bytes at an offset
pub number_split : (s : List ℕ) (at j k : ℕ) → at + j ≤ length s → number_at s at (j + k) ≡ number_at s at j + 256 ^ j * number_at s (at + j) k
number_split s at j k h =
    ap little (take-add j k (drop at s)) ∙ little_append (take j (drop at s)) (take k (drop j (drop at s)))
    ∙ rw (length-take-le j (drop at s) (omega (arith, length-drop at s)), drop-drop j at s)

-- one byte
pub number_one : (s : List ℕ) (at : ℕ) → at < length s → number_at s at 1 ≡ get_or s at 0
unfolding little
number_one s at h = rw (drop-cons s at 0 h) (omega arith)

-- bytes added up, each as much as it is worth at its place, are the number that they say
worth_sum : (bs : List ℕ) (k : ℕ) → k < length bs → sum_through (λ i. byte_worth i (get_or bs i 0)) k ≡ number_at bs 0 (suc k)
worth_sum bs zero h = sym (number_one bs 0 h)
worth_sum bs (suc k) h =
    let split : number_at bs 0 (suc (suc k)) ≡ number_at bs 0 (suc k) + 256 ^ suc k * number_at bs (0 + suc k) 1 = ap (number_at bs 0) (sym (add-one (suc k))) ∙ number_split bs 0 (suc k) 1 (omega arith) in
    let last : number_at bs (0 + suc k) 1 ≡ get_or bs (suc k) 0 = rw zero-add (number_one bs (suc k) h) in
    omega (
      arith,
      worth_sum bs k (omega arith),
      split,
      ap (λ (x : ℕ). 256 ^ suc k * x) last,
      mul_comm (256 ^ suc k) (get_or bs (suc k) 0),
    )

-- the same of bytes that were copied from an offset on
pub copied_number : (s bytes : List ℕ) (at k : ℕ) → at + suc k ≤ length s → bytes ≡ take (suc k) (drop at s)
    → sum_through (λ i. byte_worth i (get_or bytes i 0)) k ≡ number_at s at (suc k)
copied_number s bytes at k h is =
    let long : length bytes ≡ suc k = ap length is ∙ length-take-le (suc k) (drop at s) (omega (arith, length-drop at s)) in
    worth_sum bytes k (omega arith) ∙ ap little (take_all (suc k) bytes (omega arith) ∙ is)
