-- Two reads that follow one another, into one buffer.
-- Assumes nothing.
use Rattle.std.specs.Prelude.{Option}
use Rattle.std.proofs.Common.{◌≡◌, ℕ, ◌+◌, ◌≤◌, List, ◌++◌, sym, ap, subst, ◌∙◌, length, take, length-take-le}
use lib.Seq.{take-append-add, take-append-le}
use borrow.Rule.Slice.PartMut.{put_mid, post_of}
use Rattle.std.specs.Io.KnownBytes.{Consumes}
use Rattle.std.proofs.KnownBytes.{Consumes-trans}

-- where `at` bytes were read already, a read of n more into the buffer's rest makes them `at + n`
pub filled_more : (a b c : Option (List ℕ)) (at k n : ℕ) (xs ys : List ℕ) → at ≤ length xs → n ≤ length ys → Consumes a b (take at xs)
    → Consumes b c (take n ys) → Consumes a c (take (at + n) (put_mid at k xs ys))
filled_more a b c at k n xs ys within fits before read =
    let long : length (take at xs) ≡ at = length-take-le at xs within in
    let front : take (at + n) (put_mid at k xs ys) ≡ take at xs ++ take n ys =
    ap (λ m. take (m + n) (put_mid at k xs ys)) (sym long) ∙ take-append-add (take at xs) (ys ++ post_of at k xs) n
    ∙ ap (λ l. take at xs ++ l) (take-append-le n ys (post_of at k xs) fits) in
    subst (Consumes a c) (sym front) (Consumes-trans a b c _ _ before read)
