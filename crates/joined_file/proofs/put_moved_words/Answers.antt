use mathlib.Core.List.{List, ◌++◌, map}
use mathlib.Core.Path.{◌≡◌, refl, sym, ◌∙◌, ap, subst}
use Prim.Native.Nat.{ℕ, ◌+◌, ◌*◌, ◌%◌, ◌^◌, ◌≤◌, ◌<◌}
use native.Mathlib.Nat.{mul-zero, mul_comm, mul-le-mul_right, mod-eq_of_lt, lt_of_lt_of_le}
use native.Mathlib.Omega.{arith}
use lib.ListN.{length, get_or, drop, length-map, get_or-map}
use lib.Pow.{pow_pos, pow-add, pow_mono}
use lib.Seq.{drop-drop}
use Rattle.sets.specs.SideBySide.{moved_up}
use Rattle.numbers.specs.Numbers.{number_at, words_from, word_bytes}
use Rattle.numbers.proofs.Codec.{words_length, word_at, word_stored}
use Rattle.lists.proofs.Front.{front_all}
use Rattle.lists.proofs.Below.{below_at}
use Rattle.joined_file.proofs.put_moved_words.Invariants.{moved}
use Rattle.joined_file.proofs.put_moved_words.Goals as goal
use Rattle.joined_file.proofs.put_moved_words.Goals.{In-loop-j}

-- word j of the file, and moved up
word_here : (file : List ℕ) (first count j : ℕ) → j < count → get_or (words_from count (drop first file)) j 0 ≡ number_at file (first + 8 * j) 8
word_here file first count j h = word_at count (drop first file) j h ∙ rw (drop-drop (8 * j) first file)

moved_here : (file : List ℕ) (up first count j : ℕ) → j < count → get_or (moved file up first count) j 0 ≡ moved_up up (number_at file (first + 8 * j) 8)
moved_here file up first count j h =
    let words = words_from count (drop first file) in
    ap (get_or (map (moved_up up) words) j) (sym (mul-zero (2 ^ up))) ∙ get_or-map (moved_up up) words j 0 ∙ ap (moved_up up) (word_here file first count j h)

-- a word of n lines that is shifted within 64 bits
shifted : (n up w : ℕ) → w < 2 ^ n → up + n ≤ 64 → w * 2 ^ up % 2 ^ 64 ≡ moved_up up w
shifted n up w h few =
    let high : w * 2 ^ up < 2 ^ (up + n) = omega (arith, mul-le-mul_right (2 ^ up) h, pow-add 2 up n, mul_comm (2 ^ up) (2 ^ n), pow_pos up) in
    mod-eq_of_lt (lt_of_lt_of_le high (pow_mono few)) ∙ mul_comm w (2 ^ up)

pub loop-j-init : goal.loop-j-init
unfolding word_bytes
loop-j-init c = refl

pub loop-j-preserved : goal.loop-j-preserved
loop-j-preserved c =
    let file = c.args.file.bytes.now in
    let up = c.args.up in
    let first = c.words_in-first.result in
    let n = c.args.file.model.lines in
    let count = n * c.args.file.model.levels in
    let j = c.loop-j.j in
    let inside : j < count = c.loop-j-test.true in
    let words = moved file up first count in
    let many : length words ≡ count = length-map (words_from count (drop first file)) (moved_up up) ∙ words_length count (drop first file) in
    let read = c.u64_at-word in
    let low : read.result < 2 ^ n =
    subst (λ (w : ℕ). w < 2 ^ n)
    (ap (λ (at : ℕ). get_or (words_from count (drop at file)) j 0) (sym c.words_in-first.ensures) ∙ word_here file first count j inside ∙ sym read.ensures)
    (below_at c.requires.all_below j (rw words_length inside)) in
    let value : read.result * 2 ^ up % 2 ^ 64 ≡ get_or words j 0 =
    shifted n up read.result low c.requires.up_bound.1 ∙ ap (moved_up up) read.ensures ∙ sym (moved_here file up first count j inside) in
    let next : 8 * j + 8 ≡ 8 * (j + 1) = omega arith in
    word_stored words c.args.s.now c.loop-j.s _ j (8 * j) _ (omega arith) refl value c.loop-j.invariant c.put_number.ensures ∙ rw next

pub returns : goal.returns
returns c =
    let file = c.args.file.bytes.now in
    let up = c.args.up in
    let first = c.words_in-first.result in
    let count = c.args.file.model.lines * c.args.file.model.levels in
    let words = moved file up first count in
    let many : length words ≡ count = length-map (words_from count (drop first file)) (moved_up up) ∙ words_length count (drop first file) in
    let all : c.loop-j.j ≡ length words = omega arith in
    let end : 8 * c.loop-j.j ≡ 8 * count = omega arith in
    front_all word_bytes words c.args.s.now all end c.loop-j.invariant
    ∙ ap (λ (at : ℕ). word_bytes (moved file up at count) ++ drop (8 * count) c.args.s.now) c.words_in-first.ensures
