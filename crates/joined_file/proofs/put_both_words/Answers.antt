-- `joined_file::put_both_words` meets its contract: the second file's words are put behind those of the first, which are moved up by nothing.
-- Assumes nothing.
use mathlib.Core.List.{List, [], ◌∷◌, ◌++◌, map}
use mathlib.Core.Path.{◌≡◌, refl, sym, ◌∙◌, ap, ap₂}
use Prim.Native.Nat.{ℕ, ◌+◌, ◌*◌}
use native.Mathlib.Nat.{one-mul, add-mul}
use native.Mathlib.Omega.{arith}
use lib.ListN.{length, drop, length-map}
use Rattle.sets.specs.SideBySide.{moved_up}
use Rattle.model.specs.Files.{laid_system}
use Rattle.numbers.specs.Numbers.{word_bytes}
use Rattle.numbers.proofs.Codec.{words_length, word_bytes_length, word_bytes_append}
use Rattle.lists.proofs.Front.{front_part}
use Rattle.joined_file.proofs.put_both_words.Goals as goal

-- words moved up by no line stay
moved_none : (ws : List ℕ) → map (moved_up 0) ws ≡ ws
moved_none [] = refl
moved_none (w ∷ ws) = ap₂ ◌∷◌ (one-mul w) (moved_none ws)

pub returns : goal.returns
returns c =
    let s = c.args.s.now in
    let m = c.args.first.model in
    let k = c.args.second.model in
    let n = m.lines * m.levels in
    let all = 8 * ((m.lines + k.lines) * m.levels) in
    let words = (laid_system c.args.first).words in
    let moved = map (moved_up m.lines) (laid_system c.args.second).words in
    let written : length (word_bytes (map (moved_up 0) words)) ≡ 8 * n = word_bytes_length (map (moved_up 0) words) ∙ ap (λ (j : ℕ). 8 * j) (length-map words (moved_up 0) ∙ words_length _ _) in
    let end : 8 * n + 8 * (k.lines * k.levels) ≡ all = omega (arith, ap (λ (d : ℕ). k.lines * d) c.requires.at_hand.same_levels, add-mul m.lines k.lines m.levels) in
    front_part (word_bytes (map (moved_up 0) words)) (word_bytes moved) s _ _ (8 * n) (8 * (k.lines * k.levels)) all written end
    c.put_moved_words.ensures c.put_moved_words-2.ensures
    ∙ ap (λ (r : List ℕ). r ++ drop all s) (ap (λ (ws : List ℕ). word_bytes ws ++ word_bytes moved) (moved_none words) ∙ sym (word_bytes_append words moved))
