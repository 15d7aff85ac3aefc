-- The lines of a joined system: the words of each, and the bits of its operands, which are those of the line in its own system at its own arguments.
-- Assumes nothing.
use mathlib.Core.Bool.{Bool, true, false, cond}
use mathlib.Core.List.{List, [], ◌∷◌, ◌++◌, map}
use mathlib.Core.Path.{◌≡◌, refl, sym, ◌∙◌, ap, ap₂}
use Prim.Native.Nat.{ℕ, zero, suc, ◌+◌, ◌*◌, ◌^◌, ◌≤◌, ◌<◌}
use native.Mathlib.Nat.{add-suc, add-zero, zero-add, add-mul, mul-le-mul_right}
use native.Mathlib.Omega.{arith}
use lib.Bits.{or_zero_r}
use lib.ListN.{length, get_or, take, drop, length-drop, get_or-append}
use lib.Pow.{pow_pos, pow-add}
use lib.Seq.{take-append-le, drop-append-le, drop-append-add, get_or-append-add}
use Rattle.sets.specs.Set.{union}
use Rattle.sets.specs.SideBySide.{moved_up, side_by_side}
use Rattle.sets.proofs.SideBySide.{beside_join}
use Rattle.fixpoint.specs.Pairing.{sets_alongside, SetsBeside}
use Rattle.system.specs.System.{System, WellFormed}
use Rattle.system.specs.Query.{operands, words_of, set_of}
use Rattle.system.specs.Joined.{joined, Joinable}
use Rattle.system.proofs.Monotone.{set_below}
use Rattle.system.proofs.Formed.{line_words_below}
use Rattle.system.proofs.Selected.{operands_first, operands_second}

-- parts of a list that is mapped
module _ (f : ℕ → ℕ) where
  take_map : (n : ℕ) (l : List ℕ) → take n (map f l) ≡ map f (take n l)
  take_map zero l = refl
  take_map (suc n) [] = refl
  take_map (suc n) (x ∷ l) = ap (λ (r : List ℕ). f x ∷ r) (take_map n l)

  drop_map : (n : ℕ) (l : List ℕ) → drop n (map f l) ≡ map f (drop n l)
  drop_map zero l = refl
  drop_map (suc n) [] = refl
  drop_map (suc n) (x ∷ l) = drop_map n l

-- entries of two lists, one after the other, where the first has n of them
module _ (ks ls : List ℕ) {n : ℕ} (e : length ks ≡ n) where
  entry_first : (i : ℕ) → i < n → get_or (ks ++ ls) i 0 ≡ get_or ks i 0
  entry_first i h = get_or-append ks ls 0 i (omega arith)

  entry_second : (j : ℕ) → get_or (ks ++ ls) (n + j) 0 ≡ get_or ls j 0
  entry_second j = ap (λ (k : ℕ). get_or (ks ++ ls) (k + j) 0) (sym e) ∙ get_or-append-add ks ls j 0

-- the set of those of n₁ + n₂ lines of which p holds: of the first n₁, and behind it of the others
pub set_beside : (n₁ n₂ : ℕ) (p : ℕ → Bool) → set_of (n₁ + n₂) p ≡ side_by_side n₁ (set_of n₁ p) (set_of n₂ (λ j. p (n₁ + j)))
unfolding set_of
set_beside n₁ zero p = ap (λ (n : ℕ). set_of n p) (add-zero n₁) ∙ omega arith
set_beside n₁ (suc n₂) p =
    ap (λ (n : ℕ). set_of n p) (add-suc n₁ n₂)
    ∙ ap₂ union (set_beside n₁ n₂ p) (moved (p (n₁ + n₂)))
    ∙ beside_join n₁ (set_of n₁ p) 0 (set_of n₂ (λ j. p (n₁ + j))) (one n₂ (p (n₁ + n₂))) (set_below n₁ p) (pow_pos n₁)
    ∙ ap (λ (x : ℕ). side_by_side n₁ x (union (set_of n₂ (λ j. p (n₁ + j))) (one n₂ (p (n₁ + n₂))))) (or_zero_r (set_of n₁ p))
  where
    one : ℕ → Bool → ℕ
    one n t = cond t (2 ^ n) 0

    moved : (t : Bool) → one (n₁ + n₂) t ≡ side_by_side n₁ 0 (one n₂ t)
    moved true = pow-add 2 n₁ n₂ ∙ sym (zero-add (2 ^ n₁ * 2 ^ n₂))
    moved false = omega arith

module _ (m₁ m₂ : System) (W₁ : WellFormed m₁) (W₂ : WellFormed m₂) (J : Joinable m₁ m₂) where
  -- each line keeps its kind and its threshold, and so whatever goes by both
  pub line_first : {X : Type 0} (f : ℕ → ℕ → X) (i : ℕ) → i < m₁.lines
      → f (get_or (joined m₁ m₂).kinds i 0) (get_or (joined m₁ m₂).thresholds i 0) ≡ f (get_or m₁.kinds i 0) (get_or m₁.thresholds i 0)
  line_first f i h = ap₂ f (entry_first m₁.kinds m₂.kinds W₁.sliced.kinds_long i h) (entry_first m₁.thresholds m₂.thresholds W₁.sliced.thresholds_long i h)

  pub line_second : {X : Type 0} (f : ℕ → ℕ → X) (j : ℕ)
      → f (get_or (joined m₁ m₂).kinds (m₁.lines + j) 0) (get_or (joined m₁ m₂).thresholds (m₁.lines + j) 0) ≡ f (get_or m₂.kinds j 0) (get_or m₂.thresholds j 0)
  line_second f j = ap₂ f (entry_second m₁.kinds m₂.kinds W₁.sliced.kinds_long j) (entry_second m₁.thresholds m₂.thresholds W₁.sliced.thresholds_long j)

  -- a line of the first system keeps its words, those of a line of the second are moved up
  pub words_first : (i : ℕ) → i < m₁.lines → words_of (joined m₁ m₂) i ≡ words_of m₁ i
  words_first i h =
      let d : ℕ = m₁.levels in
      let fits : i * d + d ≤ length m₁.words = omega (arith, W₁.sliced.words_long, mul-le-mul_right d h) in
      ap (take d) (drop-append-le (i * d) m₁.words _ (omega arith))
      ∙ take-append-le d (drop (i * d) m₁.words) _ (rw (length-drop (i * d) m₁.words) (omega arith))

  pub words_second : (j : ℕ) → words_of (joined m₁ m₂) (m₁.lines + j) ≡ map (moved_up m₁.lines) (words_of m₂ j)
  words_second j =
      let d : ℕ = m₁.levels in
      let f : ℕ → ℕ = moved_up m₁.lines in
      let start : (m₁.lines + j) * d ≡ length m₁.words + j * d = add-mul m₁.lines j d ∙ ap (λ (n : ℕ). n + j * d) (sym W₁.sliced.words_long) in
      ap (λ (n : ℕ). take d (drop n (m₁.words ++ map f m₂.words))) start
      ∙ ap (take d) (drop-append-add m₁.words (map f m₂.words) (j * d) ∙ drop_map f (j * d) m₂.words)
      ∙ take_map f d (drop (j * d) m₂.words)
      ∙ ap (λ (d : ℕ). map f (take d (drop (j * d) m₂.words))) J.same_levels

  module _ {xs ys : List ℕ} (b : SetsBeside m₁.lines m₂.lines xs ys) where
    pub bits_first : (i : ℕ) → i < m₁.lines → operands (words_of (joined m₁ m₂) i) (sets_alongside m₁.lines xs ys) ≡ operands (words_of m₁ i) xs
    bits_first i h =
        ap (λ (ws : List ℕ). operands ws (sets_alongside m₁.lines xs ys)) (words_first i h)
        ∙ operands_first m₁.lines m₂.lines (line_words_below m₁ W₁ i) b

    pub bits_second : (j : ℕ) → operands (words_of (joined m₁ m₂) (m₁.lines + j)) (sets_alongside m₁.lines xs ys) ≡ operands (words_of m₂ j) ys
    bits_second j =
        ap (λ (ws : List ℕ). operands ws (sets_alongside m₁.lines xs ys)) (words_second j)
        ∙ operands_second m₁.lines m₂.lines J.few_lines (line_words_below m₂ W₂ j) b
