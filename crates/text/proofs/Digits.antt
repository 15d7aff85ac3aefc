-- Digits: as many as are asked for, put from the last to the first; how long a number and its line are at most; and texts put one behind the other
-- are one text.
-- Assumes nothing.
use mathlib.Core.Bool.{Bool, true, false, cond}
use mathlib.Core.List.{List, [], ◌∷◌, ◌++◌, append_assoc}
use mathlib.Core.Path.{◌≡◌, refl, sym, ◌∙◌, ap, ap₂}
use Prim.Native.Nat.{ℕ, zero, suc, ◌+◌, ◌/◌, ◌%◌, ◌^◌, ◌≤◌, ◌<◌}
use native.Mathlib.Nat.{add-zero, pow-suc, div-lt_iff_lt-mul}
use native.Mathlib.Omega.{arith}
use lib.Dec.{ltb, lit<}
use borrow.Author.Tests.{lt-ltb}
use lib.ListN.{length, set, take, drop, length-append, length-set, take-append-drop}
use lib.Seq.{take-length, drop-drop, paste, take-paste, drop-paste}
use Rattle.lists.proofs.Front.{back_store}
use Rattle.text.specs.Text.{digit, digits, places, decimal, hex, number_line, refused_word, behind_number, refused_line, text_or_refused, pasted, Puts}

pub digits_length : (base k x : ℕ) → length (digits base k x) ≡ k
unfolding digits
digits_length base zero x = refl
digits_length base (suc k) x = omega (arith, length-append (digits base k (x / base)) (digit (x % base) ∷ []), digits_length base k (x / base))

module _ (at : ℕ) (s l : List ℕ) where
  -- a text is put as a copy puts all of it
  pasted_copy : pasted at s l ≡ paste l at s (length s)
  pasted_copy = rw take-length (sym (append_assoc (take at l) s (drop (at + length s) l)))

  -- a text, and behind it another
  pub pasted_twice : at ≤ length l → (t : List ℕ) → pasted (at + length s) t (pasted at s l) ≡ pasted at (s ++ t) l
  pasted_twice h t =
      let end : at + length s + length t ≡ at + length (s ++ t) = omega (arith, length-append s t) in
      ap (pasted (at + length s) t) pasted_copy
      ∙ ap₂ (λ (x y : List ℕ). x ++ (t ++ y)) (take-paste l at s (length s) h (omega arith) ∙ ap (λ (x : List ℕ). take at l ++ x) (take-length s))
      (sym (drop-drop (length t) (at + length s) (paste l at s (length s)))
      ∙ ap (drop (length t)) (drop-paste l at s (length s) h (omega arith)) ∙ drop-drop (length t) (at + length s) l ∙ ap (λ (n : ℕ). drop n l) end)
      ∙ simp append_assoc

-- Putting k digits from the last to the first: those to come, of what is left of the number, and those put already are all of them.
pub record Filling (out₀ : List ℕ) (at base k x : ℕ) (out : List ℕ) (rest i : ℕ) : Type 0 where
  pub put : List ℕ
  pub whole : digits base k x ≡ digits base i rest ++ put
  pub held : out ≡ take (at + i) out₀ ++ (put ++ drop (at + k) out₀)
  pub long : length out ≡ length out₀

module _ (out₀ : List ℕ) (at base k x : ℕ) where
  pub filling_step : {out : List ℕ} {rest : ℕ} (i j : ℕ) → i ≡ suc j → i ≤ k → at + k ≤ length out₀ → Filling out₀ at base k x out rest i → (v : ℕ) → v ≡ digit (rest % base)
      → Filling out₀ at base k x (set out (at + j) v) (rest / base) j
  unfolding digits
  filling_step {out} {rest} i j e few fits f v q =
      let next : at + i ≡ suc (at + j) = omega arith in
      record {
        put = v ∷ f.put;
        whole = f.whole ∙ ap (λ (n : ℕ). digits base n rest ++ f.put) e ∙ append_assoc (digits base j (rest / base)) (digit (rest % base) ∷ []) f.put
            ∙ ap (λ (d : ℕ). digits base j (rest / base) ++ d ∷ f.put) (sym q);
        held = back_store out₀ out (f.put ++ drop (at + k) out₀) (at + j) v (omega arith)
            (f.held ∙ ap (λ (n : ℕ). take n out₀ ++ (f.put ++ drop (at + k) out₀)) next);
        long = length-set out (at + j) v ∙ f.long;
      }

  pub filling_end : {out : List ℕ} {rest : ℕ} (i : ℕ) → i ≡ 0 → Filling out₀ at base k x out rest i → out ≡ pasted at (digits base k x) out₀
  unfolding digits
  filling_end {out} {rest} i e f =
      let all : digits base k x ≡ f.put = f.whole ∙ ap (λ (n : ℕ). digits base n rest ++ f.put) e in
      f.held ∙ ap (λ (n : ℕ). take (at + n) out₀ ++ (f.put ++ drop (at + k) out₀)) e ∙ ap (λ (n : ℕ). take n out₀ ++ (f.put ++ drop (at + k) out₀)) (add-zero at)
      ∙ ap₂ (λ (t : List ℕ) (n : ℕ). take at out₀ ++ (t ++ drop (at + n) out₀)) (sym all) (sym (digits_length base k x))

-- one digit, or one more than of a tenth
one_digit_more : (t : Bool) {m k : ℕ} → m ≤ suc k → cond t 1 (suc m) ≤ suc (suc k)
one_digit_more true h = omega arith
one_digit_more false h = omega arith

-- what a text's length is at most, so that it fits
pub places_few : (k x : ℕ) → places k x ≤ suc k
unfolding places
places_few zero x = omega arith
places_few (suc k) x = one_digit_more (ltb x 10) (places_few k (x / 10))

-- a number below 10 ^ k has at most k digits, one at the least
pub places_within : (m k x : ℕ) → 1 ≤ k → x < 10 ^ k → places m x ≤ k
unfolding places
places_within m zero x some h = absurd (omega arith)
places_within zero (suc k) x some h = omega arith
places_within (suc m) (suc zero) x some h = rw (lt-ltb x 10 h) (omega arith)
places_within (suc m) (suc (suc k)) x some h = one_digit_more (ltb x 10) (places_within m (suc k) (x / 10) (omega arith) ((div-lt_iff_lt-mul (lit< tt)).1 (rw pow-suc at h)))

pub decimal_few : (x : ℕ) → length (decimal x) ≤ 20
decimal_few x = omega (arith, digits_length 10 (places 19 x) x, places_few 19 x)

pub number_line_few : (word : List ℕ) (x : ℕ) → length (number_line word x) ≤ length word + 21
number_line_few word x = omega (arith, length-append word (decimal x ++ (10 ∷ [])), length-append (decimal x) (10 ∷ []), decimal_few x)

-- a number that refuses has its line
pub refused_line_lem : {e : ℕ} (count : ℕ) (text : List ℕ) → 0 < e → text_or_refused e count text ≡ refused_line e count
refused_line_lem {e = zero} count text h = absurd (omega arith)
refused_line_lem {e = suc e} count text h = refl

pub refused_few : (e count : ℕ) → length (refused_line e count) ≤ 50
refused_few e count =
    omega (arith, length-append refused_word (decimal e ++ behind_number count), length-append (decimal e) (behind_number count), decimal_few e, behind_few count)
  where
    behind_few : (count : ℕ) → length (behind_number count) ≤ 22
    behind_few zero = omega arith
    behind_few (suc count) = number_line_few (32 ∷ []) (suc count)

pub hex_long : (x : ℕ) → length (hex x) ≡ 16
hex_long x = digits_length 16 16 x

-- no text leaves a buffer as it was
pub puts_nothing : (at : ℕ) (out : List ℕ) → Puts at [] out out at
puts_nothing at out = record { end = sym (add-zero at); left = rw (add-zero at) (sym (take-append-drop at out)) }

-- a text put, and another behind it
pub puts_then : {at r r' : ℕ} {s t out mid out' : List ℕ} → at ≤ length out → Puts at s out mid r → Puts r t mid out' r' → Puts at (s ++ t) out out' r'
puts_then {at} {r} {r'} {s} {t} {out} {mid} h p q =
    record {
      end = q.end ∙ omega (arith, p.end, length-append s t);
      left = q.left ∙ ap₂ (λ (n : ℕ) (l : List ℕ). pasted n t l) p.end p.left ∙ pasted_twice at s out h t;
    }
