-- Numbers as text, the lines that end in a number, and what a buffer holds with a text put into it.
-- Assumes nothing.
use Rattle.std.specs.Prelude.{cond, List, [], ◌∷◌, ◌++◌, ◌≡◌, ℕ, zero, suc, ◌+◌, ◌/◌, ◌%◌, ltb, length, take, drop}

-- a digit in ASCII, lower-case from ten on
abbrev pub digit : ℕ → ℕ
digit n = cond (ltb n 10) (48 + n) (87 + n)

-- the last k digits of x in a base, the highest first
unfoldable pub digits : ℕ → ℕ → ℕ → List ℕ
digits base zero x = []
digits base (suc k) x = digits base k (x / base) ++ (digit (x % base) ∷ [])

-- how many decimal digits x has, with no zero in front; at most k + 1 are counted
unfoldable pub places : ℕ → ℕ → ℕ
places zero x = 1
places (suc k) x = cond (ltb x 10) 1 (suc (places k (x / 10)))

-- a set as 16 hexadecimal digits
abbrev pub hex : ℕ → List ℕ
hex x = digits 16 16 x

-- a decimal number; a 64-bit number has at most 20 digits
abbrev pub decimal : ℕ → List ℕ
decimal x = digits 10 (places 19 x) x

-- a line: a word with a blank behind it, in ASCII, and a decimal number
abbrev pub number_line : List ℕ → ℕ → List ℕ
number_line word x = word ++ (decimal x ++ (10 ∷ []))

-- what a program writes of what is turned down: `refused`, a blank and the number; behind them, where the refusal has a count (request W8), a blank and the count
abbrev pub refused_word : List ℕ
refused_word = 114 ∷ 101 ∷ 102 ∷ 117 ∷ 115 ∷ 101 ∷ 100 ∷ 32 ∷ []

abbrev pub behind_number : ℕ → List ℕ
behind_number zero = 10 ∷ []
behind_number (suc count) = number_line (32 ∷ []) (suc count)

abbrev pub refused_line : ℕ → ℕ → List ℕ
refused_line e count = refused_word ++ (decimal e ++ behind_number count)

-- a text, or, where a number refuses, the line of that refusal with its count
abbrev pub text_or_refused : ℕ → ℕ → List ℕ → List ℕ
text_or_refused zero count text = text
text_or_refused (suc e) count text = refused_line (suc e) count

-- a list with a text put into it at a place
abbrev pub pasted : ℕ → List ℕ → List ℕ → List ℕ
pasted at text l = take at l ++ (text ++ drop (at + length text) l)

-- putting a text into a buffer at a place: the place behind it, and what the buffer is left with
pub record Puts (at : ℕ) (text out out' : List ℕ) (r : ℕ) : Type 0 where
  pub end : r ≡ at + length text
  pub left : out' ≡ pasted at text out
