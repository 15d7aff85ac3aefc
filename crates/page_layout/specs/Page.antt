-- The bench page of a judgement (request W1): n + 1 rows of exactly 40 characters and a newline. The first row has the counts and the share, and each
-- line has a row with its number, its kind and whether it is good.
-- Assumes nothing.
use Rattle.std.specs.Prelude.{Bool, cond, List, [], ◌∷◌, ◌++◌, ℕ, zero, suc, get_or}
use Rattle.sets.specs.Set.{is_member}
use Rattle.system.specs.System.{System}
use Rattle.met_lines.specs.MetLines.{met_share}
use Rattle.text.specs.Text.{decimal}
use Rattle.padding.specs.Padding.{set_right, set_left}

-- the words of the page, in ASCII
abbrev pub lines_word : List ℕ
lines_word = 108 ∷ 105 ∷ 110 ∷ 101 ∷ 115 ∷ []

abbrev pub levels_word : List ℕ
levels_word = 108 ∷ 101 ∷ 118 ∷ 101 ∷ 108 ∷ 115 ∷ []

abbrev pub share_word : List ℕ
share_word = 115 ∷ 104 ∷ 97 ∷ 114 ∷ 101 ∷ []

-- `any`, `all` or `vot` (request W4)
abbrev pub kind_word : ℕ → List ℕ
kind_word zero = 97 ∷ 110 ∷ 121 ∷ []
kind_word (suc zero) = 97 ∷ 108 ∷ 108 ∷ []
kind_word (suc (suc k)) = 118 ∷ 111 ∷ 116 ∷ []

-- `+` for good, `-` for not
abbrev pub mark : Bool → List ℕ
mark good = cond good (43 ∷ []) (45 ∷ [])

-- a number set to the right in k places
abbrev pub number_in : ℕ → ℕ → List ℕ
number_in k x = set_right k (decimal x)

-- items with one blank between two of them
abbrev pub spaced : List (List ℕ) → List ℕ
spaced [] = []
spaced (item ∷ []) = item
spaced (item ∷ next ∷ items) = item ++ (32 ∷ spaced (next ∷ items))

-- a row: its items, blanks up to 40 places, and a newline
abbrev pub row : List (List ℕ) → List ℕ
row items = set_left 40 (spaced items) ++ (10 ∷ [])

-- the row of the counts and the share
abbrev pub first_row : ℕ → ℕ → ℕ → List ℕ
first_row n d share = row (lines_word ∷ number_in 2 n ∷ levels_word ∷ number_in 1 d ∷ share_word ∷ number_in 4 share ∷ [])

-- the row of line i, which has this kind
abbrev pub line_row : ℕ → ℕ → Bool → List ℕ
line_row i kind good = row (number_in 2 i ∷ kind_word kind ∷ mark good ∷ [])

-- the rows of the first n lines, line 0 first
unfoldable pub rows_of : ℕ → (ℕ → List ℕ) → List ℕ
rows_of zero row_at = []
rows_of (suc n) row_at = rows_of n row_at ++ row_at n

-- the page of a system with these good lines; each line has its row, and the share is of those that can be met (request W7)
unfoldable pub page : System → ℕ → List ℕ
page m good =
    first_row m.lines m.levels (met_share m good) ++ rows_of m.lines (λ i. line_row i (get_or m.kinds i 0) (is_member good i))
