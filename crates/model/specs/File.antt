-- The file of a model (document 01, "File", with request W4): the offsets, what a file stands for, and the file that stands for a system.
-- There are two layouts. Between the signs and the words a new file has two bytes a line, its kind and its threshold, and an old file has its kind
-- alone. A file's own third offset, where its words begin, tells which it is. Only new files are made.
-- Assumes nothing.
use Rattle.std.specs.Prelude.{Bool, true, false, List, [], ◌∷◌, ◌++◌, ℕ, zero, suc, ◌+◌, ◌*◌, eqb, get_or, take, drop, replicate}
use Rattle.numbers.specs.Numbers.{number_at, words_from, bytes_of, word_bytes}
use Rattle.system.specs.System.{System, system_of}

-- The layout, for n lines and d levels: where the three sections begin, and the whole length of a new file.
abbrev pub signs_at : ℕ
signs_at = 16

abbrev pub kinds_at : ℕ → ℕ
kinds_at d = 16 + d

abbrev pub words_at : ℕ → ℕ → ℕ
words_at n d = 16 + d + 2 * n

abbrev pub old_words_at : ℕ → ℕ → ℕ
old_words_at n d = 16 + d + n

abbrev pub file_length : ℕ → ℕ → ℕ
file_length n d = 16 + d + 2 * n + 8 * (n * d)

-- the two counts in the header, and its third offset
abbrev pub lines_in : List ℕ → ℕ
lines_in file = number_at file 0 2

abbrev pub levels_in : List ℕ → ℕ
levels_in file = number_at file 2 2

abbrev pub words_in : List ℕ → ℕ
words_in file = number_at file 12 4

-- whether a file with n lines and d levels is an old one, how many bytes it then has a line, and its highest kind
abbrev pub is_old : ℕ → ℕ → List ℕ → Bool
is_old n d file = eqb (words_in file) (old_words_at n d)

abbrev pub line_bytes : Bool → ℕ
line_bytes true = 1
line_bytes false = 2

abbrev pub highest_kind : Bool → ℕ
highest_kind true = 1
highest_kind false = 2

-- n entries of a list from its first on, each so many places behind the one before it
unfoldable pub every : ℕ → ℕ → List ℕ → List ℕ
every places zero s = []
every places (suc n) s = get_or s 0 0 ∷ every places n (drop places s)

-- the thresholds of n lines, from behind the first line's kind on; an old file has none, and so no votes
abbrev pub thresholds_from : Bool → ℕ → List ℕ → List ℕ
thresholds_from true n s = replicate n 0
thresholds_from false n s = every 2 n s

-- what a file with n lines and d levels stands for
abbrev pub sections : ℕ → ℕ → List ℕ → System
sections n d file =
    let old = is_old n d file in
    system_of n d (take d (drop signs_at file)) (every (line_bytes old) n (drop (kinds_at d) file)) (thresholds_from old n (drop (kinds_at d + 1) file)) (words_from (n * d) (drop (words_in file) file))

unfoldable pub decode : List ℕ → System
decode file = sections (lines_in file) (levels_in file) file

-- the sixteen bytes in front: both counts, then the three offsets
abbrev pub header_bytes : ℕ → ℕ → List ℕ
header_bytes n d = bytes_of 2 n ++ (bytes_of 2 d ++ (bytes_of 4 signs_at ++ (bytes_of 4 (kinds_at d) ++ bytes_of 4 (words_at n d))))

-- the two bytes of each line
unfoldable pub line_records : List ℕ → List ℕ → List ℕ
line_records [] thresholds = []
line_records (kind ∷ kinds) thresholds = kind ∷ get_or thresholds 0 0 ∷ line_records kinds (drop 1 thresholds)

unfoldable pub encode : System → List ℕ
encode m = header_bytes m.lines m.levels ++ (m.signs ++ (line_records m.kinds m.thresholds ++ word_bytes m.words))
