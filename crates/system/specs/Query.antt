-- The query F(x1, .., xd) of a model (document 01, "Model"): bit i is the "or" (any) or the "and" (all) of line i's operands, or whether at least
-- so many of them are set (a vote, request W4).
-- Assumes nothing.
use Rattle.std.specs.Prelude.{Bool, true, false, cond, ◌&&◌, ◌||◌, List, [], ◌∷◌, ◌++◌, ◌≡◌, ℕ, zero, suc, ◌+◌, ◌*◌, ◌^◌, ◌≤◌, leb, get_or, take, drop}
use Rattle.sets.specs.Set.{is_member, union, members}
use Rattle.system.specs.System.{System}

-- of no operands "any" is 0 and "all" is 1 (request W2; document 002 prints these turned over)
abbrev pub any : List Bool → Bool
any [] = false
any (b ∷ bs) = b || any bs

abbrev pub all : List Bool → Bool
all [] = true
all (b ∷ bs) = b && all bs

-- how many of some bits are set
abbrev pub count_set : List Bool → ℕ
count_set [] = 0
count_set (b ∷ bs) = cond b (suc (count_set bs)) (count_set bs)

-- a line's value, by its kind and its threshold, from the bits of its operands
abbrev pub value_of : ℕ → ℕ → List Bool → Bool
value_of zero t bits = any bits
value_of (suc zero) t bits = all bits
value_of (suc (suc k)) t bits = leb t (count_set bits)

-- the bits, in the argument x, of those of the first m lines that the word w selects
unfoldable pub selected : ℕ → ℕ → ℕ → List Bool
selected zero w x = []
selected (suc m) w x = cond (is_member w m) (is_member x m ∷ selected m w x) (selected m w x)

-- the bits of a line's operands: its words and the arguments are both level 1 first, and operand (k, j) is bit j of the k-th argument
unfoldable pub operands : List ℕ → List ℕ → List Bool
operands [] xs = []
operands (w ∷ ws) [] = []
operands (w ∷ ws) (x ∷ xs) = selected 64 w x ++ operands ws xs

-- the words of line i
abbrev pub words_of : System → ℕ → List ℕ
words_of m i = take m.levels (drop (i * m.levels) m.words)

-- the value of line i, from the bits of its operands
abbrev pub line_value : System → ℕ → List Bool → Bool
line_value m i = value_of (get_or m.kinds i 0) (get_or m.thresholds i 0)

-- every vote needs an operand at least
abbrev pub VotesNeed : System → Type 0
VotesNeed m = (i : ℕ) → 2 ≤ get_or m.kinds i 0 → 1 ≤ get_or m.thresholds i 0

-- line i has no operands (request W2): none of its words selects a line
abbrev pub WithoutOperands : System → ℕ → Type 0
WithoutOperands m i = (k : ℕ) → get_or (words_of m i) k 0 ≡ 0

-- how many operands a line with these words has: a line that is selected at two levels is two operands
abbrev pub operand_count : List ℕ → ℕ
operand_count [] = 0
operand_count (w ∷ ws) = members w + operand_count ws

-- the set of those of the first n lines of which p holds
unfoldable pub set_of : ℕ → (ℕ → Bool) → ℕ
set_of zero p = 0
set_of (suc n) p = union (set_of n p) (cond (p n) (2 ^ n) 0)

-- F
unfoldable pub query : System → List ℕ → ℕ
query m xs = set_of m.lines (λ i. line_value m i (operands (words_of m i) xs))
