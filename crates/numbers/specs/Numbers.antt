-- Numbers as bytes, the lowest byte first (document 01, "File": integers are little-endian), and words of eight bytes each.
-- Assumes nothing.
use Rattle.std.specs.Prelude.{List, [], ◌∷◌, ◌++◌, ℕ, zero, suc, ◌+◌, ◌*◌, ◌/◌, ◌%◌, take, drop}

-- the number that some bytes are, the lowest first
unfoldable pub little : List ℕ → ℕ
little [] = 0
little (b ∷ bs) = b + 256 * little bs

-- the number in the k bytes from an offset on
abbrev pub number_at : List ℕ → ℕ → ℕ → ℕ
number_at file at k = little (take k (drop at file))

-- the k words of eight bytes that some bytes begin with
unfoldable pub words_from : ℕ → List ℕ → List ℕ
words_from zero bytes = []
words_from (suc k) bytes = little (take 8 bytes) ∷ words_from k (drop 8 bytes)

-- k bytes of a number, the lowest first
unfoldable pub bytes_of : ℕ → ℕ → List ℕ
bytes_of zero x = []
bytes_of (suc k) x = x % 256 ∷ bytes_of k (x / 256)

-- the eight bytes of each word
unfoldable pub word_bytes : List ℕ → List ℕ
word_bytes [] = []
word_bytes (w ∷ ws) = bytes_of 8 w ++ word_bytes ws
