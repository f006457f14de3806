-- Numbers and their bytes, little-endian, and what bytes begin with.
use Rattle.std.specs.Prelude.{Bool, cond, List, [], ◌∷◌, ℕ, zero, suc, ◌+◌, ◌*◌, ◌/◌, ◌%◌, ◌<◌, eqb, length, take, drop, get_or}

-- the number that bytes say, the least byte first
unfoldable pub little : List ℕ → ℕ
little [] = 0
little (b ∷ bs) = b + 256 * little bs

-- the k bytes of a number, the least first
unfoldable pub bytes_of : ℕ → ℕ → List ℕ
bytes_of zero n = []
bytes_of (suc k) n = n % 256 ∷ bytes_of k (n / 256)

-- each number is a byte
abbrev pub Bytes : List ℕ → Type 0
Bytes xs = (i : ℕ) → get_or xs i 0 < 256

-- the number of 16 bits and the pattern of 64 that stand at a place, each with its least byte first
abbrev pub word_at : List ℕ → ℕ → ℕ
word_at bytes at = little (take 2 (drop at bytes))

abbrev pub pattern_at : List ℕ → ℕ → ℕ
pattern_at bytes at = little (take 8 (drop at bytes))

-- how many numbers at the front of two lists are the same
unfoldable pub alike : List ℕ → List ℕ → ℕ
alike [] bytes = 0
alike (m ∷ ms) [] = 0
alike (m ∷ ms) (b ∷ bs) = cond (eqb b m) (suc (alike ms bs)) 0

-- whether a list begins with these numbers
unfoldable pub starts_with : List ℕ → List ℕ → Bool
starts_with front bytes = eqb (alike front bytes) (length front)
