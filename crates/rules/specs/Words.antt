-- Names for lists of numbers, and the little-endian words in them.
use Rattle.std.specs.Prelude.{ℕ, ◌+◌, ◌-◌, ◌*◌, ◌/◌, ◌%◌, List, [], ◌∷◌, ◌++◌, length, get_or, take, drop}

-- the bytes of a store, a draft or a pattern, those of one section, the bytes or words of a room, and node ids or numbers
abbrev pub Bytes : Type 0
Bytes = List ℕ

abbrev pub Section : Type 0
Section = List ℕ

abbrev pub Room : Type 0
Room = List ℕ

abbrev pub Ids : Type 0
Ids = List ℕ

-- a word by its bytes, the lowest first
abbrev pub word : ℕ → ℕ → ℕ → ℕ → ℕ
word a b c d = a + b * 256 + c * 65536 + d * 16777216

-- the word of two bytes at i
unfoldable pub u16_at : List ℕ → ℕ → ℕ
u16_at s i = word (get_or s i 0) (get_or s (i + 1) 0) 0 0

-- the word of four bytes at i
unfoldable pub u32_at : List ℕ → ℕ → ℕ
u32_at s i = word (get_or s i 0) (get_or s (i + 1) 0) (get_or s (i + 2) 0) (get_or s (i + 3) 0)

-- the two bytes of a word
abbrev pub u16_bytes : ℕ → List ℕ
u16_bytes x = x % 256 ∷ x / 256 % 256 ∷ []

-- the four bytes of a word
abbrev pub u32_bytes : ℕ → List ℕ
u32_bytes x = x % 256 ∷ x / 256 % 256 ∷ x / 65536 % 256 ∷ x / 16777216 % 256 ∷ []

-- the bytes of a run of words
unfoldable pub encoded : List ℕ → List ℕ
encoded [] = []
encoded (x ∷ xs) = u32_bytes x ++ encoded xs

-- the part of s from a up to e
abbrev pub part : List ℕ → ℕ → ℕ → List ℕ
part s a e = take (e - a) (drop a s)

-- s with w written over it from i on
unfoldable pub over : List ℕ → ℕ → List ℕ → List ℕ
over s i w = take i s ++ w ++ drop (i + length w) s

-- an i32, given as its word, counted from the lowest one: -2,147,483,648 is 0, and order is kept
unfoldable pub signed : ℕ → ℕ
signed w = (w + 2147483648) % 4294967296
