-- Words as bytes: encoded, and read back. Assumes nothing.
use Rattle.std.specs.Prelude.{◌≡◌, refl, List, [], ◌∷◌, ◌++◌, ℕ, zero, suc, ◌+◌, ◌*◌, ◌/◌, ◌%◌, ◌<◌, length, get_or}
use Rattle.std.proofs.Common.{◌∙◌, add_assoc, mod-eq_of_lt, arith, get_or-append-add}
use Rattle.std.proofs.Math.Nat.{div-div-eq-div-mul, mod-add-div'}
use Rattle.rules.specs.Words.{word, u32_at, u32_bytes, encoded}

-- every element of a run is a byte: true of every slice of bytes
abbrev pub Bytes : List ℕ → Type 0
Bytes s = (i : ℕ) → get_or s i 0 < 256

-- a number by its digits to the base 256
pub digits : (x a q b r c d : ℕ) → a + q * 256 ≡ x → b + r * 256 ≡ q → c + d * 256 ≡ r → word a b c d ≡ x
digits x a q b r c d ea eb ec = omega arith

-- the word of the four bytes of x is x, for x below 4,294,967,296
pub word-of-bytes : (x : ℕ) → x < 4294967296 → word (x % 256) (x / 256 % 256) (x / 65536 % 256) (x / 16777216 % 256) ≡ x
word-of-bytes x h =
    let small : x / 16777216 < 256 = omega arith in
    let last : x / 65536 / 256 ≡ x / 16777216 = div-div-eq-div-mul x 65536 256 in
    rw (mod-eq_of_lt small)
    (digits x (x % 256) (x / 256) (x / 256 % 256) (x / 65536) (x / 65536 % 256) (x / 16777216)
    (mod-add-div' x 256)
    (rw (div-div-eq-div-mul x 256 256) at (mod-add-div' (x / 256) 256))
    (rw last at (mod-add-div' (x / 65536) 256)))

-- the four bytes of the word of four bytes, each below 256, are these
pub bytes-of-word : (a b c d : ℕ) → a < 256 → b < 256 → c < 256 → d < 256 → u32_bytes (word a b c d) ≡ a ∷ b ∷ c ∷ d ∷ []
bytes-of-word a b c d ha hb hc hd =
    let one : word a b c d / 256 ≡ b + (c + d * 256) * 256 = omega arith in
    let two : word a b c d / 65536 ≡ c + d * 256 = omega arith in
    let three : word a b c d / 16777216 ≡ d = omega arith in
    let ea : word a b c d % 256 ≡ a = omega arith in
    let eb : word a b c d / 256 % 256 ≡ b = rw one (omega arith) in
    let ec : word a b c d / 65536 % 256 ≡ c = rw two (omega arith) in
    let ed : word a b c d / 16777216 % 256 ≡ d = rw three (omega arith) in
    cc

-- re-encoding what is read gives the four bytes at i, for any run of bytes
pub bytes-read : (s : List ℕ) (i : ℕ) → Bytes s
    → u32_bytes (u32_at s i) ≡ get_or s i 0 ∷ get_or s (i + 1) 0 ∷ get_or s (i + 2) 0 ∷ get_or s (i + 3) 0 ∷ []
unfolding u32_at
bytes-read s i h = bytes-of-word _ _ _ _ (h i) (h (i + 1)) (h (i + 2)) (h (i + 3))

-- ---- behind some bytes
pub byte-behind : (a b : List ℕ) (n i : ℕ) → length a ≡ n → get_or (a ++ b) (n + i) 0 ≡ get_or b i 0
byte-behind a b n i e = rw (← e) (get_or-append-add a b i 0)

pub word-behind : (a b : List ℕ) (n i : ℕ) → length a ≡ n → u32_at (a ++ b) (n + i) ≡ u32_at b i
unfolding u32_at
word-behind a b n i e =
    rw (add_assoc n i 1, add_assoc n i 2, add_assoc n i 3, byte-behind a b n i e, byte-behind a b n (i + 1) e, byte-behind a b n (i + 2) e, byte-behind a b n (i + 3) e)

-- ---- runs of words
-- a run of words has four bytes for each
pub length-encoded : (ws : List ℕ) → length (encoded ws) ≡ 4 * length ws
unfolding encoded
length-encoded [] = refl
length-encoded (x ∷ ws) = omega (arith, length-encoded ws)

-- every number of the run is a word: below 4,294,967,296
unfoldable pub Words : List ℕ → Type 0
Words [] = Unit {0}
Words (x ∷ ws) = (x < 4294967296) × Words ws

-- reading where the i-th word was written gives that word, whatever follows; the numbers are words, and i is one of their places
pub words-read : (ws rest : List ℕ) (i : ℕ) → Words ws → i < length ws → u32_at (encoded ws ++ rest) (4 * i) ≡ get_or ws i 0
unfolding encoded Words
words-read [] rest i h b = omega arith
words-read (x ∷ ws) rest zero h b = unfold u32_at in word-of-bytes x h.0
words-read (x ∷ ws) rest (suc i) h b =
    let e : 4 * suc i ≡ 4 + 4 * i = omega arith in
    rw e (word-behind (u32_bytes x) (encoded ws ++ rest) 4 (4 * i) refl ∙ words-read ws rest i h.1 (omega arith))
