-- Tests that a function is handed as a closure.
use Rattle.std.specs.Prelude.{ℕ, ◌<◌, ◌≡◌, Bool, List, length, get_or}

-- on each place below count the closure may be called
abbrev pub Asked : (ℕ → Type 0) → ℕ → Type 0
Asked pre count = (i : ℕ) → i < count → pre i

-- and what it answers there is the test
abbrev pub Answers : (ℕ → Bool → Type 0) → ℕ → (ℕ → Bool) → Type 0
Answers post count test = (i : ℕ) (r : Bool) → i < count → post i r → r ≡ test i

-- it reads the words
abbrev pub Reads : (ℕ → ℕ → Type 0) → List ℕ → Type 0
Reads post words = (i r : ℕ) → i < length words → post i r → r ≡ get_or words i 0

-- and of each word that is read another closure answers the test
abbrev pub Tests : (ℕ → ℕ → Type 0) → (ℕ → Bool → Type 0) → ℕ → (ℕ → Bool) → Type 0
Tests word passes count test = (i x : ℕ) (r : Bool) → i < count → word i x → passes x r → r ≡ test x
