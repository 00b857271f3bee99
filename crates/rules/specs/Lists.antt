-- The few functions on lists that the definitions use.
use Rattle.std.specs.Prelude.{ℕ, zero, suc, ◌+◌, ◌*◌, ◌/◌, Bool, true, false, cond, ◌&&◌, ◌||◌, ltb, leb, eqb, take}
use mathlib.Core.List.{List, [], ◌∷◌, ◌++◌, map, flat_map}

-- k, k + 1, ..: n numbers
unfoldable pub range : ℕ → ℕ → List ℕ
range k zero = []
range k (suc n) = k ∷ range (k + 1) n

-- p holds at k, k + 1, ..: at n numbers
unfoldable pub all_from : (ℕ → Bool) → ℕ → ℕ → Bool
all_from p k zero = true
all_from p k (suc n) = p k && all_from p (k + 1) n

-- p holds at one of k, k + 1, ..: of n numbers
unfoldable pub any_from : (ℕ → Bool) → ℕ → ℕ → Bool
any_from p k zero = false
any_from p k (suc n) = p k || any_from p (k + 1) n

-- p holds of every element
unfoldable pub all : {A : Type 0} → (A → Bool) → List A → Bool
all p [] = true
all p (x ∷ xs) = p x && all p xs

-- p holds of some element
unfoldable pub any : {A : Type 0} → (A → Bool) → List A → Bool
any p [] = false
any p (x ∷ xs) = p x || any p xs

-- the elements of which p holds
unfoldable pub keep : {A : Type 0} → (A → Bool) → List A → List A
keep p [] = []
keep p (x ∷ xs) = cond (p x) (x ∷ []) [] ++ keep p xs

-- x is among the numbers
unfoldable pub has : ℕ → List ℕ → Bool
has x [] = false
has x (y ∷ ys) = eqb x y || has x ys

-- the sum, 0 of none
unfoldable pub sum : List ℕ → ℕ
sum [] = 0
sum (x ∷ xs) = x + sum xs

-- the product, 1 of none
unfoldable pub product : List ℕ → ℕ
product [] = 1
product (x ∷ xs) = x * product xs

-- every choice of one number from each list, in the order of the first, then the second, and so on
unfoldable pub choices : List (List ℕ) → List (List ℕ)
choices [] = [] ∷ []
choices (xs ∷ rest) = flat_map (λ x. map (λ c. x ∷ c) (choices rest)) xs

-- three numbers: l, and x in the places that it leaves
unfoldable pub padded : ℕ → List ℕ → List ℕ
padded x l = take 3 (l ++ x ∷ x ∷ x ∷ [])

-- x in its place among ascending numbers
unfoldable pub insert : ℕ → List ℕ → List ℕ
insert x [] = x ∷ []
insert x (y ∷ ys) = cond (leb x y) (x ∷ y ∷ ys) (y ∷ insert x ys)

-- ascending, with each number as often as before
unfoldable pub sort_of : List ℕ → List ℕ
sort_of [] = []
sort_of (x ∷ xs) = insert x (sort_of xs)

-- without a number that equals the one before it, which for the first is x
unfoldable pub uniq_after : ℕ → List ℕ → List ℕ
uniq_after x [] = []
uniq_after x (y ∷ ys) = cond (eqb x y) [] (y ∷ []) ++ uniq_after y ys

-- without repeats next to each other
unfoldable pub uniq : List ℕ → List ℕ
uniq [] = []
uniq (x ∷ xs) = x ∷ uniq_after x xs

-- each number once, ascending
unfoldable pub set_of : List ℕ → List ℕ
set_of l = uniq (sort_of l)

-- a before b, or equal and then so
abbrev pub less_then : ℕ → ℕ → Bool → Bool
less_then a b then = ltb a b || eqb a b && then

-- binary search in at most n steps: while low < high, look at the middle; where p holds there low becomes the next, else high becomes it
unfoldable pub halving : (ℕ → Bool) → ℕ → ℕ → ℕ → ℕ
halving p zero low high = low
halving p (suc n) low high =
    elim (ltb low high) [
      | true ↦ elim (p ((low + high) / 2)) [ true ↦ halving p n ((low + high) / 2 + 1) high | false ↦ halving p n low ((low + high) / 2) ]
      | false ↦ low
    ]
