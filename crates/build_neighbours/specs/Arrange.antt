-- What becomes of words that are put in the order of their places.
use Rattle.std.specs.Prelude.{ℕ, ◌+◌, ◌*◌, ◌%◌, cond, List, [], ◌∷◌, map, leb}
use Rattle.rules.specs.Lists.{sort_of}
use Rattle.rules.specs.Store.{label_at}
use Rattle.build_neighbours.specs.Side.{place_of}

-- the label and the id of a word's neighbour, as a word
unfoldable pub key_of : List ℕ → ℕ → ℕ
key_of nodes w = label_at nodes (w % 65536) * 65536 + w % 65536

-- the word of v and the id of a key
unfoldable pub word_for : ℕ → ℕ → ℕ
word_for v k = v * 65536 + k % 65536

-- what the words of v become
abbrev pub arranged_one : List ℕ → ℕ → List ℕ → List ℕ
arranged_one nodes v words = map (word_for v) (sort_of (map (key_of nodes) words))

-- x in its place among numbers that ascend by f
unfoldable pub insert_by : (ℕ → ℕ) → ℕ → List ℕ → List ℕ
insert_by f x [] = x ∷ []
insert_by f x (y ∷ ys) = cond (leb (f x) (f y)) (x ∷ y ∷ ys) (y ∷ insert_by f x ys)

-- ascending by f
unfoldable pub sort_by : (ℕ → ℕ) → List ℕ → List ℕ
sort_by f [] = []
sort_by f (x ∷ xs) = insert_by f x (sort_by f xs)

-- what all words become
abbrev pub arranged_all : List ℕ → List ℕ → List ℕ
arranged_all nodes words = sort_by (place_of nodes) words
