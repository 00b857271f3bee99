-- Another world, and two more stores, beside the small world, and the words for what proofs/Cases says of them. Nothing is proved here.
use Rattle.std.specs.Prelude.{ℕ, replicate}
use mathlib.Core.List.{List, [], ◌∷◌}
use Rattle.rules.specs.Words.{over}
use Rattle.rules.specs.Index.{store_of}
use Rattle.rules.specs.Answers.{Outcome}
use Rattle.rules.specs.World.{draft, world_constraints, world_store, node, edge}
use Rattle.demands.specs.Reads.{ListRead}

-- a room of n words, each of them 9, and one of n zeros
abbrev pub nines : ℕ → List ℕ
nines n = replicate n 9

abbrev pub zeros : ℕ → List ℕ
zeros n = replicate n 0

-- an outcome by its parts
abbrev pub gives : ℕ → List ℕ → List ℕ → List ℕ → Outcome
gives number results room work = record { number = number; results = results; room = room; second = []; work = work }

-- the list of a key
abbrev pub list : ℕ → List ℕ → ListRead
list c key = record { constraint = c; key = key }

-- ---- two worlds that are alike in what A reads
-- the other world: one more field, 7, which uses format 2, and format 2 has another value
unfoldable pub other_draft : List ℕ
other_draft =
    draft (node 1 1 ∷ node 1 2 ∷ node 2 45 ∷ node 2 44 ∷ node 3 10 ∷ node 4 100 ∷ node 4 101 ∷ node 4 102 ∷ [])
    (edge 0 2 ∷ edge 1 3 ∷ edge 4 5 ∷ edge 4 6 ∷ edge 5 3 ∷ edge 6 2 ∷ edge 7 2 ∷ []) world_constraints

-- the store that building gives for it
unfoldable pub other_store : List ℕ
other_store = store_of other_draft

-- and a store with the same lists, in which locale 1, which A's first list names, has the value 3: another answer
unfoldable pub valued : List ℕ
valued = over world_store 60 (3 ∷ [])

-- ---- a store that is not admitted, where a scan of the edges would give another list
-- the small world's store with the fifth edge record, field 5 to format 3, turned to format 2, and its index as it was
unfoldable pub turned : List ℕ
turned = over world_store 136 (edge 5 2)
