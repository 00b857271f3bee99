-- The lists that listing reads, and what it is for two readers to be alike in them. Nothing is proved here.
use Rattle.std.specs.Prelude.{◌≡◌, true, false, ℕ, ◌+◌, ◌*◌, ◌/◌, eqb, length}
use mathlib.Core.List.{List, [], ◌∷◌, ◌++◌, map, flat_map}
use Rattle.std.proofs.Math.Option.{Option, some, none}
use Rattle.rules.specs.Words.{part}
use Rattle.rules.specs.Lists.{sum}
use Rattle.rules.specs.Store.{node_part, constraint_part, group_part, entry_part}
use Rattle.rules.specs.Plan.{rows_of}
use Rattle.rules.specs.Listing.{key_of, found, list_part, entry_list, Reader, Gathered, reader_of, nothing, keys_from, with_row}
use Rattle.laws.specs.Outcomes.{list_refusal}
use Rattle.rules.specs.declared.Row.{Row}
use Rattle.rules.specs.declared.Entry.{Entry}
use Rattle.rules.specs.Listing.{Found}
use Rattle.std.specs.Prelude.{Some, None}
use Rattle.laws.specs.Every.{Every}

-- ---- what listing reads
-- a list that is read: its constraint and its key
pub record ListRead : Type 0 where
  pub constraint : ℕ
  pub key : List ℕ

-- the lists read of some keys of constraint c, in order, as Listing.read_keys goes through them; an unfit list is the last
unfoldable pub keys_read : Reader → ℕ → List (List ℕ) → List ListRead
keys_read r c [] = []
keys_read r c (key ∷ keys) = record { constraint = c; key = key } ∷ elim (r.list c key) [ none ↦ [] | some l ↦ keys_read r c keys ]

-- the lists read for some rows, in order, as Listing.with_rows goes through them: for each row every key from the candidates gathered so far
unfoldable pub lists_read : Reader → List ℕ → List Row → Gathered → List ListRead
lists_read r b [] got = []
lists_read r b (row ∷ rows) got =
    keys_read r row.constraint (keys_from got row) ++ elim (with_row r b got row) [ none ↦ [] | some next ↦ lists_read r b rows next ]

-- the reader of a store
abbrev pub store_reader : List ℕ → Reader
store_reader s = reader_of (node_part s) (constraint_part s) (group_part s) (entry_part s)

-- the lists that the rows of the plan read in s
unfoldable pub store_reads : List ℕ → List ℕ → List ListRead
store_reads s b = lists_read (store_reader s) b (rows_of (constraint_part s) b) (nothing b)

-- the lists that the listing call reads: these, and none where it is refused with 1, 3, 6, 7, 8 or 9
unfoldable pub call_reads : List ℕ → List ℕ → List ℕ → List ListRead
call_reads s b work = elim (eqb (list_refusal s b work) 0) [ true ↦ store_reads s b | false ↦ [] ]

-- the lists that the rule names for what has been gathered: for each row of the plan, every key from the candidates of its chosen nodes
unfoldable pub lists_named : List ℕ → List ℕ → Gathered → List ListRead
lists_named constraints b got = flat_map (λ row. map (λ key. record { constraint = row.constraint; key = key }) (keys_from got row)) (rows_of constraints b)

-- ---- alike
-- the entries of a list, none where it is unfit
unfoldable pub named : Option (List Entry) → List Entry
named none = []
named (some l) = l

-- how many entries a list has, 0 where it is unfit
abbrev pub entries_of_read : Reader → ListRead → ℕ
entries_of_read r x = length (named (r.list x.constraint x.key))

-- how many entries some lists have, a list that stands twice counted twice
unfoldable pub entries_of_reads : Reader → List ListRead → ℕ
entries_of_reads r xs = sum (map (entries_of_read r) xs)

-- two readers are alike in a list: both give it the same, and give the same value for each node that it names
pub record AlikeIn (r q : Reader) (x : ListRead) : Type 0 where
  pub list : r.list x.constraint x.key ≡ q.list x.constraint x.key
  pub values : Every (λ e. r.value e.node ≡ q.value e.node) (named (r.list x.constraint x.key))

-- ---- alike in bytes
-- the bytes of a list: the part of the entries that its key's group names, none where the key has no group
unfoldable pub found_bytes : List ℕ → Found → List ℕ
found_bytes entries (Some at) = list_part entries at.start at.count
found_bytes entries None = []

abbrev pub bytes_read : List ℕ → ListRead → List ℕ
bytes_read s x = found_bytes (entry_part s) (found (group_part s) (key_of x.constraint x.key))

-- the entries that stand in the bytes of a list, 8 bytes each
abbrev pub entries_within : List ℕ → List Entry
entries_within bytes = entry_list bytes (length bytes / 8)

-- the 8-byte record of node v
abbrev pub node_record : List ℕ → ℕ → List ℕ
node_record s v = part (node_part s) (v * 8) (v * 8 + 8)

-- two stores have the same bytes of a list, and the same records of the nodes that it names
pub record SameBytes (s t : List ℕ) (x : ListRead) : Type 0 where
  pub bytes : bytes_read s x ≡ bytes_read t x
  pub records : Every (λ e. node_record s e.node ≡ node_record t e.node) (entries_within (bytes_read s x))
