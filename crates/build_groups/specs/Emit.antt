-- What a walk does with the keys and lists that it comes to: it counts them, writes them or compares them.
use Rattle.std.specs.Prelude.{ℕ, ◌+◌, ◌*◌, ◌≤◌, ◌≡◌, Bool, true, false, cond, not, ◌&&◌, ltb, leb, length, Result, Ok, Err}
use mathlib.Core.List.{List, [], ◌∷◌, ◌++◌, flat_map}
use Rattle.rules.specs.Words.{u32_bytes, encoded, part, over}
use Rattle.rules.specs.Lists.{padded}
use Rattle.rules.specs.Index.{no_id}
use Rattle.rules.specs.declared.Key.{Key}
use Rattle.rules.specs.Answers.{same}
use Rattle.build_edges.specs.Packed.{word_in}
use Rattle.build_groups.specs.Keyed.{Keyed}
use Rattle.build_groups.specs.declared.Deed.{Deed}
use Rattle.build_groups.specs.declared.Deed.TheVariants.{Count, Write, Compare}
use Rattle.build_groups.specs.declared.Purpose.{Purpose}
use Rattle.build_groups.specs.declared.Tally.{Tally}
use Rattle.build_groups.specs.declared.Stopped.{Stopped}

-- the two bits of key node u and entry v
unfoldable pub bits_of : List ℕ → ℕ → ℕ → ℕ
bits_of words u v = cond (word_in words u v) 1 0 + cond (word_in words v u) 2 0

-- the directions of entry v for three ids, of which unused ones have no edges
unfoldable pub dirs_of : List ℕ → List ℕ → ℕ → ℕ
dirs_of words [] v = 0
dirs_of words (u ∷ ids) v = bits_of words u v + 4 * dirs_of words ids v

-- the three ids of a key
abbrev pub ids_of : Key → List ℕ
ids_of key = key.first ∷ key.second ∷ key.third ∷ []

-- the bytes of a group record, of an entry, and of the entries of a list
unfoldable pub group_record : ℕ → List ℕ → ℕ → ℕ → List ℕ
group_record c ids start count = encoded (c ∷ ids ++ start ∷ count ∷ [])

unfoldable pub entry_record : List ℕ → List ℕ → ℕ → List ℕ
entry_record words ids v = u32_bytes v ++ dirs_of words ids v ∷ 0 ∷ 0 ∷ 0 ∷ []

unfoldable pub list_records : List ℕ → List ℕ → List ℕ → List ℕ
list_records words ids list = flat_map (entry_record words ids) list

-- how far a walk has come: groups and entries so far, and whether it has stopped
pub record Progress : Type 0 where
  pub groups : ℕ
  pub entries : ℕ
  pub stopped : Bool

abbrev pub going : Tally → Progress
going t = record { groups = t.groups; entries = t.entries; stopped = false }

abbrev pub halted : Progress → Progress
halted t = record { groups = t.groups; entries = t.entries; stopped = true }

-- how far a walk has come, by what it gives: on Err it has stopped
abbrev pub come_to : Result Tally Stopped → Progress
come_to (Ok t) = going t
come_to (Err e) = halted (going e.tally)

-- that, and the room that it writes to
pub record Output : Type 0 where
  pub tally : Progress
  pub room : List ℕ

abbrev pub output_of : Progress → List ℕ → Output
output_of t room = record { tally = t; room = room }

-- what a walk gives, and the room that it leaves, are this output
abbrev pub Gives : Result Tally Stopped → List ℕ → Output → Type 0
Gives r room s = output_of (come_to r) room ≡ s

-- where the next group and the next entry stand
abbrev pub group_place : Purpose → Progress → ℕ
group_place task t = task.table + t.groups * 24

abbrev pub entry_place : Purpose → Progress → ℕ
entry_place task t = task.lists + t.entries * 8

-- one group more, with so many entries
abbrev pub counted : Progress → ℕ → Bool → Progress
counted t n stopped = record { groups = t.groups + 1; entries = t.entries + n; stopped = stopped }

-- one group more is within the task's bounds
unfoldable pub within : Purpose → Progress → ℕ → Bool
within task t n = ltb t.groups task.groups && leb (t.entries + n) task.entries

-- the group at its place and its entries at theirs lie in a run of n bytes
pub record Fits (task : Purpose) (t : Progress) (count n : ℕ) : Type 0 where
  pub short : count ≤ 65536
  pub group : group_place task t + 24 ≤ n
  pub list : entry_place task t + count * 8 ≤ n

-- all that is within the task's bounds lies in the room, or in the store that is compared
pub record Lies (task : Purpose) (n : ℕ) : Type 0 where
  pub table : task.table + task.groups * 24 ≤ n
  pub lists : task.lists + task.entries * 8 ≤ n

pub record Placed (task : Purpose) (store room : ℕ) : Type 0 where
  pub writes : task.deed ≡ Write → Lies task room
  pub reads : task.deed ≡ Compare → Lies task store

-- the group is written
unfoldable pub written : Purpose → List ℕ → ℕ → List ℕ → List ℕ → Progress → List ℕ → List ℕ
written task words c ids list t room =
    over (over room (group_place task t) (group_record c ids t.entries (length list)))
    (entry_place task t) (list_records words ids list)

-- the store has the group
unfoldable pub agrees : Purpose → List ℕ → ℕ → List ℕ → List ℕ → Progress → List ℕ → Bool
agrees task words c ids list t store =
    same (part store (group_place task t) (group_place task t + 24)) (group_record c ids t.entries (length list))
    && same (part store (entry_place task t) (entry_place task t + length list * 8)) (list_records words ids list)

-- one key with its list, where it is known whether the walk has stopped, whether it stays within its bounds, and what it does
unfoldable pub emit_by : Purpose → List ℕ → List ℕ → Output → ℕ → List ℕ → List ℕ → Bool → Bool → Deed → Output
emit_by task words store s c ids list stopped inside deed =
    elim stopped [
      | true ↦ s
      | false ↦ elim inside [
        | true ↦ elim deed [
          | Count ↦ record { tally = counted s.tally (length list) false; room = s.room }
          | Write ↦ record { tally = counted s.tally (length list) false; room = written task words c ids list s.tally s.room }
          | Compare ↦ record { tally = counted s.tally (length list) (not (agrees task words c ids list s.tally store)); room = s.room }
        ]
        | false ↦ record { tally = record { groups = s.tally.groups; entries = s.tally.entries; stopped = true }; room = s.room }
      ]
    ]

-- counted, written or compared with the store; a stopped walk does nothing more
unfoldable pub emit : Purpose → List ℕ → List ℕ → Output → ℕ → List ℕ → List ℕ → Output
emit task words store s c ids list =
    emit_by task words store s c ids list s.tally.stopped (within task s.tally (length list)) task.deed

-- all of them, one after another
unfoldable pub emit_all : Purpose → List ℕ → List ℕ → ℕ → Output → List Keyed → Output
emit_all task words store c s [] = s
emit_all task words store c s (x ∷ xs) = emit_all task words store c (emit task words store s c (padded no_id x.key) x.list) xs
