-- A whole index, written or compared group by group. Assumes nothing.
use native.Mathlib.Omega.{arith}
use native.Mathlib.Nat.{add-zero}
use mathlib.Core.Path.{◌≡◌, refl, sym, ap, ◌∙◌}
use mathlib.Core.Bool.{Bool, true, false, not, ◌&&◌, false≢true, true≢false}
use mathlib.Core.List.{List, [], ◌∷◌, ◌++◌, map, flat_map, append_assoc}
use Prim.Native.Nat.{ℕ, suc, ◌+◌, ◌-◌, ◌*◌, ◌≤◌}
use lib.ListN.{length, take, drop, length-append, length-take, length-drop}
use lib.Seq.{take-append-le, drop-append-le, take-take, take-append-add, drop-append-add, take-add, drop_at, drop-drop, length-take-le}
use Rattle.rules.specs.Words.{part, over}
use Rattle.rules.specs.Lists.{all}
use Rattle.rules.specs.Graph.{Graph}
use Rattle.rules.specs.Index.{group_bytes, entry_bytes}
use Rattle.rules.specs.Answers.{same}
use Rattle.laws.specs.Over.{over-over, over-nil, length-over}
use Rattle.laws.specs.Cases.{first-holds, second-holds}
use Rattle.build_groups.specs.Emit.{group_record, list_records, output_of, within, counted, written, agrees, emit}
use Rattle.build_groups.specs.declared.Deed.TheVariants.{Write, Compare}
use Rattle.build_groups.specs.declared.Purpose.{Purpose}
use Rattle.build_groups.specs.Emit.{Progress}
use Rattle.build_groups.proofs.Records.{length-records}
use Rattle.laws.specs.Same.{same-append}
use Rattle.laws.specs.Parts.{part-add}
use Rattle.build_groups.proofs.Emitting.{emit-write, emit-compare}
use Rattle.build_keys.proofs.Items.{Item, list_in, ids_in, short, total, emit_items, items-stopped, inside, Told, group_for, group-bytes, entry-bytes, length-ids, length-groups, length-entries}

-- two runs that don't meet may be written in either order
module _ (s : List ℕ) (i : ℕ) (a : List ℕ) (j : ℕ) (b : List ℕ) (apart : i + length a ≤ j) (fits : j + length b ≤ length s) where
  front : List ℕ
  front = take i s ++ a

  length-front : length front ≡ i + length a
  unfolding front
  length-front = length-append (take i s) a ∙ rw (length-take-le i s (omega arith))

  middle : drop (i + length a) (take j s) ≡ take (j - (i + length a)) (drop (i + length a) s)
  middle =
      let k = i + length a in
      let e : k + (j - k) ≡ j = omega arith in
      let l : length (take k s) ≡ k = length-take-le k s (omega arith) in
      ap (λ n. drop k (take n s)) (sym e) ∙ ap (drop k) (take-add k (j - k) s) ∙ drop_at (take k s) (take (j - k) (drop k s)) k l

  pub over-swap : over (over s j b) i a ≡ over (over s i a) j b
  unfolding over front
  over-swap =
      let k = i + length a in
      let d = drop (j + length b) s in
      let m = drop k (take j s) in
      let lj : length (take j s) ≡ j = length-take-le j s (omega arith) in
      let lb : length (take j s ++ b) ≡ j + length b = length-append (take j s) b ∙ rw lj in
      let l₁ : take i (take j s ++ b ++ d) ≡ take i s =
      take-append-le i (take j s ++ b) d (omega arith) ∙ take-append-le i (take j s) b (omega arith) ∙ take-take i j s (omega arith) in
      let l₂ : drop k (take j s ++ b ++ d) ≡ m ++ b ++ d =
      drop-append-le k (take j s ++ b) d (omega arith) ∙ ap (λ l. l ++ d) (drop-append-le k (take j s) b (omega arith)) in
      let q : length front + (j - k) ≡ j = omega (arith, length-front) in
      let r₁ : take j (front ++ drop k s) ≡ front ++ m = ap (λ n. take n (front ++ drop k s)) (sym q) ∙ take-append-add front (drop k s) (j - k) ∙ ap (λ l. front ++ l) (sym middle) in
      let p : length front + (j + length b - k) ≡ j + length b = omega (arith, length-front) in
      let z : k + (j + length b - k) ≡ j + length b = omega arith in
      let r₂ : drop (j + length b) (front ++ drop k s) ≡ d =
      ap (λ n. drop n (front ++ drop k s)) (sym p) ∙ drop-append-add front (drop k s) (j + length b - k) ∙ drop-drop (j + length b - k) k s ∙ ap (λ n. drop n s) z in
      rw (l₁, l₂, r₁, r₂) (simp append_assoc)

-- a run and one far behind it, each lengthened
pub over-four : (s : List ℕ) (i : ℕ) (a more : List ℕ) (j : ℕ) (b rest : List ℕ) → i + length a + length more ≤ j → j + length b + length rest ≤ length s
    → over (over (over (over s i a) j b) (i + length a) more) (j + length b) rest ≡ over (over s i (a ++ more)) j (b ++ rest)
over-four s i a more j b rest apart fits =
    let la : length (over s i a) ≡ length s = length-over s i a (omega arith) in
    let lm : length (a ++ more) ≡ length a + length more = length-append a more in
    let lo : length (over s i (a ++ more)) ≡ length s = length-over s i (a ++ more) (omega arith) in
    ap (λ l. over l (j + length b) rest) (over-swap (over s i a) (i + length a) more j b (omega arith) (omega arith) ∙ ap (λ l. over l j b) (over-over s i a (omega arith) more))
    ∙ over-over (over s i (a ++ more)) j b (omega arith) rest

-- ---- parts
pub length-part : (s : List ℕ) (a m : ℕ) → a + m ≤ length s → length (part s a (a + m)) ≡ m
length-part s a m h = simp (length-take, length-drop) (omega arith)

both-hold : (a b c d : Bool) → (a && c) ≡ true → ((a && b) && (c && d)) ≡ (b && d)
both-hold true b true d h = refl
both-hold true b false d h = absurd (false≢true h)
both-hold false b c d h = absurd (false≢true h)

one-fails : (a b c d : Bool) → (a && c) ≡ false → ((a && b) && (c && d)) ≡ false
one-fails true true true d h = absurd (true≢false h)
one-fails true false true d h = refl
one-fails true true false d h = refl
one-fails true false false d h = refl
one-fails false b c d h = refl

module _ (task : Purpose) {g : Graph} {words : List ℕ} (told : Told g words) (store : List ℕ) where
  abbrev start : ℕ → ℕ → Progress
  start n e = record { groups = n; entries = e; stopped = false }

  write-step : task.table + task.groups * 24 ≤ task.lists → (n e : ℕ) (room : List ℕ) (x : Item) (xs : List Item) → short x ≡ true → all short xs ≡ true
      → n + suc (length xs) ≤ task.groups → e + (length (list_in x) + total xs) ≤ task.entries → task.lists + task.entries * 8 ≤ length room
      → over (over (written task words x.constraint (ids_in x) (list_in x) (start n e) room) (task.table + (n + 1) * 24) (group_bytes (e + length (list_in x)) (map (group_for g) xs))) (task.lists + (e + length (list_in x)) * 8) (entry_bytes (map (group_for g) xs))
      ≡ over (over room (task.table + n * 24) (group_bytes e (map (group_for g) (x ∷ xs)))) (task.lists + e * 8) (entry_bytes (map (group_for g) (x ∷ xs)))
  unfolding written
  write-step apart n e room x xs sh shs hg he fits =
      let c = length (list_in x) in
      let gr = group_record x.constraint (ids_in x) e c in
      let er = list_records words (ids_in x) (list_in x) in
      let gb = group_bytes (e + c) (map (group_for g) xs) in
      let eb = entry_bytes (map (group_for g) xs) in
      let lg : length gr ≡ 24 = length-ids x.constraint x.keyed.key e c in
      let le : length er ≡ c * 8 = length-records words (ids_in x) (list_in x) in
      let lb : length gb ≡ length xs * 24 = length-groups g (e + c) xs in
      let lt : length eb ≡ total xs * 8 = length-entries told xs shs in
      let i : task.table + (n + 1) * 24 ≡ task.table + n * 24 + length gr = omega arith in
      let j : task.lists + (e + c) * 8 ≡ task.lists + e * 8 + length er = omega arith in
      rw (i, j, group-bytes g e x xs, entry-bytes told x xs sh) (over-four room (task.table + n * 24) gr gb (task.lists + e * 8) er eb (omega arith) (omega arith))

  long-written : (t : Progress) (room : List ℕ) (x : Item) → task.table + t.groups * 24 + 24 ≤ length room → task.lists + t.entries * 8 + length (list_in x) * 8 ≤ length room
      → length (written task words x.constraint (ids_in x) (list_in x) t room) ≡ length room
  unfolding written
  long-written t room x h k =
      let gr = group_record x.constraint (ids_in x) t.entries (length (list_in x)) in
      let er = list_records words (ids_in x) (list_in x) in
      let lg : length gr ≡ 24 = length-ids x.constraint x.keyed.key t.entries (length (list_in x)) in
      let le : length er ≡ length (list_in x) * 8 = length-records words (ids_in x) (list_in x) in
      let a : length (over room (task.table + t.groups * 24) gr) ≡ length room = length-over room (task.table + t.groups * 24) gr (omega arith) in
      length-over (over room (task.table + t.groups * 24) gr) (task.lists + t.entries * 8) er (omega arith) ∙ a

  -- the groups from number n on, whose entries start at e, written one after another
  pub write-fits : task.deed ≡ Write → task.table + task.groups * 24 ≤ task.lists → (n e : ℕ) (room : List ℕ) (xs : List Item) → all short xs ≡ true
      → n + length xs ≤ task.groups → e + total xs ≤ task.entries → task.lists + task.entries * 8 ≤ length room
      → emit_items task words store (output_of (start n e) room) xs
      ≡ output_of (start (n + length xs) (e + total xs)) (over (over room (task.table + n * 24) (group_bytes e (map (group_for g) xs))) (task.lists + e * 8) (entry_bytes (map (group_for g) xs)))
  unfolding emit_items total all group_bytes entry_bytes flat_map
  write-fits deed apart n e room [] sh hg he fits = rw (add-zero, add-zero, over-nil, over-nil)
  write-fits deed apart n e room (x ∷ xs) sh hg he fits =
      let c = length (list_in x) in
      let sx = first-holds (short x) (all short xs) sh in
      let sxs = second-holds (short x) (all short xs) sh in
      let w : within task (start n e) c ≡ true = inside task words store (start n e) c (omega arith) (omega arith) in
      let room' = written task words x.constraint (ids_in x) (list_in x) (start n e) room in
      let long : length room' ≡ length room = long-written (start n e) room x (omega arith) (omega arith) in
      let one =
      emit-write task words store x.constraint (ids_in x) (list_in x) (start n e) room true refl (sym w) refl {t' = counted (start n e) c false} {room' = room'}
      deed refl refl in
      let ih = write-fits deed apart (n + 1) (e + c) room' xs sxs (omega arith) (omega arith) (omega arith) in
      let step = write-step apart n e room x xs sx sxs hg he fits in
      let eg : n + 1 + length xs ≡ n + suc (length xs) = omega arith in
      let ee : e + c + total xs ≡ e + (c + total xs) = omega arith in
      ap (λ s. emit_items task words store s xs) (sym one) ∙ ih ∙ rw (eg, ee) (ap (output_of (start (n + suc (length xs)) (e + (c + total xs)))) step)

  -- the first group and the others, in the store
  one-group : ℕ → ℕ → Item → Bool
  one-group n e x = same (part store (task.table + n * 24) (task.table + n * 24 + 24)) (group_record x.constraint (ids_in x) e (length (list_in x)))

  one-list : ℕ → Item → Bool
  one-list e x = same (part store (task.lists + e * 8) (task.lists + e * 8 + length (list_in x) * 8)) (list_records words (ids_in x) (list_in x))

  more-groups : ℕ → ℕ → Item → List Item → Bool
  more-groups n e x xs = same (part store (task.table + (n + 1) * 24) (task.table + (n + 1) * 24 + length xs * 24)) (group_bytes (e + length (list_in x)) (map (group_for g) xs))

  more-lists : ℕ → Item → List Item → Bool
  more-lists e x xs = same (part store (task.lists + (e + length (list_in x)) * 8) (task.lists + (e + length (list_in x)) * 8 + total xs * 8)) (entry_bytes (map (group_for g) xs))

  agree-parts : (n e : ℕ) (x : Item) → agrees task words x.constraint (ids_in x) (list_in x) (start n e) store ≡ (one-group n e x && one-list e x)
  unfolding agrees one-group one-list
  agree-parts n e x = refl

  split-groups : (n e : ℕ) (x : Item) (xs : List Item) → n + suc (length xs) ≤ task.groups → task.table + task.groups * 24 ≤ length store
      → same (part store (task.table + n * 24) (task.table + n * 24 + suc (length xs) * 24)) (group_bytes e (map (group_for g) (x ∷ xs))) ≡ (one-group n e x && more-groups n e x xs)
  unfolding one-group more-groups
  split-groups n e x xs h ft =
      let c = length (list_in x) in
      let at = task.table + n * 24 in
      let gr = group_record x.constraint (ids_in x) e c in
      let gb = group_bytes (e + c) (map (group_for g) xs) in
      let i : suc (length xs) * 24 ≡ 24 + length xs * 24 = omega arith in
      let j : task.table + (n + 1) * 24 ≡ at + 24 = omega arith in
      let lg : length gr ≡ 24 = length-ids x.constraint x.keyed.key e c in
      let lp : length (part store at (at + 24)) ≡ 24 = length-part store at 24 (omega arith) in
      rw (i, j, group-bytes g e x xs, part-add store at 24 (length xs * 24)) (same-append (part store at (at + 24)) (part store (at + 24) (at + 24 + length xs * 24)) gr gb (omega arith))

  split-lists : (e : ℕ) (x : Item) (xs : List Item) → short x ≡ true → e + (length (list_in x) + total xs) ≤ task.entries → task.lists + task.entries * 8 ≤ length store
      → same (part store (task.lists + e * 8) (task.lists + e * 8 + (length (list_in x) + total xs) * 8)) (entry_bytes (map (group_for g) (x ∷ xs))) ≡ (one-list e x && more-lists e x xs)
  unfolding one-list more-lists
  split-lists e x xs sh h fl =
      let c = length (list_in x) in
      let at = task.lists + e * 8 in
      let er = list_records words (ids_in x) (list_in x) in
      let eb = entry_bytes (map (group_for g) xs) in
      let i : (c + total xs) * 8 ≡ c * 8 + total xs * 8 = omega arith in
      let j : task.lists + (e + c) * 8 ≡ at + c * 8 = omega arith in
      let lg : length er ≡ c * 8 = length-records words (ids_in x) (list_in x) in
      let lp : length (part store at (at + c * 8)) ≡ c * 8 = length-part store at (c * 8) (omega arith) in
      rw (i, j, entry-bytes told x xs sh, part-add store at (c * 8) (total xs * 8)) (same-append (part store at (at + c * 8)) (part store (at + c * 8) (at + c * 8 + total xs * 8)) er eb (omega arith))

  -- compared one after another with the bytes of the store
  pub compare-all : task.deed ≡ Compare → (n e : ℕ) (room : List ℕ) (xs : List Item) → all short xs ≡ true
      → n + length xs ≤ task.groups → e + total xs ≤ task.entries → task.table + task.groups * 24 ≤ length store → task.lists + task.entries * 8 ≤ length store
      → (emit_items task words store (output_of (start n e) room) xs).tally.stopped
      ≡ not (same (part store (task.table + n * 24) (task.table + n * 24 + length xs * 24)) (group_bytes e (map (group_for g) xs))
      && same (part store (task.lists + e * 8) (task.lists + e * 8 + total xs * 8)) (entry_bytes (map (group_for g) xs)))
  unfolding emit_items total all group_bytes entry_bytes flat_map same more-groups more-lists
  compare-all deed n e room [] sh hg he ft fl =
      let a : task.table + n * 24 + 0 * 24 - (task.table + n * 24) ≡ 0 = omega arith in
      let b : task.lists + e * 8 + 0 * 8 - (task.lists + e * 8) ≡ 0 = omega arith in
      rw (a, b)
  compare-all deed n e room (x ∷ xs) sh hg he ft fl =
      go (agrees task words x.constraint (ids_in x) (list_in x) (start n e) store) refl
      (compare-all deed (n + 1) (e + length (list_in x)) room xs (second-holds (short x) (all short xs) sh) (omega arith) (omega arith) ft fl)
    where
      c : ℕ
      c = length (list_in x)

      Whole : Bool
      Whole =
          same (part store (task.table + n * 24) (task.table + n * 24 + suc (length xs) * 24)) (group_bytes e (map (group_for g) (x ∷ xs)))
          && same (part store (task.lists + e * 8) (task.lists + e * 8 + (c + total xs) * 8)) (entry_bytes (map (group_for g) (x ∷ xs)))

      Rest : Bool
      Rest =
          same (part store (task.table + (n + 1) * 24) (task.table + (n + 1) * 24 + length xs * 24)) (group_bytes (e + c) (map (group_for g) xs))
          && same (part store (task.lists + (e + c) * 8) (task.lists + (e + c) * 8 + total xs * 8)) (entry_bytes (map (group_for g) xs))

      first : (a : Bool) → a ≡ agrees task words x.constraint (ids_in x) (list_in x) (start n e) store
          → output_of (counted (start n e) c (not a)) room ≡ emit task words store (output_of (start n e) room) x.constraint (ids_in x) (list_in x)
      first a q =
          let w : within task (start n e) c ≡ true = inside task words store (start n e) c (omega arith) (omega arith) in
          emit-compare task words store x.constraint (ids_in x) (list_in x) (start n e) room true refl (sym w) refl {t' = counted (start n e) c (not a)} deed q refl

      parts : Whole ≡ ((one-group n e x && more-groups n e x xs) && (one-list e x && more-lists e x xs))
      parts =
          ap (λ b. b && same (part store (task.lists + e * 8) (task.lists + e * 8 + (c + total xs) * 8)) (entry_bytes (map (group_for g) (x ∷ xs)))) (split-groups n e x xs (omega arith) ft)
          ∙ ap (λ b. (one-group n e x && more-groups n e x xs) && b) (split-lists e x xs (first-holds (short x) (all short xs) sh) he fl)

      go : (a : Bool) → agrees task words x.constraint (ids_in x) (list_in x) (start n e) store ≡ a
          → (emit_items task words store (output_of (start (n + 1) (e + c)) room) xs).tally.stopped ≡ not Rest
          → (emit_items task words store (emit task words store (output_of (start n e) room) x.constraint (ids_in x) (list_in x)) xs).tally.stopped ≡ not Whole
      go true q ih =
          ap (λ s. (emit_items task words store s xs).tally.stopped) (sym (first true (sym q))) ∙ ih
          ∙ ap not (sym (parts ∙ both-hold (one-group n e x) (more-groups n e x xs) (one-list e x) (more-lists e x xs) (sym (agree-parts n e x) ∙ q)))
      go false q ih =
          ap (λ s. (emit_items task words store s xs).tally.stopped) (sym (first false (sym q)))
          ∙ ap (λ s. s.tally.stopped) (items-stopped task words store (counted (start n e) c true) room xs refl)
          ∙ ap not (sym (parts ∙ one-fails (one-group n e x) (more-groups n e x xs) (one-list e x) (more-lists e x xs) (sym (agree-parts n e x) ∙ q)))
