-- The bytes of groups and entries, read back: the words of each group, and the entries of each list. Assumes nothing.
use Rattle.std.specs.Prelude.{◌≡◌, Bool, ◌&&◌, ℕ, zero, suc, ◌+◌, ◌*◌, ◌-◌, ◌<◌, ltb, eqb, length, take}
use Rattle.std.proofs.Math.Path.{refl, sym}
use Rattle.std.proofs.Common.{ap, ◌∙◌, add_assoc, add-zero, length-append, length-take, take_at, drop_at, ltb-true, eq-eqb, eqb-true}
use Rattle.std.proofs.Math.Bool.{true, false, and-false, or-false}
use Rattle.std.proofs.lemmas.Bool.{false≢true}
use mathlib.Core.List.{List, [], ◌∷◌, ◌++◌, flat_map}
use native.Mathlib.Omega.{arith}
use Rattle.std.proofs.Math.ListN.{get_or}
use Rattle.std.proofs.lemmas.List.{length-map}
use Rattle.rules.specs.Words.{u32_at, u32_bytes, encoded, part}
use Rattle.rules.specs.Lists.{all, sum, padded, less_then, range}
use Rattle.rules.specs.Index.{Group, no_id, group_bytes, list_bytes, entry_bytes, entry_total}
use Rattle.rules.specs.Listing.{precedes, equals, key_of, entry_at, entry_list, list_part}
use Rattle.rules.specs.declared.Entry.{Entry}
use Rattle.rules.specs.declared.Key.{Key}
use Rattle.laws.specs.Cases.{first-holds, second-holds}
use Rattle.laws.specs.Words.{Words, words-read, word-of-bytes, length-encoded, byte-behind, word-behind}
use Rattle.laws.specs.Map.{flat-append}
use Rattle.laws.specs.Places.{ahead, ahead-self, group_words, key_words}
use Rattle.laws.specs.Range.{map-range, length-range}

-- ---- how many bytes there are
pub padded-length : (x : ℕ) (l : List ℕ) → length (padded x l) ≡ 3
unfolding padded
padded-length x l = simp (length-take, length-append) (omega arith)

pub group-length : (start : ℕ) (groups : List Group) → length (group_bytes start groups) ≡ length groups * 24
unfolding group_bytes
group-length start [] = refl
group-length start (x ∷ xs) =
    let n = length x.entries in
    let words = x.constraint ∷ padded no_id x.key ++ start ∷ n ∷ [] in
    let six : length words ≡ 6 = simp length-append (omega (arith, padded-length no_id x.key)) in
    length-append (encoded words) (group_bytes (start + n) xs) ∙ omega (arith, length-encoded words, group-length (start + n) xs)

pub list-length : (l : List Entry) → length (list_bytes l) ≡ length l * 8
unfolding list_bytes flat_map
list-length [] = refl
list-length (x ∷ xs) = omega (arith, list-length xs)

pub entry-length : (groups : List Group) → length (entry_bytes groups) ≡ entry_total groups * 8
unfolding entry_bytes entry_total flat_map sum
entry-length [] = refl
entry-length (x ∷ xs) =
    length-append (list_bytes x.entries) (entry_bytes xs) ∙ omega (arith, list-length x.entries, entry-length xs)

-- ---- the words of a group
pub padded-three : (x : ℕ) (l : List ℕ) → padded x l ≡ get_or l 0 x ∷ get_or l 1 x ∷ get_or l 2 x ∷ []
unfolding padded
padded-three x [] = refl
padded-three x (a ∷ []) = refl
padded-three x (a ∷ b ∷ []) = refl
padded-three x (a ∷ b ∷ c ∷ l) = refl

-- constraint and ids are words
abbrev pub small : ℕ → Bool
small u = ltb u 4294967296

abbrev pub are_words : Group → Bool
are_words x = small x.constraint && all small x.key

-- no group: what stands past the last
abbrev pub no_group : Group
no_group = record { constraint = 0; key = []; entries = [] }

abbrev six_words : ℕ → Group → List ℕ
six_words start x = x.constraint ∷ padded no_id x.key ++ start ∷ length x.entries ∷ []

-- what is read of group i, which starts at this entry
pub record GroupAt (bytes : List ℕ) (i : ℕ) (x : Group) (at : ℕ) : Type 0 where
  pub words : u32_at bytes (i * 24) ∷ u32_at bytes (i * 24 + 4) ∷ u32_at bytes (i * 24 + 8) ∷ u32_at bytes (i * 24 + 12) ∷ [] ≡ group_words x
  pub start : u32_at bytes (i * 24 + 16) ≡ at
  pub count : u32_at bytes (i * 24 + 20) ≡ length x.entries

small-get : (l : List ℕ) (j : ℕ) → all small l ≡ true → get_or l j no_id < 4294967296
unfolding all
small-get [] j h = omega arith
small-get (x ∷ l) zero h = ltb-true x 4294967296 (first-holds (small x) (all small l) h)
small-get (x ∷ l) (suc j) h = small-get l j (second-holds (small x) (all small l) h)

first-group : (x : Group) (start : ℕ) (rest : List ℕ) → are_words x ≡ true → start + length x.entries < 4294967296
    → GroupAt (encoded (six_words start x) ++ rest) 0 x start
first-group x start rest h k =
    let ids = x.key in
    let six = x.constraint ∷ get_or ids 0 no_id ∷ get_or ids 1 no_id ∷ get_or ids 2 no_id ∷ start ∷ length x.entries ∷ [] in
    let n = all small ids in
    let e : padded no_id ids ≡ get_or ids 0 no_id ∷ get_or ids 1 no_id ∷ get_or ids 2 no_id ∷ [] = padded-three no_id ids in
    let c : x.constraint < 4294967296 = ltb-true _ _ (first-holds (small x.constraint) n h) in
    let i = second-holds (small x.constraint) n h in
    let w : Words six =
    unfold Words in (c, (small-get ids 0 i, (small-get ids 1 i, (small-get ids 2 i, (omega arith, (omega arith, tt)))))) in
    let r₀ : u32_at (encoded six ++ rest) 0 ≡ x.constraint = words-read six rest 0 w (omega arith) in
    let r₁ : u32_at (encoded six ++ rest) 4 ≡ get_or ids 0 no_id = words-read six rest 1 w (omega arith) in
    let r₂ : u32_at (encoded six ++ rest) 8 ≡ get_or ids 1 no_id = words-read six rest 2 w (omega arith) in
    let r₃ : u32_at (encoded six ++ rest) 12 ≡ get_or ids 2 no_id = words-read six rest 3 w (omega arith) in
    rw e record {
      words = rw (e, r₀, r₁, r₂, r₃);
      start = words-read six rest 4 w (omega arith);
      count = words-read six rest 5 w (omega arith);
    }

six-length : (start : ℕ) (x : Group) → length (encoded (six_words start x)) ≡ 24
six-length start x = length-encoded (six_words start x) ∙ rw (padded-three no_id x.key)

-- behind the first group stand the others
later-group : (x y : Group) (start at i : ℕ) (rest : List ℕ) → GroupAt rest i y at → GroupAt (encoded (six_words start x) ++ rest) (suc i) y at
later-group x y start at i rest r =
    let first = encoded (six_words start x) in
    let e₀ : suc i * 24 ≡ 24 + i * 24 = omega arith in
    let e : (k : ℕ) → u32_at (first ++ rest) (24 + i * 24 + k) ≡ u32_at rest (i * 24 + k) =
    λ k. rw (add_assoc 24 (i * 24) k) (word-behind first rest 24 (i * 24 + k) (six-length start x)) in
    record {
      words = rw (e₀, word-behind first rest 24 (i * 24) (six-length start x), e 4, e 8, e 12) r.words;
      start = rw e₀ (e 16 ∙ r.start);
      count = rw e₀ (e 20 ∙ r.count);
    }

-- each group is read back; its list starts where the lists before it end
pub group-at : (groups : List Group) (start i : ℕ) → all are_words groups ≡ true → start + entry_total groups < 4294967296 → i < length groups
    → GroupAt (group_bytes start groups) i (get_or groups i no_group) (start + entry_total (take i groups))
unfolding group_bytes entry_total sum all
group-at [] start i h k l = absurd (omega arith)
group-at (x ∷ xs) start zero h k l =
    rw (add-zero start) (first-group x start (group_bytes (start + length x.entries) xs) (first-holds (are_words x) (all are_words xs) h) (omega arith))
group-at (x ∷ xs) start (suc i) h k l =
    let n = length x.entries in
    later-group x (get_or xs i no_group) start (start + entry_total (take (suc i) (x ∷ xs))) i (group_bytes (start + n) xs)
    (rw (add_assoc start n (entry_total (take i xs))) at (group-at xs (start + n) i (second-holds (are_words x) (all are_words xs) h) (omega arith) (omega arith)))

-- ---- the words of a key
module _ (a b c d p q r s : ℕ) where
  four-same : a ∷ b ∷ c ∷ d ∷ [] ≡ p ∷ q ∷ r ∷ s ∷ [] → (eqb a p && eqb b q && eqb c r && eqb d s) ≡ true
  four-same e =
      let e₀ : a ≡ p = cc in
      let e₁ : b ≡ q = cc in
      let e₂ : c ≡ r = cc in
      let e₃ : d ≡ s = cc in
      rw (eq-eqb a p e₀, eq-eqb b q e₁, eq-eqb c r e₂, eq-eqb d s e₃)

  four-equal : (eqb a p && eqb b q && eqb c r && eqb d s) ≡ true → a ∷ b ∷ c ∷ d ∷ [] ≡ p ∷ q ∷ r ∷ s ∷ []
  four-equal h =
      let three = first-holds (eqb a p && eqb b q && eqb c r) (eqb d s) h in
      let two = first-holds (eqb a p && eqb b q) (eqb c r) three in
      let e₀ : a ≡ p = eqb-true a p (first-holds (eqb a p) (eqb b q) two) in
      let e₁ : b ≡ q = eqb-true b q (second-holds (eqb a p) (eqb b q) two) in
      let e₂ : c ≡ r = eqb-true c r (second-holds (eqb a p && eqb b q) (eqb c r) three) in
      let e₃ : d ≡ s = eqb-true d s (second-holds (eqb a p && eqb b q && eqb c r) (eqb d s) h) in
      cc

precedes-words : (bytes : List ℕ) (key : Key) (i : ℕ)
    → precedes bytes key i
    ≡ ahead (u32_at bytes (i * 24) ∷ u32_at bytes (i * 24 + 4) ∷ u32_at bytes (i * 24 + 8) ∷ u32_at bytes (i * 24 + 12) ∷ [])
    (key.constraint ∷ key.first ∷ key.second ∷ key.third ∷ [])
unfolding precedes ahead
precedes-words bytes key i =
    let last : ltb (u32_at bytes (i * 24 + 12)) key.third ≡ less_then (u32_at bytes (i * 24 + 12)) key.third false =
    rw (and-false (eqb (u32_at bytes (i * 24 + 12)) key.third), or-false (ltb (u32_at bytes (i * 24 + 12)) key.third)) in
    ap (λ t. less_then (u32_at bytes (i * 24)) key.constraint (less_then (u32_at bytes (i * 24 + 4)) key.first (less_then (u32_at bytes (i * 24 + 8)) key.second t))) last

key-words : (c : ℕ) (ids : List ℕ) → (key_of c ids).constraint ∷ (key_of c ids).first ∷ (key_of c ids).second ∷ (key_of c ids).third ∷ [] ≡ key_words c ids
unfolding key_of
key-words c ids = ap (λ l. c ∷ l) (sym (padded-three no_id ids))

module _ (bytes : List ℕ) (c : ℕ) (ids : List ℕ) (i : ℕ) (x : Group) (at : ℕ) (r : GroupAt bytes i x at) where
  -- the group precedes the key by its words
  pub group-precedes : precedes bytes (key_of c ids) i ≡ ahead (group_words x) (key_words c ids)
  group-precedes = precedes-words bytes (key_of c ids) i ∙ rw (r.words, key-words c ids)

  -- it equals the key where its words do
  pub group-equals : group_words x ≡ key_words c ids → equals bytes (key_of c ids) i ≡ true
  unfolding equals
  group-equals e = four-same _ _ _ _ _ _ _ _ (r.words ∙ e ∙ sym (key-words c ids))

  -- and does not where the key comes before it
  pub group-other : ahead (key_words c ids) (group_words x) ≡ true → equals bytes (key_of c ids) i ≡ false
  unfolding equals
  group-other h = go (equals bytes (key_of c ids) i) refl
    where
      go : (t : Bool) → equals bytes (key_of c ids) i ≡ t → equals bytes (key_of c ids) i ≡ false
      go true e =
          let same : group_words x ≡ key_words c ids = sym r.words ∙ four-equal _ _ _ _ _ _ _ _ e ∙ key-words c ids in
          absurd (false≢true (sym (ahead-self (key_words c ids)) ∙ rw same at h))
      go false e = e

-- ---- the entries of a list
abbrev pub no_entry : Entry
no_entry = record { node = 0; directions = 0 }

abbrev pub small_node : Entry → Bool
small_node e = small e.node

-- what is read of entry i
pub record EntryAt (bytes : List ℕ) (i : ℕ) (e : Entry) : Type 0 where
  pub node : u32_at bytes (i * 8) ≡ e.node
  pub directions : get_or bytes (i * 8 + 4) 0 ≡ e.directions
  pub fifth : get_or bytes (i * 8 + 5) 0 ≡ 0
  pub sixth : get_or bytes (i * 8 + 6) 0 ≡ 0
  pub seventh : get_or bytes (i * 8 + 7) 0 ≡ 0

abbrev entry_record : Entry → List ℕ
entry_record e = u32_bytes e.node ++ e.directions ∷ 0 ∷ 0 ∷ 0 ∷ []

later-entry : (x e : Entry) (i : ℕ) (rest : List ℕ) → EntryAt rest i e → EntryAt (entry_record x ++ rest) (suc i) e
later-entry x e i rest r =
    let e₀ : suc i * 8 ≡ 8 + i * 8 = omega arith in
    let on : (k : ℕ) → get_or (entry_record x ++ rest) (8 + i * 8 + k) 0 ≡ get_or rest (i * 8 + k) 0 =
    λ k. rw (add_assoc 8 (i * 8) k) (byte-behind (entry_record x) rest 8 (i * 8 + k) refl) in
    record {
      node = rw e₀ (word-behind (entry_record x) rest 8 (i * 8) refl ∙ r.node);
      directions = rw e₀ (on 4 ∙ r.directions);
      fifth = rw e₀ (on 5 ∙ r.fifth);
      sixth = rw e₀ (on 6 ∙ r.sixth);
      seventh = rw e₀ (on 7 ∙ r.seventh);
    }

pub entry-at : (l : List Entry) (i : ℕ) → all small_node l ≡ true → i < length l → EntryAt (list_bytes l) i (get_or l i no_entry)
unfolding list_bytes flat_map all
entry-at [] i h k = absurd (omega arith)
entry-at (x ∷ l) zero h k = record {
  node = unfold u32_at in word-of-bytes x.node (ltb-true _ _ (first-holds (small_node x) (all small_node l) h));
  directions = refl;
  fifth = refl;
  sixth = refl;
  seventh = refl;
}
entry-at (x ∷ l) (suc i) h k = later-entry x (get_or l i no_entry) i (list_bytes l) (entry-at l i (second-holds (small_node x) (all small_node l) h) (omega arith))

pub length-entries : (list : List ℕ) (count : ℕ) → length (entry_list list count) ≡ count
unfolding entry_list
length-entries list count = length-map (range 0 count) (entry_at list) ∙ length-range 0 count

-- so the list is read back
pub list-read : (l : List Entry) → all small_node l ≡ true → entry_list (list_bytes l) (length l) ≡ l
unfolding entry_list
list-read l h = map-range (entry_at (list_bytes l)) no_entry 0 l (λ i k. one i (entry-at l i h k))
  where
    one : (i : ℕ) → EntryAt (list_bytes l) i (get_or l i no_entry) → entry_at (list_bytes l) (0 + i) ≡ get_or l i no_entry
    one i r = let z : 0 + i ≡ i = omega arith in rw (z, r.node, r.directions)

-- ---- the part of the entries that has one list
pub part-middle : (a b c : List ℕ) (i n : ℕ) → length a ≡ i → length b ≡ n → part (a ++ (b ++ c)) i (i + n) ≡ b
part-middle a b c i n p q =
    let e : i + n - i ≡ n = omega arith in
    rw (e, drop_at a (b ++ c) i p) (take_at b c n q)

entries-split : (before : List Group) (x : Group) (after : List Group)
    → entry_bytes (before ++ x ∷ after) ≡ entry_bytes before ++ (list_bytes x.entries ++ entry_bytes after)
unfolding entry_bytes flat_map
entries-split before x after = flat-append (λ x. list_bytes x.entries) before (x ∷ after)

pub list-part : (before : List Group) (x : Group) (after : List Group)
    → list_part (entry_bytes (before ++ x ∷ after)) (entry_total before) (length x.entries) ≡ list_bytes x.entries
list-part before x after =
    rw (entries-split before x after)
    (part-middle (entry_bytes before) (list_bytes x.entries) (entry_bytes after) (entry_total before * 8) (length x.entries * 8) (entry-length before) (list-length x.entries))
