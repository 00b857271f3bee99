-- What the lookup of a key finds among the groups of an index. Assumes nothing.
use Rattle.std.specs.Prelude.{◌≡◌, false, ◌&&◌, List, ◌∷◌, ◌++◌, ltb}
use Rattle.std.proofs.Math.Path.{refl, ap}
use Rattle.std.proofs.Common.{◌∙◌, add-zero, get_or-append-add}
use Rattle.std.proofs.Math.Bool.{true, cond, not}
use Prim.Native.Nat.{ℕ, suc, ◌+◌, ◌-◌, ◌*◌, ◌≤◌, ◌<◌}
use Rattle.std.proofs.Math.Decide.{dec_le}
use native.Mathlib.Omega.{arith}
use Rattle.std.proofs.Math.ListN.{length, get_or, take, length-append, get_or-append}
use Rattle.std.proofs.Math.Seq.{take_at}
use borrow.Author.Tests.{lt-ltb, le-ltb, not-true}
use Rattle.rules.specs.Words.{u32_at}
use Rattle.rules.specs.Lists.{all}
use Rattle.rules.specs.Store.{groups_in}
use Rattle.rules.specs.Index.{Group, group_bytes, entry_total}
use Rattle.rules.specs.Listing.{precedes, equals, key_of, low_of, bounds_at, found_at, found}
use Rattle.std.specs.Prelude.{Some, None}
use Rattle.laws.specs.Searching.{Splits, halving-finds}
use Rattle.laws.specs.GroupBytes.{group-length, are_words, no_group, GroupAt, group-at, group-precedes, group-equals, group-other}
use Rattle.laws.specs.Places.{ahead, ahead-self, ahead-after, group_words, key_words}
use Rattle.laws.specs.All.{all-at, all-more, all-weaken}

pub groups-counted : (groups : List Group) → groups_in (group_bytes 0 groups) ≡ length groups
groups-counted groups = let e = group-length 0 groups in omega arith

-- groups that are words, with so few entries that each start is one
pub record Fits (groups : List Group) : Type 0 where
  pub words : all are_words groups ≡ true
  pub few : entry_total groups < 4294967296

-- those of `before` come before the key, those of `later` don't
module _ (c : ℕ) (ids : List ℕ) (groups before later : List Group) (fits : Fits groups) (whole : groups ≡ before ++ later)
    (lower : all (λ x. ahead (group_words x) (key_words c ids)) before ≡ true) (rest : all (λ x. not (ahead (group_words x) (key_words c ids))) later ≡ true) where
  size : length groups ≡ length before + length later
  size = ap length whole ∙ length-append before later

  pub read-at : (i : ℕ) → i < length groups → GroupAt (group_bytes 0 groups) i (get_or groups i no_group) (0 + entry_total (take i groups))
  read-at i h = group-at groups 0 i fits.words (let k = fits.few in omega arith) h

  precedes-at : (i : ℕ) → i < length groups → precedes (group_bytes 0 groups) (key_of c ids) i ≡ ahead (group_words (get_or groups i no_group)) (key_words c ids)
  precedes-at i h = group-precedes (group_bytes 0 groups) c ids i (get_or groups i no_group) (0 + entry_total (take i groups)) (read-at i h)

  get-before : (i : ℕ) → i < length before → get_or groups i no_group ≡ get_or before i no_group
  get-before i h = ap (λ l. get_or l i no_group) whole ∙ get_or-append before later no_group i h

  pub get-later : (i : ℕ) → get_or groups (length before + i) no_group ≡ get_or later i no_group
  get-later i = ap (λ l. get_or l (length before + i) no_group) whole ∙ get_or-append-add before later i no_group

  splits : Splits (precedes (group_bytes 0 groups) (key_of c ids)) (groups_in (group_bytes 0 groups)) (length before)
  splits = record {
    within = let n = groups-counted groups in let e = size in omega arith;
    before = λ i h.
        let e = size in
        precedes-at i (omega arith) ∙ ap (λ x. ahead (group_words x) (key_words c ids)) (get-before i h)
        ∙ all-at (λ x. ahead (group_words x) (key_words c ids)) no_group before i lower h;
    after = λ i h k.
        let n = groups-counted groups in
        let e = size in
        let j : length before + (i - length before) ≡ i = omega arith in
        let own : get_or groups i no_group ≡ get_or later (i - length before) no_group = rw j at (get-later (i - length before)) in
        precedes-at i (omega arith) ∙ ap (λ x. ahead (group_words x) (key_words c ids)) own
        ∙ not-true _ (all-at (λ x. not (ahead (group_words x) (key_words c ids))) no_group later (i - length before) rest (omega arith));
  }

  -- so the search ends at the first of `later`
  pub low-ends : low_of (group_bytes 0 groups) (key_of c ids) ≡ length before
  unfolding low_of
  low-ends =
      let n = groups_in (group_bytes 0 groups) in
      halving-finds splits n 0 n (omega arith) splits.within (omega arith) (omega arith)

module _ (c : ℕ) (ids : List ℕ) (groups before after : List Group) (fits : Fits groups)
    (lower : all (λ x. ahead (group_words x) (key_words c ids)) before ≡ true) (upper : all (λ x. ahead (key_words c ids) (group_words x)) after ≡ true) where
  not-before : all (λ x. not (ahead (group_words x) (key_words c ids))) after ≡ true
  not-before =
      all-weaken (λ x. ahead (key_words c ids) (group_words x)) (λ x. not (ahead (group_words x) (key_words c ids))) after
      (λ x h. ap not (ahead-after (key_words c ids) (group_words x) h)) upper

  -- the group of the key is found: its list starts where the lists before it end
  pub found-own : (x : Group) → groups ≡ before ++ x ∷ after → group_words x ≡ key_words c ids
      → found (group_bytes 0 groups) (key_of c ids) ≡ Some (record { start = entry_total before; count = length x.entries })
  unfolding found found_at
  found-own x whole e =
      let n = length before in
      let bytes = group_bytes 0 groups in
      let self : not (ahead (group_words x) (key_words c ids)) ≡ true = rw e (ap not (ahead-self (key_words c ids))) in
      let later : all (λ y. not (ahead (group_words y) (key_words c ids))) (x ∷ after) ≡ true =
      all-more (λ y. not (ahead (group_words y) (key_words c ids))) x after self not-before in
      let low : low_of bytes (key_of c ids) ≡ n = low-ends c ids groups before (x ∷ after) fits whole lower later in
      let size : length groups ≡ n + suc (length after) = ap length whole ∙ length-append before (x ∷ after) in
      let here : get_or groups n no_group ≡ x = rw (add-zero n) at (get-later c ids groups before (x ∷ after) fits whole lower later 0) in
      let front : take n groups ≡ before = ap (take n) whole ∙ take_at before (x ∷ after) n refl in
      let start : 0 + entry_total (take n groups) ≡ entry_total before = let z : 0 + entry_total (take n groups) ≡ entry_total (take n groups) = omega arith in z ∙ ap entry_total front in
      let r : GroupAt bytes n x (entry_total before) = rw (here, start) at (read-at c ids groups before (x ∷ after) fits whole lower later n (omega arith)) in
      rw (low, lt-ltb n (groups_in bytes) (omega (arith, groups-counted groups)), group-equals bytes c ids n x (entry_total before) r e, r.start, r.count)

  -- a key with no group is not found
  pub found-none : groups ≡ before ++ after → found (group_bytes 0 groups) (key_of c ids) ≡ None
  unfolding found found_at
  found-none whole = rw low (ap (λ t. cond t (Some (bounds_at bytes n)) None) (go (dec_le (groups_in bytes) n)))
    where
      n : ℕ
      n = length before

      bytes : List ℕ
      bytes = group_bytes 0 groups

      low : low_of bytes (key_of c ids) ≡ n
      low = low-ends c ids groups before after fits whole lower not-before

      size : length groups ≡ n + length after
      size = ap length whole ∙ length-append before after

      go : Dec (groups_in bytes ≤ n) → (ltb n (groups_in bytes) && equals bytes (key_of c ids) n) ≡ false
      go (yes h) = rw (le-ltb n (groups_in bytes) h)
      go (no h) =
          let e = groups-counted groups in
          let s = size in
          let here : get_or groups n no_group ≡ get_or after 0 no_group = rw (add-zero n) at (get-later c ids groups before after fits whole lower not-before 0) in
          let r = read-at c ids groups before after fits whole lower not-before n (omega arith) in
          let next : ahead (key_words c ids) (group_words (get_or groups n no_group)) ≡ true =
          rw here (all-at (λ x. ahead (key_words c ids) (group_words x)) no_group after 0 upper (omega arith)) in
          rw (lt-ltb n (groups_in bytes) (omega arith)) (group-other bytes c ids n (get_or groups n no_group) (0 + entry_total (take n groups)) r next)
