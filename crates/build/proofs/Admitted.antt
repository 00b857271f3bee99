-- Admitting: the store that would be built, compared with the store that is there. Assumes nothing.
use native.Mathlib.Omega.{arith}
use mathlib.Core.Path.{◌≡◌, refl, sym, ap, ◌∙◌}
use mathlib.Core.Bool.{Bool, true, false, not, ◌&&◌}
use mathlib.Core.List.{List, ◌++◌, map, append_assoc}
use Prim.Native.Nat.{ℕ, ◌+◌, ◌-◌, ◌*◌, ◌/◌, ◌%◌, ◌≤◌, ◌<◌}
use lib.ListN.{length, take, drop, get_or, length-drop, take-append-drop}
use lib.Seq.{get_or-take, take_all, length-take-le}
use borrow.Author.Tests.{not-true, not-false}
use Rattle.rules.specs.Words.{part, encoded, u32_at, over}
use Rattle.rules.specs.Lists.{all}
use Rattle.rules.specs.Store.{node_count, edge_count, constraint_count, group_count, entry_count, groups_at, header, header_right, node_part, edge_part, constraint_part, constraints_in}
use Rattle.rules.specs.Graph.{store_graph}
use Rattle.rules.specs.Index.{group_bytes, entry_bytes, store_index, entry_total, store_of}
use Rattle.rules.specs.Answers.{same, admit_number, ◌when◌}
use Rattle.laws.specs.Refusals.{graph_number, admit-one, admit-many, admit-other, admit-same}
use Rattle.laws.specs.Header.{header-ends, header-long}
use Rattle.laws.specs.Same.{same-equal, same-self, same-turned, same-append}
use Rattle.laws.specs.Sections as sections
use Rattle.laws.specs.Sections.{header-length, store-form}
use Rattle.build_edges.specs.Packed.{forward_words}
use Rattle.build_edges.specs.Sound.{joined_set}
use Rattle.build_groups.specs.Emit.{Gives, Placed}
use Rattle.build_keys.specs.Pass.{Right, passed}
use Rattle.build_groups.specs.declared.Deed.TheVariants.{Compare}
use Rattle.build_groups.specs.declared.Purpose.{Purpose}
use Rattle.std.specs.Prelude.{Result, is_ok}
use Rattle.build_groups.specs.declared.Stopped.{Stopped}
use Rattle.build_groups.specs.declared.Tally.{Tally}
use Rattle.build.specs.Steps.{index_same}
use Rattle.laws.specs.Over.{over-all}
use Rattle.build_keys.proofs.Items.{short, total, group_for}
use Rattle.build_keys.proofs.Whole.{compare-all, length-part}
use Rattle.laws.specs.Parts.{part-add}
use Rattle.build_keys.proofs.Index.{items_of, passed-items, index-items, index-length, index-total, write-compare, going-told}
use Rattle.build.proofs.Written.{all-short, told, index-lengths}

-- ---- the index
abbrev pub compare_task : ℕ → ℕ → ℕ → Purpose
compare_task at g e = record { deed = Compare; above_most = false; groups = g; entries = e; table = at; lists = at + g * 24 }

pub placed-compare : (at g e a b : ℕ) → at + g * 24 + e * 8 ≤ a → Placed (compare_task at g e) a b
placed-compare at g e a b h = record { writes = λ o. absurd (write-compare (sym o)); reads = λ o. record { table = omega arith; lists = omega arith } }

pub index-compared : {s : List ℕ} → Right s → (at g e : ℕ) (r : Result Tally Stopped) (room room' : List ℕ) → at ≡ groups_at s → g ≡ length (store_index s) → e ≡ entry_total (store_index s) → groups_at s + g * 24 + e * 8 ≤ length s
    → Gives r room' (passed (compare_task at g e) s s room) → is_ok r ≡ index_same s g e
unfolding items_of index_same
index-compared {s} right at g e r room room' ea eg ee fits q =
    let task = compare_task at g e in
    let xs = items_of right task s in
    let n : length (store_index s) ≡ length xs = index-length right task s refl in
    let m : entry_total (store_index s) ≡ total xs = index-total right task s refl in
    let i : map (group_for (store_graph s)) xs ≡ store_index s = index-items right task s refl in
    let sh : all short xs ≡ true = all-short task (forward_words (edge_part s)) s (node_part s) (joined_set (edge_part s)) (constraint_part s) 0 (constraints_in (constraint_part s)) in
    let w = compare-all task (told right) s refl 0 0 room xs sh (omega arith) (omega arith) (omega arith) (omega arith) in
    let a : at + 0 * 24 ≡ groups_at s = omega arith in
    let b : at + g * 24 + 0 * 8 ≡ groups_at s + g * 24 = omega arith in
    let x : length xs ≡ g = omega arith in
    let y : total xs ≡ e = omega arith in
    let v = ap (λ x. x.tally.stopped) (passed-items right task s room) ∙ w in
    going-told r room' (passed task s s room) q ∙ ap not (rw (i, a, b, x, y) at v) ∙ not-not _
  where
    not-not : (b : Bool) → not (not b) ≡ b
    not-not true = refl
    not-not false = refl

-- ---- the header tells the counts
whole-word : (x : ℕ) → x < 2000000 → x ≡ x % 256 + x / 256 % 256 * 256 + x / 65536 % 256 * 65536 + x / 16777216 % 256 * 16777216
whole-word x h = omega arith

word-at : (s : List ℕ) (i x : ℕ) → x < 2000000 → x % 256 ≡ get_or s i 0 → x / 256 % 256 ≡ get_or s (i + 1) 0 → x / 65536 % 256 ≡ get_or s (i + 2) 0
    → x / 16777216 % 256 ≡ get_or s (i + 3) 0 → x ≡ u32_at s i
unfolding u32_at
word-at s i x h a b c d = whole-word x h ∙ rw (a, b, c, d)

at16 : (n m k g e : ℕ) → g % 256 ≡ get_or (header n m k g e) 16 0
unfolding header encoded
at16 n m k g e = refl

at17 : (n m k g e : ℕ) → g / 256 % 256 ≡ get_or (header n m k g e) 17 0
unfolding header encoded
at17 n m k g e = refl

at18 : (n m k g e : ℕ) → g / 65536 % 256 ≡ get_or (header n m k g e) 18 0
unfolding header encoded
at18 n m k g e = refl

at19 : (n m k g e : ℕ) → g / 16777216 % 256 ≡ get_or (header n m k g e) 19 0
unfolding header encoded
at19 n m k g e = refl

at20 : (n m k g e : ℕ) → e % 256 ≡ get_or (header n m k g e) 20 0
unfolding header encoded
at20 n m k g e = refl

at21 : (n m k g e : ℕ) → e / 256 % 256 ≡ get_or (header n m k g e) 21 0
unfolding header encoded
at21 n m k g e = refl

at22 : (n m k g e : ℕ) → e / 65536 % 256 ≡ get_or (header n m k g e) 22 0
unfolding header encoded
at22 n m k g e = refl

at23 : (n m k g e : ℕ) → e / 16777216 % 256 ≡ get_or (header n m k g e) 23 0
unfolding header encoded
at23 n m k g e = refl

module _ (s : List ℕ) (n m k g e : ℕ) (alike : same (header n m k g e) (take 48 s) ≡ true) where
  read : (i : ℕ) → i < 48 → get_or s i 0 ≡ get_or (header n m k g e) i 0
  read i h = sym (get_or-take 48 s i 0 h) ∙ ap (λ l. get_or l i 0) (sym (same-equal (header n m k g e) (take 48 s) alike))

  pub header-groups : g ≤ 262144 → g ≡ group_count s
  header-groups h = word-at s 16 g (omega arith) (at16 n m k g e ∙ sym (read 16 (omega arith))) (at17 n m k g e ∙ sym (read 17 (omega arith))) (at18 n m k g e ∙ sym (read 18 (omega arith))) (at19 n m k g e ∙ sym (read 19 (omega arith)))

  pub header-entries : e ≤ 1048576 → e ≡ entry_count s
  header-entries h = word-at s 20 e (omega arith) (at20 n m k g e ∙ sym (read 20 (omega arith))) (at21 n m k g e ∙ sym (read 21 (omega arith))) (at22 n m k g e ∙ sym (read 22 (omega arith))) (at23 n m k g e ∙ sym (read 23 (omega arith)))

-- a store by its parts
split-store : (s : List ℕ) (at g e : ℕ) → at + g * 24 + e * 8 ≡ length s → 48 ≤ at
    → s ≡ take 48 s ++ (part s 48 at ++ (part s at (at + g * 24) ++ part s (at + g * 24) (at + g * 24 + e * 8)))
split-store s at g e whole low =
    let x = at - 48 in
    let e₁ : length s ≡ 48 + (x + (g * 24 + e * 8)) = omega arith in
    let e₂ : 48 + x ≡ at = omega arith in
    let d : drop 48 s ≡ part s 48 (length s) = sym (take_all (length s - 48) (drop 48 s) (rw length-drop (omega arith))) in
    let p : part s 48 (length s) ≡ part s 48 at ++ part s at (at + (g * 24 + e * 8)) = rw e₂ at (ap (part s 48) e₁ ∙ part-add s 48 x (g * 24 + e * 8)) in
    sym (take-append-drop 48 s) ∙ ap (λ l. take 48 s ++ l) (d ∙ p ∙ ap (λ l. part s 48 at ++ l) (part-add s at (g * 24) (e * 8)))

-- ---- the whole store
module _ {s : List ℕ} (right : Right s) (g e : ℕ) (eg : g ≡ length (store_index s)) (ee : e ≡ entry_total (store_index s)) where
  hd : List ℕ
  hd = header (node_count s) (edge_count s) (constraint_count s) g e

  gb : List ℕ
  gb = group_bytes 0 (store_index s)

  eb : List ℕ
  eb = entry_bytes (store_index s)

  store-is : store_of s ≡ hd ++ part s 48 (groups_at s) ++ gb ++ eb
  unfolding store_of hd gb eb
  store-is = store-form s (store_index s) right.header ∙ rw (← eg, ← ee)

  long-header : length hd ≡ length (take 48 s)
  unfolding hd
  long-header = let long = header-long s right.header in header-length (node_count s) (edge_count s) (constraint_count s) g e ∙ sym (length-take-le 48 s long)

  store-right : store_of s ≡ hd ++ (part s 48 (groups_at s) ++ (gb ++ eb))
  store-right = store-is ∙ append_assoc (hd ++ part s 48 (groups_at s)) gb eb ∙ append_assoc hd (part s 48 (groups_at s)) (gb ++ eb)

  pub header-differs : same (header (node_count s) (edge_count s) (constraint_count s) g e) (take 48 s) ≡ false → same (store_of s) s ≡ false
  unfolding hd
  header-differs h =
      let rest = part s 48 (groups_at s) ++ (gb ++ eb) in
      let a : store_of s ≡ hd ++ rest = store-right in
      ap (λ l. same l s) a ∙ ap (same (hd ++ rest)) (sym (take-append-drop 48 s)) ∙ same-append hd rest (take 48 s) (drop 48 s) long-header ∙ ap (λ b. b && same rest (drop 48 s)) h

  pub header-agrees : same (header (node_count s) (edge_count s) (constraint_count s) g e) (take 48 s) ≡ true → groups_at s + g * 24 + e * 8 ≡ length s → same (store_of s) s ≡ index_same s g e
  unfolding hd gb eb index_same
  header-agrees h whole =
      let at = groups_at s in
      let sec = part s 48 at in
      let p₁ = part s at (at + g * 24) in
      let p₂ = part s (at + g * 24) (at + g * 24 + e * 8) in
      let own = split-store s at g e whole (omega arith) in
      let l = index-lengths right g e eg ee in
      let lp : length p₁ ≡ g * 24 = length-part s at (g * 24) (omega arith) in
      let lg : length gb ≡ length p₁ = l.0 ∙ sym lp in
      ap (λ x. same x s) store-right ∙ ap (same (hd ++ (sec ++ (gb ++ eb)))) own
      ∙ same-append hd (sec ++ (gb ++ eb)) (take 48 s) (sec ++ (p₁ ++ p₂)) long-header ∙ ap (λ b. b && same (sec ++ (gb ++ eb)) (sec ++ (p₁ ++ p₂))) h
      ∙ same-append sec (gb ++ eb) sec (p₁ ++ p₂) refl ∙ ap (λ b. b && same (gb ++ eb) (p₁ ++ p₂)) (same-self sec)
      ∙ same-append gb eb p₁ p₂ lg ∙ ap (λ b. b && same eb p₂) (same-turned gb p₁) ∙ ap (λ b. same p₁ gb && b) (same-turned eb p₂)

-- ---- the number
module _ (s : List ℕ) where
  pub admits-not : (h : Bool) → h ≡ header_right s → not h ≡ true → 1 ≡ admit_number s
  admits-not h eh x = sym (admit-one s (sym eh ∙ not-true h x))

  module _ (head : header_right s ≡ true) (n : ℕ) (en : n ≡ graph_number s) where
    pub admits-many : n ≡ 11 → 5 ≡ admit_number s
    admits-many z = sym (admit-many s head (sym en ∙ z))

    pub admits-graph : (n ≡ 11 → ⊥) → (n ≡ 0 → ⊥) → n ≡ admit_number s
    admits-graph f z = en ∙ sym (admit-other s head (λ q. z (en ∙ q)) (λ q. f (en ∙ q)))

  module _ (right : Right s) (n : ℕ) (en : n ≡ graph_number s) (z : n ≡ 0) (g e : ℕ) (counts : n ≡ 0 → (g ≡ length (store_index s)) × (e ≡ entry_total (store_index s))) where
    pub few-groups : g ≤ 262144
    few-groups = let c = counts z in omega (arith, sections.few-groups s (sym en ∙ z), c.0)

    pub few-entries : e ≤ 1048576
    few-entries = let c = counts z in omega (arith, sections.few-entries s (sym en ∙ z), c.1)

    settled : (b : Bool) → same (store_of s) s ≡ b → admit_number s ≡ 5 when not b
    settled b q = admit-same s right.header (sym en ∙ z) ∙ ap (λ x. 5 when not x) q

    module _ (r : Bool) (er : r ≡ same (header (node_count s) (edge_count s) (constraint_count s) g e) (take 48 s)) where
      pub admits-header : not r ≡ true → 5 ≡ admit_number s
      unfolding ◌when◌
      admits-header x = sym (settled false (header-differs right g e (counts z).0 (counts z).1 (sym er ∙ not-true r x)))

      module _ (hr : not r ≡ false) where
        alike : same (header (node_count s) (edge_count s) (constraint_count s) g e) (take 48 s) ≡ true
        alike = sym er ∙ not-false r hr

        pub ends : groups_at s + g * 24 + e * 8 ≡ length s
        ends =
            let a : g ≡ group_count s = header-groups s (node_count s) (edge_count s) (constraint_count s) g e alike few-groups in
            let b : e ≡ entry_count s = header-entries s (node_count s) (edge_count s) (constraint_count s) g e alike few-entries in
            let l = header-ends s right.header in
            omega arith

        module _ (i : Bool) (ei : i ≡ index_same s g e) where
          pub admits-index : not i ≡ true → 5 ≡ admit_number s
          unfolding ◌when◌
          admits-index x = sym (settled false (header-agrees right g e (counts z).0 (counts z).1 alike ends ∙ sym ei ∙ not-true i x))

          pub admits : not i ≡ false → 0 ≡ admit_number s
          unfolding ◌when◌
          admits x = sym (settled true (header-agrees right g e (counts z).0 (counts z).1 alike ends ∙ sym ei ∙ not-false i x))

pub compared-left : (own own₀ w b : List ℕ) (r : Bool) → r ≡ same own b → own ≡ over own₀ 0 w → length own₀ ≤ length w → r ≡ same w b
compared-left own own₀ w b r q e h = q ∙ ap (λ l. same l b) (e ∙ over-all own₀ w h)
