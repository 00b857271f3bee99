-- The bytes of the store that is built, and the outcome of building. Assumes nothing.
use native.Mathlib.Omega.{arith}
use mathlib.Core.Path.{◌≡◌, refl, sym, ap, ◌∙◌}
use mathlib.Core.Bool.{Bool, true, not}
use mathlib.Core.List.{List, [], ◌∷◌, ◌++◌}
use Prim.Native.Nat.{ℕ, ◌+◌, ◌-◌, ◌*◌, ◌≤◌, ◌<◌}
use lib.ListN.{length, take, drop, length-append, length-take, length-drop}
use borrow.Author.Tests.{ne_eqb, le-ltb, lt-ltb}
use lib.Dec.{ltb}
use Rattle.rules.specs.Words.{encoded, over}
use Rattle.rules.specs.Store.{node_count, edge_count, constraint_count, groups_at, header, draft_right}
use Rattle.rules.specs.Index.{group_bytes, entry_bytes, store_index, entry_total, store_of}
use Rattle.rules.specs.Answers.{outcome, build_number, build_outcome, ◌when◌, first_of}
use Rattle.laws.specs.Outcomes.{answered, refused, outcome-answered, outcome-refused}
use Rattle.laws.specs.Refusals.{graph_number, first-given, first-passed, refuses, passes, build-number}
use Rattle.laws.specs.Over.{over-over}
use Rattle.laws.specs.Header.{header-ends, header-long, draft-header, draft-bare}
use Rattle.laws.specs.Sections.{header-length, store-form}
use Rattle.build_groups.specs.Emit.{group_record}
use Rattle.build.specs.Outcome.{gave}

-- ---- the header
pub header-written : (s₀ s₁ s₂ : List ℕ) (n m k g e n' m' k' : ℕ) → n ≡ n' → m ≡ m' → k ≡ k' → 48 ≤ length s₀ → s₁ ≡ over s₀ 0 (group_record 1 (n ∷ m ∷ k ∷ []) g e)
    → s₂ ≡ over s₁ 24 (group_record 48 ((48 + n * 8) ∷ (48 + n * 8 + m * 8) ∷ (48 + n * 8 + m * 8 + k * 12) ∷ []) (48 + n * 8 + m * 8 + k * 12 + g * 24) (48 + n * 8 + m * 8 + k * 12 + g * 24 + e * 8))
    → s₂ ≡ over s₀ 0 (header n' m' k' g e)
unfolding header group_record encoded
header-written s₀ s₁ s₂ n m k g e n' m' k' en em ek fits p q =
    rw (← en, ← em, ← ek)
    (q ∙ ap (λ s. over s 24 (encoded (48 ∷ (48 + n * 8) ∷ (48 + n * 8 + m * 8) ∷ (48 + n * 8 + m * 8 + k * 12) ∷ (48 + n * 8 + m * 8 + k * 12 + g * 24) ∷ (48 + n * 8 + m * 8 + k * 12 + g * 24 + e * 8) ∷ []))) p
    ∙ over-over s₀ 0 (encoded (1 ∷ n ∷ m ∷ k ∷ g ∷ e ∷ [])) (omega arith) (encoded (48 ∷ (48 + n * 8) ∷ (48 + n * 8 + m * 8) ∷ (48 + n * 8 + m * 8 + k * 12) ∷ (48 + n * 8 + m * 8 + k * 12 + g * 24) ∷ (48 + n * 8 + m * 8 + k * 12 + g * 24 + e * 8) ∷ [])))

-- ---- the outcome
module _ (draft room : List ℕ) where
  refused-so : (n : ℕ) → build_number draft room ≡ n → (n ≡ 0 → ⊥) → gave n 0 room ≡ build_outcome draft room
  unfolding build_outcome refused
  refused-so n e z =
      sym (ap (λ k. outcome k (length (store_of draft) ∷ []) (store_of draft) room []) e ∙ outcome-refused n (length (store_of draft) ∷ []) (store_of draft) room [] (ne_eqb n 0 z))

  answered-so : (total : ℕ) (room' : List ℕ) → build_number draft room ≡ 0 → room' ≡ over room 0 (store_of draft) → length (store_of draft) ≡ total → gave 0 total room' ≡ build_outcome draft room
  unfolding build_outcome answered
  answered-so total room' p q r =
      ap (gave 0 total) q ∙ ap (λ n. gave 0 n (over room 0 (store_of draft))) (sym r)
      ∙ sym (ap (λ k. outcome k (length (store_of draft) ∷ []) (store_of draft) room []) p ∙ outcome-answered (length (store_of draft) ∷ []) (store_of draft) room [])

  abbrev ten : ℕ
  ten = 10 when ltb (length room) (length (store_of draft))

  pub gives-one : (d : Bool) → d ≡ draft_right draft → not d ≡ true → gave 1 0 room ≡ build_outcome draft room
  gives-one d ed h = refused-so 1 (build-number draft room ∙ refuses 1 _ (graph_number draft ∷ ten ∷ []) refl (sym (ap not ed) ∙ h)) (λ z. omega arith)

  module _ (right : draft_right draft ≡ true) (n : ℕ) (en : n ≡ graph_number draft) where
    past-one : build_number draft room ≡ first_of (graph_number draft ∷ ten ∷ [])
    past-one = build-number draft room ∙ passes 1 _ (graph_number draft ∷ ten ∷ []) (ap not right)

    pub gives-graph : (n ≡ 0 → ⊥) → gave n 0 room ≡ build_outcome draft room
    gives-graph z = refused-so n (past-one ∙ first-given (graph_number draft) (ten ∷ []) (λ e. z (en ∙ e)) ∙ sym en) z

    module _ (z : n ≡ 0) (total : ℕ) (et : length (store_of draft) ≡ total) where
      past-graph : build_number draft room ≡ first_of (ten ∷ [])
      past-graph = past-one ∙ first-passed (graph_number draft) (ten ∷ []) (sym en ∙ z)

      pub gives-ten : length room < total → gave 10 0 room ≡ build_outcome draft room
      gives-ten h =
          let l : length room < length (store_of draft) = omega arith in
          refused-so 10 (past-graph ∙ refuses 10 _ [] refl (lt-ltb (length room) (length (store_of draft)) l)) (λ z. omega arith)

      pub gives-store : {room' : List ℕ} → total ≤ length room → room' ≡ over room 0 (store_of draft) → gave 0 total room' ≡ build_outcome draft room
      unfolding first_of
      gives-store {room'} h e =
          let l : length (store_of draft) ≤ length room = omega arith in
          answered-so total room' (past-graph ∙ passes 10 _ [] (le-ltb (length room) (length (store_of draft)) l)) e et

-- ---- the bytes of the store
module _ (draft : List ℕ) (g e : ℕ) (right : draft_right draft ≡ true) (eg : g ≡ length (store_index draft)) (ee : e ≡ entry_total (store_index draft))
    (lg : length (group_bytes 0 (store_index draft)) ≡ g * 24) (le : length (entry_bytes (store_index draft)) ≡ e * 8) where
  hd : List ℕ
  hd = header (node_count draft) (edge_count draft) (constraint_count draft) g e

  sections : List ℕ
  sections = take (length draft - 48) (drop 48 draft)

  pub draft-ends : groups_at draft ≡ length draft
  draft-ends =
      let e = header-ends draft (draft-header draft right) in
      let b = draft-bare draft right in
      omega (arith, b.0, b.1)

  length-sections : length sections ≡ length draft - 48
  unfolding sections
  length-sections = simp (length-take, length-drop) (omega arith)

  store-is : store_of draft ≡ hd ++ sections ++ group_bytes 0 (store_index draft) ++ entry_bytes (store_index draft)
  unfolding store_of hd sections
  store-is = store-form draft (store_index draft) (draft-header draft right) ∙ rw (draft-ends, ← eg, ← ee)

  pub store-length : length (store_of draft) ≡ length draft + g * 24 + e * 8
  unfolding hd
  store-length =
      let long = header-long draft (draft-header draft right) in
      let a = length-append (hd ++ sections ++ group_bytes 0 (store_index draft)) (entry_bytes (store_index draft)) in
      let b = length-append (hd ++ sections) (group_bytes 0 (store_index draft)) in
      let c = length-append hd sections in
      let h : length hd ≡ 48 = header-length (node_count draft) (edge_count draft) (constraint_count draft) g e in
      ap length store-is ∙ omega (arith, length-sections)

  -- header, sections, groups and entries, written one after another
  pub store-written : (r₀ r₁ r₂ r₃ : List ℕ) → length draft + g * 24 + e * 8 ≤ length r₀ → r₁ ≡ over r₀ 0 (header (node_count draft) (edge_count draft) (constraint_count draft) g e)
      → r₂ ≡ over r₁ 48 (take (length draft - 48) (drop 48 draft))
      → r₃ ≡ over (over r₂ (groups_at draft) (group_bytes 0 (store_index draft))) (groups_at draft + g * 24) (entry_bytes (store_index draft)) → r₃ ≡ over r₀ 0 (store_of draft)
  unfolding hd sections
  store-written r₀ r₁ r₂ r₃ fits p q r =
      let long = header-long draft (draft-header draft right) in
      let gb = group_bytes 0 (store_index draft) in
      let eb = entry_bytes (store_index draft) in
      let h : length hd ≡ 48 = header-length (node_count draft) (edge_count draft) (constraint_count draft) g e in
      let two : length (hd ++ sections) ≡ length draft = length-append hd sections ∙ omega (arith, length-sections) in
      let three : length (hd ++ sections ++ gb) ≡ length draft + g * 24 = length-append (hd ++ sections) gb ∙ omega arith in
      let q₂ : r₂ ≡ over r₀ 0 (hd ++ sections) = q ∙ ap (λ s. over s 48 sections) p ∙ rw h at (over-over r₀ 0 hd (omega arith) sections) in
      let n₂ : groups_at draft ≡ 0 + length (hd ++ sections) = omega (arith, draft-ends) in
      let q₃ : over r₂ (groups_at draft) gb ≡ over r₀ 0 (hd ++ sections ++ gb) =
      ap (λ s. over s (groups_at draft) gb) q₂ ∙ ap (λ n. over (over r₀ 0 (hd ++ sections)) n gb) n₂ ∙ over-over r₀ 0 (hd ++ sections) (omega arith) gb in
      let n : groups_at draft + g * 24 ≡ 0 + length (hd ++ sections ++ gb) = omega (arith, draft-ends) in
      r ∙ ap (λ s. over s (groups_at draft + g * 24) eb) q₃ ∙ ap (λ n. over (over r₀ 0 (hd ++ sections ++ gb)) n eb) n
      ∙ over-over r₀ 0 (hd ++ sections ++ gb) (omega arith) eb ∙ ap (over r₀ 0) (sym store-is)
