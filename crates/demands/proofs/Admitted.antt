-- What building and admitting have to do with each other, in terms of what the two calls promise. Assumes nothing.
use Rattle.std.specs.Prelude.{◌≡◌, true, ◌↔◌, List, [], ◌∷◌, ℕ, ◌≤◌, length, take}
use Rattle.std.proofs.Common.{sym, ap, ◌∙◌}
use Rattle.rules.specs.Words.{over}
use Rattle.rules.specs.Store.{header_right}
use Rattle.rules.specs.Index.{draft_of, store_of}
use Rattle.rules.specs.Answers.{outcome, build_number, build_outcome, admit_number, admit_outcome}
use Rattle.laws.specs.Outcomes.{answered, outcome-answered, outcome-number, outcome-results}
use Rattle.laws.specs.Refusals.{graph_number}
use Rattle.laws.specs.Header.{draft-header}
use Rattle.laws.specs.Sections.{graph_number-alike, store_of-alike}
use Rattle.laws.specs.Over.{over-front}
use Rattle.laws.specs.Drafts.{draft-graph_number, draft-right, draft-store_of}
use Rattle.laws.specs.Stores.{store-alike, store-right}
use Rattle.demands.specs.Numbers.{Sound}
use Rattle.demands.proofs.Numbers.{admitted-sound, sound-admitted, answered-buildable, buildable-answered, number-alike}
use Rattle.demands.specs.Admitted.{Independent}

-- ---- the draft of a store whose header is right
-- the number of a building outcome is the building number
pub built-number : (d room : List ℕ) → (build_outcome d room).number ≡ build_number d room
unfolding build_outcome
built-number d room = outcome-number (build_number d room) (length (store_of d) ∷ []) (store_of d) [] room

-- the number of an admitting outcome is the admitting number
pub admitting-number : (s : List ℕ) → (admit_outcome s).number ≡ admit_number s
unfolding admit_outcome
admitting-number s = outcome-number (admit_number s) [] [] [] []

-- an outcome with the number 0 has the store's length, and the store written over the room
pub built-whole : (d room : List ℕ) → build_number d room ≡ 0
    → build_outcome d room ≡ record { number = 0; results = length (store_of d) ∷ []; room = over room 0 (store_of d); second = []; work = [] }
unfolding build_outcome answered
built-whole d room q = rw q (outcome-answered (length (store_of d) ∷ []) (store_of d) room [])

-- An admitted store is what building gives from its own nodes, edges and constraints, in any room that holds it: if admitting answers 0, then building from the draft of the store answers 0, gives the store's length and writes the store's own bytes over the room.
pub admitted-built : (s : List ℕ) → admit_number s ≡ 0 → (room : List ℕ) → length s ≤ length room
    → build_outcome (draft_of s) room ≡ record { number = 0; results = length s ∷ []; room = over room 0 s; second = []; work = [] }
admitted-built s q room h =
    let x = admitted-sound s q in
    let e : store_of (draft_of s) ≡ s = draft-store_of s x.right ∙ x.built in
    let fits : length (store_of (draft_of s)) ≤ length room = rw e h in
    let zero : build_number (draft_of s) room ≡ 0 =
    buildable-answered (draft_of s) room record { right = draft-right s x.right; graph = draft-graph_number s x.right ∙ x.graph; fits = fits } in
    built-whole (draft_of s) room zero ∙ rw e

-- ---- what the room held
results-alike : (d a b : List ℕ) → length a ≡ length b → (build_outcome d a).results ≡ (build_outcome d b).results
unfolding build_outcome
results-alike d a b e =
    outcome-results (build_number d a) (length (store_of d) ∷ []) (store_of d) [] a b
    ∙ ap (λ x. (outcome x (length (store_of d) ∷ []) (store_of d) b []).results) (number-alike d a b e)

-- on 0 the front of the room is the store
pub built-front : (d room : List ℕ) → build_number d room ≡ 0 → take (length (store_of d)) (build_outcome d room).room ≡ store_of d
built-front d room q = ap (λ o. take (length (store_of d)) o.room) (built-whole d room q) ∙ over-front room (store_of d)

-- Building does not depend on what the room held: this is so of any two rooms of the same length, for any draft.
pub built-independent : (d a b : List ℕ) → length a ≡ length b → Independent d a b
built-independent d a b e =
    record {
      number = built-number d a ∙ number-alike d a b e ∙ sym (built-number d b);
      results = results-alike d a b e;
      bytes = λ q.
          let za : build_number d a ≡ 0 = sym (built-number d a) ∙ q in
          let zb : build_number d b ≡ 0 = sym (number-alike d a b e) ∙ za in
          built-front d a za ∙ sym (built-front d b zb);
    }

-- ---- what building gives
store-sound : (d : List ℕ) → header_right d ≡ true → graph_number d ≡ 0 → Sound (store_of d)
store-sound d right fine =
    let alike = store-alike d right fine in
    record {
      right = store-right d right fine;
      graph = graph_number-alike (store_of d) d alike ∙ fine;
      built = store_of-alike (store_of d) d alike;
    }

-- What building gives is admitted: if building answers 0 for a draft and some room, then admitting answers 0 for the store that it writes.
pub built-store-admitted : (d room : List ℕ) → (build_outcome d room).number ≡ 0 → admit_number (store_of d) ≡ 0
built-store-admitted d room q =
    let x = answered-buildable d room (sym (built-number d room) ∙ q) in
    sound-admitted (store_of d) (store-sound d (draft-header d x.right) x.graph)

-- The same of the bytes as they stand in the room: if building answers 0, then admitting answers 0 for the front of the room, as long as the store.
pub built-room-admitted : (d room : List ℕ) → (build_outcome d room).number ≡ 0
    → admit_number (take (length (store_of d)) (build_outcome d room).room) ≡ 0
built-room-admitted d room q = rw (built-front d room (sym (built-number d room) ∙ q)) (built-store-admitted d room q)

-- A store that building gives from the store's own nodes, edges and constraints is admitted: if building from the draft of s answers 0 for some room, and the store that it writes is s, then admitting answers 0 for s. The header of s is not assumed to be right.
pub built-admitted : (s room : List ℕ) → (build_outcome (draft_of s) room).number ≡ 0 → store_of (draft_of s) ≡ s → admit_number s ≡ 0
built-admitted s room q e = rw e at (built-store-admitted (draft_of s) room q)

-- two stores are equal if building answers 0 with the one, and leaves the room, and gives the length, as for the other
written-same : (d s room : List ℕ) → build_outcome d room ≡ record { number = 0; results = length s ∷ []; room = over room 0 s; second = []; work = [] } → store_of d ≡ s
written-same d s room whole =
    let none : build_number d room ≡ 0 = sym (built-number d room) ∙ ap (λ o. o.number) whole in
    let both : length (store_of d) ∷ [] ≡ length s ∷ [] = ap (λ o. o.results) (sym (built-whole d room none) ∙ whole) in
    let size : length (store_of d) ≡ length s = cc in
    let front : take (length (store_of d)) (over room 0 s) ≡ store_of d = ap (λ o. take (length (store_of d)) o.room) (sym whole) ∙ built-front d room none in
    sym front ∙ ap (λ n. take n (over room 0 s)) size ∙ over-front room s

-- The same from the whole outcome: if building from the draft of s answers 0, gives the length of s and leaves s written over the room, then admitting answers 0 for s.
pub built-same-admitted : (s room : List ℕ)
    → build_outcome (draft_of s) room ≡ record { number = 0; results = length s ∷ []; room = over room 0 s; second = []; work = [] }
    → admit_number s ≡ 0
built-same-admitted s room whole = built-admitted s room (ap (λ o. o.number) whole) (written-same (draft_of s) s room whole)

-- A store is admitted exactly when building from its own nodes, edges and constraints gives the same bytes: for every room that holds s, admitting answers 0 for s exactly when building from the draft of s answers 0, gives the length of s and leaves s written over the room.
pub admitted-exactly : (s room : List ℕ) → length s ≤ length room
    → (admit_number s ≡ 0) ↔ (build_outcome (draft_of s) room ≡ record { number = 0; results = length s ∷ []; room = over room 0 s; second = []; work = [] })
admitted-exactly s room h = (λ q. admitted-built s q room h, built-same-admitted s room)
