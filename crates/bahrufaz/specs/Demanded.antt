-- The demands over what the C boundary promises: o is what a call has left, number, 8 results and rooms. Assumes nothing.
use Rattle.std.proofs.Common.{arith, ◌∙◌}
use Rattle.std.specs.Prelude.{◌≡◌, ℕ, ◌+◌, ◌*◌, ◌/◌, ◌%◌, ◌≤◌}
use Rattle.std.proofs.Math.Path.{sym, ap}
use mathlib.Core.List.{List, [], ◌∷◌, ◌++◌, flat_map}
use Rattle.std.proofs.Math.ListN.{length, take, replicate, get_or}
use Rattle.rules.specs.Words.{over}
use Rattle.rules.specs.Store.{constraint_part}
use Rattle.rules.specs.Graph.{store_graph}
use Rattle.rules.specs.Plan.{most_read}
use Rattle.rules.specs.Listing.{matches_of}
use Rattle.rules.specs.Answers.{Outcome, build_outcome, admit_number, plan_outcome, list_outcome}
use Rattle.laws.specs.Determined.{determined}
use Rattle.laws.specs.Every.{Every}
use Rattle.demands.specs.Exactly.{Exactly}
use Rattle.demands.specs.Reads.{call_reads, SameBytes}
use Rattle.demands.proofs.Enough as enough
use Rattle.demands.proofs.Bounded as bounded
use Rattle.demands.proofs.Local.{admitted-local-bytes}
use Rattle.bahrufaz.specs.Boundary.{in_eight, wide, in_eight_wide}

-- ---- each call leaves one outcome for one input
pub building-determined : (draft room : List ℕ) (o p : Outcome) → o ≡ in_eight (build_outcome draft room) → p ≡ in_eight (build_outcome draft room) → o ≡ p
building-determined draft room o p x y = determined {gives = λ r. in_eight (build_outcome draft r)} {input = room} record { kept = x } record { kept = y }

pub admitting-determined : (s : List ℕ) (m n : ℕ) → m ≡ admit_number s → n ≡ admit_number s → m ≡ n
admitting-determined s m n x y = x ∙ sym y

pub planning-determined : (s b room : List ℕ) (o p : Outcome) → o ≡ in_eight (plan_outcome s b room) → p ≡ in_eight (plan_outcome s b room) → o ≡ p
planning-determined s b room o p x y = determined {gives = λ r. in_eight (plan_outcome s b r)} {input = room} record { kept = x } record { kept = y }

pub listing-determined : (s b work room : List ℕ) (o p : Outcome) → o ≡ in_eight_wide (list_outcome s b work room) → p ≡ in_eight_wide (list_outcome s b work room) → o ≡ p
listing-determined s b work room o p x y = determined {gives = λ r. in_eight_wide (list_outcome s b work r)} {input = room} record { kept = x } record { kept = y }

-- ---- an answered listing
module _ (s b work room : List ℕ) (o : Outcome) (kept : o ≡ in_eight_wide (list_outcome s b work room)) (zero_is : o.number ≡ 0) where
  number-is : (list_outcome s b work room).number ≡ 0
  unfolding in_eight_wide
  number-is = sym (ap (λ x. x.number) kept) ∙ zero_is

  results-are : o.results ≡ wide (list_outcome s b work room).results
  unfolding in_eight_wide
  results-are = ap (λ x. x.results) kept

  -- what it gives, if admitting gives 0: rows that are exactly the matches of the graph, each once and ascending, over the front of the room; the first and the last result are their number
  pub record Matches : Type 0 where
    pub rows : List (List ℕ)
    pub exactly : Exactly (store_graph s) b rows
    pub written : o.room ≡ over room 0 (flat_map (λ row. row) rows)
    pub counted : get_or o.results 0 0 + get_or o.results 7 0 * 4294967296 ≡ length rows

  -- Enough.
  pub listing-matches : (n : ℕ) → n ≡ admit_number s → n ≡ 0 → Matches
  unfolding in_eight_wide wide
  listing-matches n admitted none =
      let m = enough.listing-matches s b work room (sym admitted ∙ none) number-is in
      let k : get_or (list_outcome s b work room).results 0 0 ≡ length (matches_of b m.got) = m.counted in
      let low : get_or o.results 0 0 ≡ get_or (list_outcome s b work room).results 0 0 % 4294967296 = ap (λ l. get_or l 0 0) results-are in
      let high : get_or o.results 7 0 ≡ get_or (list_outcome s b work room).results 0 0 / 4294967296 = ap (λ l. get_or l 7 0) results-are in
      record {
        rows = matches_of b m.got;
        exactly = m.rows;
        written = ap (λ x. x.room) kept ∙ m.written;
        counted = omega arith;
      }

  -- Bounded, on any store: node entries and edge entries are together at most T, and T is at most 65,536.
  pub listing-bounded : (get_or o.results 1 0 + get_or o.results 2 0 ≤ get_or o.results 3 0) × (get_or o.results 3 0 ≤ most_read)
  unfolding wide
  listing-bounded =
      let k = bounded.listing-bounded s b work room number-is in
      rw (results-are, k.results) (k.within, k.small)

  -- An answered planning call gives the same T.
  pub listing-planned : (rows : List ℕ) (p : Outcome) → p ≡ in_eight (plan_outcome s b rows) → p.number ≡ 0 → get_or p.results 0 0 ≡ get_or o.results 3 0
  unfolding wide in_eight
  listing-planned rows p told none =
      let k = bounded.listing-bounded s b work room number-is in
      let same : p.results ≡ take 8 ((plan_outcome s b rows).results ++ replicate 8 0) = ap (λ x. x.results) told in
      let planned : (plan_outcome s b rows).results ≡ k.total ∷ [] = k.planned rows (sym (ap (λ x. x.number) told) ∙ none) in
      rw (results-are, k.results, same, planned)

-- Local: two stores that admitting gives 0 for, with equal constraint sections, the same bytes of each list that listing reads in the first, and the same record of each node that such a list names, leave one outcome.
pub listing-local : (s t b work room : List ℕ) (m n : ℕ) (o p : Outcome) → m ≡ admit_number s → m ≡ 0 → n ≡ admit_number t → n ≡ 0 → constraint_part s ≡ constraint_part t
    → Every (SameBytes s t) (call_reads s b work) → o ≡ in_eight_wide (list_outcome s b work room) → p ≡ in_eight_wide (list_outcome t b work room) → o ≡ p
listing-local s t b work room m n o p x zx y zy same alike left right =
    left ∙ ap in_eight_wide (admitted-local-bytes s t b work room (sym x ∙ zx) (sym y ∙ zy) same alike).0 ∙ sym right
