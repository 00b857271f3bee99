-- Listing an admitted store gives exactly the matches of its graph: what is read along the plan is enough. Assumes nothing.
use Rattle.std.specs.Prelude.{◌≡◌, refl, Bool, true, false, ℕ, eqb, get_or}
use Rattle.std.proofs.Common.{sym, ap, ◌∙◌, eqb-true}
use mathlib.Core.List.{List, flat_map}
use Rattle.std.proofs.Math.Option.{some, some-injective}
use Rattle.std.proofs.lemmas.Bool.{eqb-false}
use Rattle.rules.specs.Words.{over}
use Rattle.rules.specs.Store.{header_right, node_part, constraint_part, group_part, entry_part}
use Rattle.rules.specs.Graph.{Graph, store_graph}
use Rattle.rules.specs.Pattern.{pattern_right}
use Rattle.rules.specs.Match.{is_match}
use Rattle.rules.specs.Plan.{all_covered, bound}
use Rattle.rules.specs.Listing.{Reader, reader_of, matches_of}
use Rattle.rules.specs.Answers.{admit_number, gathered, list_outcome}
use Rattle.laws.specs.Outcomes.{refused, list_refusal, refusal-five}
use Rattle.laws.specs.PatternLaws.{pattern-says}
use Rattle.demands.specs.Faithful.{Faithful}
use Rattle.demands.proofs.Index.{sound-faithful}
use Rattle.demands.proofs.AllRows.{all-read}
use Rattle.demands.specs.Exactly.{among, ascending}
use Rattle.demands.proofs.Ordered.{same-rows}
use Rattle.demands.proofs.Exact.{rows-exactly}
use Rattle.laws.specs.Plannable.{Plannable}
use Rattle.demands.specs.Answered.{gathered_of}
use Rattle.demands.proofs.Answered.{refusal-zero, list-heard, list-refused, read-five, answer}
use Rattle.demands.proofs.Numbers.{admitted-sound}
use Rattle.demands.specs.Enough.{Complete, Matches}

-- ---- over a graph and any reader of its lists
-- The lists that the plan of a right and covered pattern reads are enough for its matches, whatever reads the graph's lists.
pub lists-enough : (g : Graph) (constraints b : List ℕ) (r : Reader) → pattern_right b ≡ true → all_covered constraints b ≡ true → Faithful g constraints r
    → Complete g constraints b r
lists-enough g constraints b r pattern covers faithful =
    let right = pattern-says b pattern in
    let x = all-read right faithful covers in
    record {
      got = x.got;
      read = x.reads;
      whole = x.whole;
      rows = rows-exactly right x.whole;
    }

-- ---- over the call
-- For an admitted store the reader reads the graph: if admitting answers 0 for s, then the reader of the sections of s but for its edges gives the values of the nodes of the graph of s, and for every key of a constraint it gives, and never refuses, the entries of the key's list in that graph, of which there are at most N.
pub admitted-faithful : (s : List ℕ) → admit_number s ≡ 0
    → Faithful (store_graph s) (constraint_part s) (reader_of (node_part s) (constraint_part s) (group_part s) (entry_part s))
admitted-faithful s q = sound-faithful s (admitted-sound s q)

admitted-complete : (s b : List ℕ) → admit_number s ≡ 0 → Plannable (constraint_part s) b
    → Complete (store_graph s) (constraint_part s) b (reader_of (node_part s) (constraint_part s) (group_part s) (entry_part s))
admitted-complete s b q plan = lists-enough (store_graph s) (constraint_part s) b _ plan.pattern plan.covers (admitted-faithful s q)

-- Listing an admitted store, when it answers 0, gives exactly the matches of the store's graph.
pub listing-matches : (s b work room : List ℕ) → admit_number s ≡ 0 → (list_outcome s b work room).number ≡ 0 → Matches s b work room
unfolding gathered
listing-matches s b work room q z =
    let a = answer s b work room z in
    let all = admitted-complete s b q a.heard.plan in
    let same : a.given.got ≡ all.got = some-injective a.given.got all.got (sym a.given.read ∙ all.read) in
    record {
      got = a.given.got;
      read = a.given.read;
      rows = rw same all.rows;
      written = ap (λ o. o.room) a.given.same;
      counted = ap (λ o. get_or o.results 0 0) a.given.same;
    }

-- So the room is determined by the graph alone: any strictly ascending list of exactly its matches is what the room holds.
pub matches-determined : (s b work room : List ℕ) → admit_number s ≡ 0 → (list_outcome s b work room).number ≡ 0 → (rows : List (List ℕ))
    → ((row : List ℕ) → among row rows ≡ is_match (store_graph s) b row) → ascending rows ≡ true → (list_outcome s b work room).room ≡ over room 0 (flat_map (λ row. row) rows)
matches-determined s b work room q z rows exact ordered =
    let m = listing-matches s b work room q z in
    m.written ∙ ap (λ l. over room 0 (flat_map (λ row. row) l)) (same-rows (matches_of b m.got) rows m.rows.ordered ordered (λ row. m.rows.exact row ∙ sym (exact row)))

-- Listing an admitted store never answers 5: no list that it reads is unfit.
pub listing-never-unfit : (s b work room : List ℕ) → admit_number s ≡ 0 → (list_outcome s b work room).number ≡ 5 → ⊥
unfolding gathered refused
listing-never-unfit s b work room q five = go (eqb (list_refusal s b work) 0) refl
  where
    go : (t : Bool) → eqb (list_refusal s b work) 0 ≡ t → ⊥
    go true e =
        let none-given = eqb-true (list_refusal s b work) 0 e in
        let all = admitted-complete s b q (refusal-zero s b work none-given).plan in
        let read : gathered_of s b ≡ some all.got = all.read in
        read-five b (bound (constraint_part s) b) work room all.got (rw (list-heard s b work room none-given, read) at five)
    go false e =
        refusal-five (header_right s) (constraint_part s) b work (sym (ap (λ o. o.number) (list-refused s b work room (eqb-false (list_refusal s b work) 0 e))) ∙ five)
