-- What an outcome of listing that has matches says. Assumes nothing.
use Prim.Native.Nat.{ℕ, ◌*◌, ◌≤◌, ◌<◌}
use native.Mathlib.Omega.{arith}
use mathlib.Core.Path.{◌≡◌, refl, sym, ap, ◌∙◌}
use mathlib.Core.Bool.{Bool, true, false, cond, not}
use mathlib.Core.List.{List, [], ◌∷◌, ◌++◌, flat_map, append-nil}
use mathlib.Core.Option.{Option, some, none}
use lib.Dec.{leb, eqb}
use lib.ListN.{length, get_or, replicate}
use lib.Seq.{length-take-le}
use borrow.Author.Tests.{eqb-true, eqb-false, leb-true}
use Rattle.rules.specs.Store.{header_right, node_part, constraint_part, group_part, entry_part}
use Rattle.rules.specs.Pattern.{size_of, pattern_right}
use Rattle.rules.specs.Plan.{bound}
use Rattle.rules.specs.Listing.{Gathered, matches_of}
use Rattle.std.specs.Prelude.{Result, Ok, Err}
use Rattle.std.specs.Result.{result_unwrap_or}
use Rattle.rules.specs.Refused.{number_of}
use Rattle.rules.specs.declared.Refusal.{Refusal}
use Rattle.list_found.specs.declared.Listed.{Listed}
use Rattle.rules.specs.Answers.{Outcome, outcome, gathered, list_outcome}
use Rattle.laws.specs.Outcomes.{answered, refused, cleared, read_outcome, sections_refusal, list_refusal, outcome-answered, outcome-refused, listing-read, listing-refused}
use Rattle.laws.specs.Refusals.{none-first, none-given, bound_number}
use Rattle.laws.specs.Plannable.{bound-zero}
use Rattle.laws.specs.PatternLaws.{RightHeader, pattern-says}
use Rattle.list_found.specs.Reading.{results_of, list_told}
use Rattle.io.specs.Counts.{IsPrefixLen}
use Rattle.laws.specs.Writing.{Wrote, wrote-then}
use Rattle.run_panel.specs.Panel.{answer_text, answer_line, lines, outcome_text, panel_text}

-- a place inside a room counts its bytes
counted : (n : ℕ) (out : List ℕ) → n ≤ length out → IsPrefixLen n out
counted n out h = (h, sym (length-take-le n out h))

-- the first result of an outcome: for listing, its matches
abbrev pub first : Outcome → ℕ
first o = get_or o.results 0 0

-- rows that are list_told fit the room
read-fit : (b : List ℕ) (t : ℕ) (o : Option Gathered) (work room : List ℕ) → 0 < first (read_outcome b t o work room) → first (read_outcome b t o work room) * size_of b ≤ length room
unfolding read_outcome answered refused
read-fit b t none work room h = absurd (omega arith)
read-fit b t (some got) work room h = go (leb (length (matches_of b got) * size_of b) (length room)) refl h
  where
    given : Bool → Outcome
    given x = outcome (cond x 0 10) (length (matches_of b got) ∷ got.nodes ∷ got.edges ∷ t ∷ []) (flat_map (λ row. row) (matches_of b got)) room (cleared t work)

    go : (x : Bool) → leb (length (matches_of b got) * size_of b) (length room) ≡ x → 0 < first (given x) → first (given x) * size_of b ≤ length room
    go true e h = rw (outcome-answered (length (matches_of b got) ∷ got.nodes ∷ got.edges ∷ t ∷ []) (flat_map (λ row. row) (matches_of b got)) room (cleared t work)) (leb-true (length (matches_of b got) * size_of b) (length room) e)
    go false e h =
        let k : 0 < 0 = rw (outcome-refused 10 (length (matches_of b got) ∷ got.nodes ∷ got.edges ∷ t ∷ []) (flat_map (λ row. row) (matches_of b got)) room (cleared t work) refl) at h in
        absurd (omega arith)

-- a pattern that none of 1, 3, 6, 7, 8 and 9 is given for is right
refusal-right : (s b work : List ℕ) → list_refusal s b work ≡ 0 → pattern_right b ≡ true
unfolding sections_refusal
refusal-right s b work q =
    let one = none-given 1 (not (header_right s)) _ refl q in
    (bound-zero (constraint_part s) b (none-first (bound_number (constraint_part s) b) _ one.1).0).pattern

-- where there are matches the pattern is right, and their rows fit the room
pub rows-fit : (s b work room : List ℕ) → 0 < first (list_outcome s b work room) → (pattern_right b ≡ true) × (first (list_outcome s b work room) * size_of b ≤ length room)
unfolding list_outcome refused
rows-fit s b work room = go (eqb (list_refusal s b work) 0) refl
  where
    go : (x : Bool) → eqb (list_refusal s b work) 0 ≡ x → 0 < first (list_outcome s b work room)
        → (pattern_right b ≡ true) × (first (list_outcome s b work room) * size_of b ≤ length room)
    go true e h =
        let z = eqb-true (list_refusal s b work) 0 e in
        let same = listing-read (header_right s) (node_part s) (constraint_part s) (group_part s) (entry_part s) b work room z in
        (refusal-right s b work z, rw same (read-fit b (bound (constraint_part s) b) (gathered (node_part s) (constraint_part s) (group_part s) (entry_part s) b) work room (rw same at h)))
    go false e h =
        let k : 0 < 0 = rw (listing-refused (header_right s) (node_part s) (constraint_part s) (group_part s) (entry_part s) b work room (eqb-false (list_refusal s b work) 0 e)) at h in
        absurd (omega arith)

-- ---- what is shown
-- how many matches are answered
abbrev count_of : Result Listed Refusal → ℕ
count_of r = get_or (results_of r) 0 0

line-is : (r : Result Listed Refusal) → answer_text (number_of r) (count_of r) (get_or (results_of r) 1 0) (get_or (results_of r) 2 0) (get_or (results_of r) 3 0) ≡ answer_line r
line-is (Ok l) = refl
line-is (Err f) = refl

-- the line, by the number and by what stands for an answer or for none
pub line-told : (r : Result Listed Refusal) (n : ℕ) (l : Listed) → n ≡ number_of r → l ≡ result_unwrap_or r (record { matches = 0; nodes = 0; edges = 0; bound = 0 })
    → answer_text n l.matches l.nodes l.edges l.bound ≡ answer_line r
line-told (Ok x) n l e u = rw (e, u)
line-told (Err f) n l e u = rw (e, u)

module _ (s b work : List ℕ) (r : Result Listed Refusal) (room : List ℕ) (is : list_told r room work ≡ list_outcome s b (replicate 4096 0) (replicate 1024 0)) where
  text-is : panel_text s b ≡ answer_line r ++ lines (size_of b) (count_of r) room
  unfolding panel_text outcome_text
  text-is = rw (← is, ← line-is r)

  none-shown : {before out : List ℕ} {at : ℕ} → 24576 ≤ length before → Wrote before 0 (answer_line r) out at × (at ≤ 138) → count_of r ≡ 0 → Wrote before 0 (panel_text s b) out at × IsPrefixLen at out
  unfolding lines
  none-shown {before} {out} {at} h w e =
      let text : panel_text s b ≡ answer_line r = text-is ∙ rw (e, append-nil) in
      (rw text w.0, counted at out (omega (arith, w.0.size, w.1)))

  pub refused-shown : {before out : List ℕ} {at : ℕ} (f : Refusal) → r ≡ Err f → 24576 ≤ length before → Wrote before 0 (answer_line r) out at × (at ≤ 138) → Wrote before 0 (panel_text s b) out at × IsPrefixLen at out
  refused-shown f e h w = none-shown h w (ap count_of e)

  module _ (l : Listed) (answered-is : r ≡ Ok l) where
    matches-is : l.matches ≡ first (list_outcome s b (replicate 4096 0) (replicate 1024 0))
    matches-is = ap count_of (sym answered-is) ∙ ap first is

    pub empty-shown : {before out : List ℕ} {at : ℕ} → 24576 ≤ length before → Wrote before 0 (answer_line r) out at × (at ≤ 138) → l.matches ≡ 0 → Wrote before 0 (panel_text s b) out at × IsPrefixLen at out
    empty-shown h w e = none-shown h w (ap count_of answered-is ∙ e)

    pub some-right : (l.matches ≡ 0 → ⊥) → RightHeader b
    some-right n = (pattern-says b (rows-fit s b (replicate 4096 0) (replicate 1024 0) (omega (arith, matches-is))).0).header

    pub some-fit : (l.matches ≡ 0 → ⊥) → l.matches * size_of b ≤ 1024
    some-fit n = rw matches-is (rows-fit s b (replicate 4096 0) (replicate 1024 0) (omega (arith, matches-is))).1

    pub some-shown : {before middle out : List ℕ} {at past p : ℕ} → 24576 ≤ length before → Wrote before 0 (answer_line r) middle at × (at ≤ 138) → p ≡ size_of b
        → Wrote middle at (lines p l.matches room) out past × (past ≤ length out) → Wrote before 0 (panel_text s b) out past × IsPrefixLen past out
    some-shown {before} {middle} {out} {at} {past} {p} h w e v =
        let both = wrote-then _ _ _ _ _ w.0 (omega (arith, w.1)) _ _ _ v.0 in
        let m : count_of r ≡ l.matches = ap count_of answered-is in
        (rw (text-is, ← e, m) both, counted past out v.1)
