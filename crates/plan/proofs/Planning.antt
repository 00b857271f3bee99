-- What the tests of these functions come to. Assumes nothing.
use mathlib.Core.Path.{◌≡◌, refl, sym, ap, ◌∙◌}
use mathlib.Core.Bool.{Bool, true, false, not}
use mathlib.Core.List.{List, [], ◌∷◌, ◌++◌, flat_map}
use Prim.Native.Nat.{ℕ, ◌+◌, ◌*◌, ◌≤◌, ◌<◌}
use native.Mathlib.Omega.{arith}
use native.Mathlib.Decide.{dec_le}
use lib.Dec.{ltb, leb}
use lib.ListN.{length, take, drop, replicate, length-append, length-take}
use lib.Seq.{take-append_seam}
use borrow.Author.Tests.{ne_eqb, eqb-false, le-leb, lt-leb, le-ltb, lt-ltb}
use Rattle.rules.specs.Words.{over}
use Rattle.rules.specs.Lists.{range}
use Rattle.rules.specs.Store.{header_right, constraint_part, constraints_in, constraints_right}
use Rattle.rules.specs.Pattern.{size_of, edges_of, pattern_label, pattern_right}
use Rattle.rules.specs.Plan.{most_read, no_figures, smallest, node_rows_from, node_rows, edge_ways, figures_of, listed, edge_rows, rows_of, all_covered, bound, row_words, plan_words}
use Rattle.rules.specs.Answers.{◌when◌, first_of, plan_number, plan_outcome}
use Rattle.laws.specs.Outcomes.{answered, refused, outcome-refused, outcome-answered}
use Rattle.laws.specs.Refusals.{first-given, first-passed, refuses, passes, bound_number, plan-number, refusal-given}
use Rattle.laws.specs.PatternLaws.{pattern-says, node-says, edge-says}
use Rattle.laws.specs.Table.{Neighbours}
use Rattle.plan_ways.specs.Ways.{Known}
use Rattle.plan_ways.specs.Given.{Given}
use Rattle.plan_rows.specs.Rows.{total, Written, Standing, NodesDone, EdgesDone}
use Rattle.plan_rows.specs.declared.TooMuch.{TooMuch}
use Rattle.plan_rows.specs.declared.Stand.{Stand}
use Rattle.laws.specs.Over.{over-over, over-start}
use Rattle.laws.specs.Header.{header-limits}
use Rattle.laws.specs.Parts.{constraints-in}
use Rattle.laws.specs.Map.{flat-append}
use Rattle.laws.specs.Sums.{sum-both}
use Rattle.laws.specs.Rows.{node-few, edge-few, words-length}
use Rattle.std.specs.Prelude.{Result, Ok, Err}
use Rattle.rules.specs.Refused.{refusal_number, number_of}
use Rattle.rules.specs.declared.Refusal.{Refusal}
use Rattle.rules.specs.declared.Refusal.TheVariants.{Header, Constraint, Pattern, Uncovered, Bound, Room}
use Rattle.plan.specs.Plans.{planned, answered_plan, bounded_plan, covered_plan, plan_of, plan_told}
use Rattle.plan.specs.declared.PlanRows.{PlanRows}
use Rattle.plan.specs.declared.Size.{Size}

-- ---- what right constraints and a right pattern give
pub known-of : (b : List ℕ) (t : List (List Bool)) → pattern_right b ≡ true → Neighbours b t → Known b t
known-of b t h n =
    let r = pattern-says b h in
    record {
      few = r.header.few;
      edges = r.header.few_edges;
      room = omega (arith, r.header.whole);
      from = λ j l. (edge-says r j l).from;
      to = λ j l. (edge-says r j l).to;
      label = λ u l. ap not (ne_eqb (pattern_label b u) 0 (node-says b u (r.node u l)).label);
      table = n;
    }

pub given-of : (constraints b : List ℕ) (t : List (List Bool)) → constraints_in constraints ≤ 65535 → constraints_right constraints ≡ true → pattern_right b ≡ true → Neighbours b t
    → Given constraints b t
given-of constraints b t few right p n = record { known = known-of b t p n; count = few; right = right }

-- ---- the plan by its refusals: r and p are what the tests gave
module _ (constraints b : List ℕ) (r : Bool) (q : r ≡ constraints_right constraints) where
  pub plan-three : r ≡ false → Err Constraint ≡ plan_of constraints b
  unfolding plan_of
  plan-three h = rw (sym q ∙ h)

  module _ (h : r ≡ true) (p : Bool) (e : p ≡ pattern_right b) where
    pub plan-six : p ≡ false → Err Pattern ≡ plan_of constraints b
    unfolding plan_of
    plan-six k = rw (sym q ∙ h, sym e ∙ k)

    pub plan-on : p ≡ true → covered_plan constraints b ≡ plan_of constraints b
    unfolding plan_of
    plan-on k = rw (sym q ∙ h, sym e ∙ k)

module _ (constraints b : List ℕ) (r : Bool) (q : r ≡ all_covered constraints b) where
  pub plan-seven : r ≡ false → Err Uncovered ≡ covered_plan constraints b
  unfolding covered_plan
  plan-seven h = rw (sym q ∙ h)

  pub plan-bounded : r ≡ true → bounded_plan constraints b ≡ covered_plan constraints b
  unfolding covered_plan
  plan-bounded h = rw (sym q ∙ h)

pub plan-eight : (constraints b : List ℕ) → most_read < bound constraints b → Err Bound ≡ bounded_plan constraints b
unfolding bounded_plan
plan-eight constraints b h = rw (lt-leb (bound constraints b) most_read h)

pub plan-answered : (constraints b : List ℕ) → bound constraints b ≤ most_read → Ok (answered_plan constraints b) ≡ bounded_plan constraints b
unfolding bounded_plan
plan-answered constraints b h = rw (le-leb (bound constraints b) most_read h)

-- ---- sums and words of all rows
bound-parts : (constraints b : List ℕ) → bound constraints b ≡ total (node_rows constraints b) + total (edge_rows constraints b)
unfolding bound rows_of
bound-parts constraints b = sum-both (λ r. r.figure) (node_rows constraints b) (edge_rows constraints b)

-- ---- 8, and the rows
module _ (constraints b rows₀ rows : List ℕ) where
  pub nodes-above : (e : TooMuch) → NodesDone constraints b rows₀ rows (Err e) → Err Bound ≡ bounded_plan constraints b
  nodes-above e nodes =
      let k : 65536 < total (node_rows constraints b) = nodes.above in
      plan-eight constraints b (omega (arith, bound-parts constraints b))

  module _ (s : Stand) (nodes : NodesDone constraints b rows₀ rows (Ok s)) (more : List ℕ) where
    nodes_written : Written (node_rows constraints b) 0 0 rows₀ rows s
    nodes_written = nodes.written

    pub edges-above : (e : TooMuch) → EdgesDone constraints b s rows more (Err e) → Err Bound ≡ bounded_plan constraints b
    edges-above e edges =
        let k : 65536 < total (edge_rows constraints b) = edges.above in
        plan-eight constraints b (omega (arith, bound-parts constraints b))

    module _ (r : Stand) (edges : EdgesDone constraints b s rows more (Ok r)) where
      edges_written : Written (edge_rows constraints b) s.count s.sum rows more r
      edges_written = edges.written

      -- the sum is T
      sum-told : r.sum ≡ bound constraints b
      sum-told =
          let one = nodes_written.summed in
          let two = edges_written.summed in
          omega (arith, bound-parts constraints b)

      pub sum_above : 65536 < r.sum → Err Bound ≡ bounded_plan constraints b
      sum_above h = let k = sum-told in plan-eight constraints b (omega arith)

      words-told : length (flat_map row_words (node_rows constraints b)) ≤ length rows₀ → more ≡ over rows₀ 0 (plan_words constraints b)
      unfolding plan_words rows_of
      words-told room =
          let at : s.count * 8 ≡ 0 + length (flat_map row_words (node_rows constraints b)) = omega (arith, nodes_written.counted, words-length (node_rows constraints b)) in
          edges_written.written
          ∙ rw (at, nodes_written.written)
          (over-over rows₀ 0 (flat_map row_words (node_rows constraints b)) (omega arith) (flat_map row_words (edge_rows constraints b))
          ∙ ap (over rows₀ 0) (sym (flat-append row_words (node_rows constraints b) (edge_rows constraints b))))

      count-told : r.count * 8 ≡ length (plan_words constraints b)
      unfolding plan_words rows_of
      count-told =
          let one = nodes_written.counted in
          let two = edges_written.counted in
          rw (words-length (node_rows constraints b ++ edge_rows constraints b), length-append) (omega arith)

      pub rows-told : rows₀ ≡ replicate 512 0 → r.sum ≤ 65536 → Ok (record { bound = r.sum; length = r.count * 8; rows = more }) ≡ bounded_plan constraints b
      unfolding answered_plan
      rows-told zeros h =
          let k = sum-told in
          let standing : Standing constraints b s = nodes.standing in
          let c = nodes_written.counted in
          let room : length (flat_map row_words (node_rows constraints b)) ≤ length rows₀ = rw zeros (omega (arith, standing.few, words-length (node_rows constraints b))) in
          let same : ◌≡◌ {A = PlanRows} (record { bound = r.sum; length = r.count * 8; rows = more }) (answered_plan constraints b) = rw (k, count-told, words-told room, zeros) in
          ap Ok same ∙ plan-answered constraints b (omega arith)

-- ---- the outcome of planning
pub number-told : (constraints b : List ℕ) → number_of (plan_of constraints b) ≡ bound_number constraints b
unfolding plan_of covered_plan bounded_plan bound_number first_of ◌when◌
number-told constraints b = go (constraints_right constraints) refl (pattern_right b) refl (all_covered constraints b) refl (dec_le (bound constraints b) most_read)
  where
    go : (x : Bool) → constraints_right constraints ≡ x → (y : Bool) → pattern_right b ≡ y → (z : Bool) → all_covered constraints b ≡ z → Dec (bound constraints b ≤ most_read)
        → number_of (plan_of constraints b) ≡ bound_number constraints b
    go false e y f z g w = rw e
    go true e false f z g w = rw (e, f)
    go true e true f false g w = rw (e, f, g)
    go true e true f true g (yes h) = rw (e, f, g, le-leb (bound constraints b) most_read h, le-ltb most_read (bound constraints b) h)
    go true e true f true g (no h) =
        let l : most_read < bound constraints b = omega arith in
        rw (e, f, g, lt-leb (bound constraints b) most_read l, lt-ltb most_read (bound constraints b) l)

pub words-few : (constraints b : List ℕ) → length (plan_words constraints b) ≤ (size_of b + edges_of b) * 8
unfolding plan_words rows_of node_rows edge_rows
words-few constraints b =
    let n = node-few constraints b (size_of b) no_figures in
    let e = edge-few (λ j. smallest (edge_ways constraints b (figures_of constraints b) j)) 0 (edges_of b) in
    let a = length-append (node_rows_from constraints b (size_of b) no_figures) (flat_map (λ j. listed (smallest (edge_ways constraints b (figures_of constraints b) j))) (range 0 (edges_of b))) in
    omega (arith, words-length (node_rows_from constraints b (size_of b) no_figures ++ flat_map (λ j. listed (smallest (edge_ways constraints b (figures_of constraints b) j))) (range 0 (edges_of b))))

-- a plan that is no refusal is the answered one, of a right pattern
pub answered-of : (constraints b : List ℕ) (p : PlanRows) → Ok p ≡ plan_of constraints b → (p ≡ answered_plan constraints b) × (pattern_right b ≡ true)
unfolding plan_of covered_plan bounded_plan
answered-of constraints b p n = go (constraints_right constraints) refl (pattern_right b) refl (all_covered constraints b) refl (leb (bound constraints b) most_read) refl
  where
    go : (x : Bool) → constraints_right constraints ≡ x → (y : Bool) → pattern_right b ≡ y → (z : Bool) → all_covered constraints b ≡ z → (w : Bool) → leb (bound constraints b) most_read ≡ w
        → (p ≡ answered_plan constraints b) × (pattern_right b ≡ true)
    go false e y f z g w h = let k : Ok p ≡ Err Constraint = rw e at n in cc
    go true e false f z g w h = let k : Ok p ≡ Err Pattern = rw (e, f) at n in cc
    go true e true f false g w h = let k : Ok p ≡ Err Uncovered = rw (e, f, g) at n in cc
    go true e true f true g false h = let k : Ok p ≡ Err Bound = rw (e, f, g, h) at n in cc
    go true e true f true g true h = let k : Ok p ≡ Ok (answered_plan constraints b) = rw (e, f, g, h) at n in (cc, f)

-- ---- the outcome, by the tests of planning
module _ (s b room : List ℕ) where
  refused-told : (r : Refusal) → plan_number s b room ≡ refusal_number r → plan_told (Err r) room ≡ plan_outcome s b room
  unfolding plan_outcome refused
  refused-told r e = sym (rw e (outcome-refused (refusal_number r) (bound (constraint_part s) b ∷ []) (plan_words (constraint_part s) b) room [] (refusal-given r)))

  answered-told : plan_number s b room ≡ 0 → plan_told (Ok (bound (constraint_part s) b)) (over room 0 (plan_words (constraint_part s) b)) ≡ plan_outcome s b room
  unfolding plan_outcome answered
  answered-told e = sym (rw e (outcome-answered (bound (constraint_part s) b ∷ []) (plan_words (constraint_part s) b) room []))

  module _ (r : Bool) (q : r ≡ header_right s) where
    pub told-one : r ≡ false → plan_told (Err Header) room ≡ plan_outcome s b room
    told-one h = refused-told Header (plan-number s b room ∙ refuses 1 (not (header_right s)) _ refl (ap not (sym q ∙ h)))

    module _ (h : r ≡ true) (p : Result Size Refusal) (rows : List ℕ) (e : planned p rows ≡ plan_of (constraint_part s) b) where
      number-is : number_of (planned p rows) ≡ bound_number (constraint_part s) b
      number-is = ap number_of e ∙ number-told (constraint_part s) b

      abbrev ten : ℕ
      ten = 10 when ltb (length room) ((size_of b + edges_of b) * 8)

      rest-is : plan_number s b room ≡ first_of (bound_number (constraint_part s) b ∷ ten ∷ [])
      rest-is = plan-number s b room ∙ passes 1 (not (header_right s)) (bound_number (constraint_part s) b ∷ ten ∷ []) (ap not (sym q ∙ h))

      pub told-other : (f : Refusal) → p ≡ Err f → plan_told (Err f) room ≡ plan_outcome s b room
      told-other f w =
          let n : bound_number (constraint_part s) b ≡ refusal_number f = sym number-is ∙ ap (λ x. number_of (planned x rows)) w in
          let z : bound_number (constraint_part s) b ≡ 0 → ⊥ = λ x. eqb-false (refusal_number f) 0 (refusal-given f) (sym n ∙ x) in
          refused-told f (rest-is ∙ first-given (bound_number (constraint_part s) b) (ten ∷ []) z ∙ n)

      module _ (found : Size) (w : p ≡ Ok found) where
        abbrev whole : PlanRows
        whole = record { bound = found.bound; length = found.length; rows = rows }

        ten-is : plan_number s b room ≡ first_of (ten ∷ [])
        ten-is = rest-is ∙ first-passed (bound_number (constraint_part s) b) (ten ∷ []) (sym number-is ∙ ap (λ x. number_of (planned x rows)) w)

        pub told-ten : (n : ℕ) → n ≡ (size_of b + edges_of b) * 8 → length room < n → plan_told (Err Room) room ≡ plan_outcome s b room
        told-ten n m short =
            let l : length room < (size_of b + edges_of b) * 8 = omega arith in
            refused-told Room (ten-is ∙ refuses 10 _ [] refl (lt-ltb (length room) ((size_of b + edges_of b) * 8) l))

        answered-is : (size_of b + edges_of b) * 8 ≤ length room → plan_number s b room ≡ 0
        unfolding first_of
        answered-is l = ten-is ∙ passes 10 _ [] (le-ltb (length room) ((size_of b + edges_of b) * 8) l)

        both : (whole ≡ answered_plan (constraint_part s) b) × (pattern_right b ≡ true)
        both = answered-of (constraint_part s) b whole (sym (ap (λ x. planned x rows) w) ∙ e)

        pub pattern-long : (12 ≤ length b) × ((size_of b ≤ 8) × (edges_of b ≤ 56))
        pattern-long =
            let r = (pattern-says b both.1).header in
            (omega (arith, r.whole), (r.few, r.few_edges))

        length-is : found.length ≡ length (plan_words (constraint_part s) b)
        unfolding answered_plan
        length-is = ap (λ x. x.length) both.0

        pub length-few : found.length ≤ 512
        length-few =
            let r = (pattern-says b both.1).header in
            omega (arith, length-is, words-few (constraint_part s) b, r.few, r.few_edges)

        pub length-fits : (n : ℕ) → n ≡ (size_of b + edges_of b) * 8 → n ≤ length room → length (take found.length rows) ≤ length room
        length-fits n m l = rw length-take (omega (arith, length-is, words-few (constraint_part s) b))

        rows-are : take found.length rows ≡ plan_words (constraint_part s) b
        unfolding answered_plan over
        rows-are =
            let r : rows ≡ over (replicate 512 0) 0 (plan_words (constraint_part s) b) = ap (λ x. x.rows) both.0 in
            rw (length-is, r) (take-append_seam (plan_words (constraint_part s) b) (drop (0 + length (plan_words (constraint_part s) b)) (replicate 512 0)))

        pub told-zero : (after : List ℕ) (n : ℕ) → n ≡ (size_of b + edges_of b) * 8 → n ≤ length room → after ≡ take found.length rows ++ drop (length (take found.length rows)) room
            → plan_told (Ok found.bound) after ≡ plan_outcome s b room
        unfolding answered_plan
        told-zero after n m k a =
            let l : (size_of b + edges_of b) * 8 ≤ length room = omega arith in
            let t : found.bound ≡ bound (constraint_part s) b = ap (λ x. x.bound) both.0 in
            rw (a, rows-are, t, ← over-start room (plan_words (constraint_part s) b)) (answered-told (answered-is l))

-- a right header counts few constraints
pub few-constraints : (s : List ℕ) (r : Bool) → r ≡ header_right s → r ≡ true → (part : List ℕ) → part ≡ constraint_part s → constraints_in part ≤ 65535
few-constraints s r q h part e =
    let right : header_right s ≡ true = sym q ∙ h in
    rw e (omega (arith, constraints-in s right, (header-limits s right).constraints))

-- the plan of the part that is lent is the plan of the store's constraints
pub plan-part : (s b part rows : List ℕ) (p : Result Size Refusal) → part ≡ constraint_part s → planned p rows ≡ plan_of part b → planned p rows ≡ plan_of (constraint_part s) b
plan-part s b part rows p q e = e ∙ ap (λ x. plan_of x b) q
