-- Listing reads no more entries than T, and T is known from the pattern and the constraints alone. The store need not be admitted. Assumes nothing.
use Rattle.std.specs.Prelude.{◌≡◌, List, [], ◌∷◌, ℕ, get_or}
use Rattle.std.proofs.Common.{sym, ap, ◌∙◌}
use Rattle.rules.specs.Store.{node_part, constraint_part, group_part, entry_part}
use Rattle.rules.specs.Plan.{bound, plan_words}
use Rattle.rules.specs.Answers.{plan_number, plan_outcome, gathered, list_outcome}
use Rattle.laws.specs.Outcomes.{answered, outcome-answered, outcome-number}
use Rattle.laws.specs.PatternLaws.{pattern-says}
use Rattle.demands.proofs.Answered.{answer}
use Rattle.demands.proofs.Within.{reader-short, all-within}
use Rattle.demands.specs.Bounded.{Bounded}

-- T of an answered plan
planned-bound : (s b plan : List ℕ) → (plan_outcome s b plan).number ≡ 0 → (plan_outcome s b plan).results ≡ bound (constraint_part s) b ∷ []
unfolding plan_outcome answered
planned-bound s b plan q =
    let z : plan_number s b plan ≡ 0 = sym (outcome-number (plan_number s b plan) _ _ [] plan) ∙ q in
    rw z (ap (λ o. o.results) (outcome-answered (bound (constraint_part s) b ∷ []) (plan_words (constraint_part s) b) plan []))

-- An answered listing reads at most T entries, for any store, admitted or not.
pub listing-bounded : (s b work room : List ℕ) → (list_outcome s b work room).number ≡ 0 → Bounded s b work room
unfolding gathered
listing-bounded s b work room q =
    let a = answer s b work room q in
    record {
      matches = _;
      nodes = a.given.got.nodes;
      edges = a.given.got.edges;
      total = bound (constraint_part s) b;
      results = ap (λ o. o.results) a.given.same;
      within =
          all-within (reader-short (node_part s) (constraint_part s) (group_part s) (entry_part s)) (pattern-says b a.heard.plan.pattern) a.given.got a.given.read;
      small = a.heard.plan.small;
      planned = planned-bound s b;
    }

listed-bound : (s b work room : List ℕ) → (list_outcome s b work room).number ≡ 0 → get_or (list_outcome s b work room).results 3 0 ≡ bound (constraint_part s) b
listed-bound s b work room q = ap (λ o. get_or o.results 3 0) (answer s b work room q).given.same

-- T does not depend on the graph: two stores with equal constraint sections give the same T, the fourth result, whatever else they hold and whatever the rooms.
pub bound-alike : (s t b work room work' room' : List ℕ) → constraint_part s ≡ constraint_part t
    → (list_outcome s b work room).number ≡ 0 → (list_outcome t b work' room').number ≡ 0
    → get_or (list_outcome s b work room).results 3 0 ≡ get_or (list_outcome t b work' room').results 3 0
bound-alike s t b work room work' room' same p q =
    listed-bound s b work room p ∙ ap (λ c. bound c b) same ∙ sym (listed-bound t b work' room' q)
