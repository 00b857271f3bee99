-- Refusal 4: some list of a constraint is longer than its N exactly if one of the graph exceeds it. Assumes nothing.
use native.Mathlib.Omega.{arith}
use mathlib.Core.Path.{◌≡◌, refl, sym, ap, ◌∙◌}
use mathlib.Core.Bool.{Bool, true, false, not, ◌&&◌, ◌||◌}
use mathlib.Core.List.{List, []}
use Prim.Native.Nat.{ℕ, zero, suc, ◌+◌, ◌≤◌, ◌<◌}
use lib.Dec.{eqb}
use lib.ListN.{length}
use Rattle.rules.specs.Lists.{all, any_from, range}
use Rattle.rules.specs.Store.{nodes_in, constraints_in, constraint_at, node_part, edge_part, constraint_part, constraint_alone}
use Rattle.rules.specs.Graph.{graph_of, store_graph}
use Rattle.rules.specs.Index.{some_exceeds, satisfies, exceeds}
use Rattle.rules.specs.declared.Constraint.{Constraint}
use Rattle.build_edges.specs.Packed.{EdgesBelow, word_in, labelled_in}
use Rattle.build_edges.specs.Sound.{joined_set}
use Rattle.build_neighbours.specs.Left.{labels_left, labels_in}
use Rattle.build_neighbours.specs.declared.Labels.{Labels}
use Rattle.build_keys.specs.Pass.{Right, AtHand}
use Rattle.build_longlist.specs.Exceed.{long_from, exceeds_by, exceeds_at, exceeds_in, Rooms, Ample}
use Rattle.build_edges.proofs.Nearby.{labelled-strict}
use Rattle.build_neighbours.proofs.Pairing.{labelled-below}
use Rattle.build_keys.proofs.Passing.{labelled-few, labels-few}
use Rattle.build_keys.proofs.Groups.{satisfies-keyed}
use Rattle.build_keys.proofs.Graphs.{own-both}
use Rattle.build_keys.proofs.Index.{keyed-any, each-constraint, right-sound}
use Rattle.build_longlist.proofs.Exceeding.{long-keyed}

-- ---- the rooms
pub rooms-start : {nodes joined constraints rooms deeper list : List ℕ} {left : Labels} (l : ℕ) → Ample nodes joined constraints rooms → list ≡ labelled_in nodes l → length rooms ≤ length deeper + 65536
    → Rooms nodes joined left list deeper
rooms-start {nodes} {list = list} {left} l r e q =
    let few = r.few in
    let long = r.long in
    let less : length list ≤ nodes_in nodes = rw e (labelled-few nodes l) in
    let labels = labels-few left.first left.second left.third in
    record {
      few = r.few;
      both = r.both;
      short = omega arith;
      ascends = rw e (labelled-strict nodes l);
      inside = λ v h. let k = labelled-below nodes l v (rw e at h) in omega arith;
      long = omega arith;
    }

pub ample-same : {nodes joined constraints rooms rooms' : List ℕ} → Ample nodes joined constraints rooms → length rooms' ≡ length rooms → Ample nodes joined constraints rooms'
ample-same r e = record { few = r.few; both = r.both; limited = r.limited; long = rw e r.long }

pub ample-own : {nodes constraints rooms : List ℕ} (s joined : List ℕ) → AtHand s joined → nodes ≡ node_part s → constraints ≡ constraint_part s → 458752 ≤ length rooms → Ample nodes joined constraints rooms
ample-own s joined r en ec long =
    let sound = right-sound r.right in
    record { few = rw en sound.nodes; both = own-both s sound r.words; limited = rw ec sound.constraints; long = long }

-- ---- one constraint
pub at-told : {d : Constraint} {list : List ℕ} {r : Bool} (nodes joined constraints : List ℕ) (c : ℕ) → d ≡ constraint_at constraints c → list ≡ labelled_in nodes d.label
    → r ≡ long_from (word_in joined) (labelled_in nodes) d.most (labels_in (record { first = d.first; second = d.second; third = d.third })) list
    → r ≡ exceeds_at nodes joined constraints c
unfolding exceeds_at exceeds_by
at-told nodes joined constraints c e l q = rw l at q ∙ ap (exceeds_by nodes joined) e

by-satisfies : (nodes edges : List ℕ) → EdgesBelow edges → (d : Constraint) → constraint_alone d ≡ true → exceeds_by nodes (joined_set edges) d ≡ not (satisfies (graph_of nodes edges) d)
unfolding exceeds_by
by-satisfies nodes edges below d h =
    long-keyed (word_in (joined_set edges)) (labelled_in nodes) d.most (labels_left d.first d.second d.third) [] (labelled_in nodes d.label)
    ∙ ap (λ x. not (eqb (length x) 0)) (keyed-any nodes edges below d.most d h) ∙ sym (ap not (satisfies-keyed (graph_of nodes edges) d))

-- ---- all constraints
not-both : (a b : Bool) → (not a || not b) ≡ not (a && b)
not-both true b = refl
not-both false b = refl

any-not : (p q : ℕ → Bool) (k n : ℕ) → ((c : ℕ) → c < k + n → p c ≡ not (q c)) → any_from p k n ≡ not (all q (range k n))
unfolding any_from all range
any-not p q k zero h = refl
any-not p q k (suc n) h = rw (h k (omega arith), any-not p q (k + 1) n (λ c j. h c (omega arith))) (not-both (q k) (all q (range (k + 1) n)))

pub exceeds-told : {s joined nodes constraints : List ℕ} {r : Bool} → Right s → joined ≡ joined_set (edge_part s) → nodes ≡ node_part s → constraints ≡ constraint_part s
    → r ≡ exceeds_in nodes joined constraints → r ≡ exceeds s
unfolding exceeds_in exceeds_at exceeds store_graph some_exceeds
exceeds-told {s} right ej en ec q =
    rw (ej, en, ec) at q
    ∙ any-not (λ c. exceeds_by (node_part s) (joined_set (edge_part s)) (constraint_at (constraint_part s) c)) (λ c. satisfies (graph_of (node_part s) (edge_part s)) (constraint_at (constraint_part s) c)) 0
    (constraints_in (constraint_part s)) (λ c h. by-satisfies (node_part s) (edge_part s) (right-sound right).below (constraint_at (constraint_part s) c) (each-constraint right c (omega arith)))
