use Rattle.std.proofs.Common.{◌≡◌, ◌∙◌, ℕ, ◌≤◌, List, Bool, length, ap, arith}
use Rattle.rules.specs.Store.{node_count, edges_at, constraints_at, nodes_in, node_part, edge_part, edges_right, records_right}
use Rattle.laws.specs.Cases.{decide}
use Rattle.laws.specs.Parts.{length-part}
use Rattle.store.proofs.own.records_right.Goals as goal

-- the count of nodes is that of their section
counted : (s edges : List ℕ) (n : ℕ) (r : Bool) → constraints_at s ≤ length s → n ≡ node_count s → edges ≡ edge_part s → r ≡ edges_right n edges
    → r ≡ edges_right (nodes_in (node_part s)) (edge_part s)
counted s edges n r fits en ee er =
    let e : n ≡ nodes_in (node_part s) = omega (arith, length-part s 48 (edges_at s) (omega arith)) in
    er ∙ ap (λ x. edges_right x edges) e ∙ ap (edges_right (nodes_in (node_part s))) ee

pub returns-then-nodes_right : goal.returns-then-nodes_right
unfolding records_right
returns-then-nodes_right c = search (counted, decide)

pub returns-else-nodes_right : goal.returns-else-nodes_right
unfolding records_right
returns-else-nodes_right c = search decide
