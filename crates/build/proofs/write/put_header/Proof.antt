-- `build::write::put_header` meets its contract. Assumes nothing.
use borrow.Author.Rules.{rules}
use Rattle.build.proofs.Built.{header-written}
use Rattle.build.proofs.write.put_header.Statement.{statement}
use Rattle.build.proofs.write.put_header.Tie as tie

node-count-requires : tie.Need-node_count-n-requires
node-count-requires c κs = search rules

edge-count-requires : tie.Need-edge_count-m-requires
edge-count-requires c κs = search rules

constraint-count-requires : tie.Need-constraint_count-k-requires
constraint-count-requires c κs = search rules

put-six-requires : tie.Need-put_six-requires
put-six-requires c κs = search rules

mul-edges : tie.Need-overflow_mul-edges
mul-edges c = search rules

add-edges : tie.Need-overflow_add-edges
add-edges c = search rules

mul-constraints : tie.Need-overflow_mul-constraints
mul-constraints c = search rules

add-constraints : tie.Need-overflow_add-constraints
add-constraints c = search rules

mul-table : tie.Need-overflow_mul-table
mul-table c = search rules

add-table : tie.Need-overflow_add-table
add-table c = search rules

mul-lists : tie.Need-overflow_mul-lists
mul-lists c = search rules

add-lists : tie.Need-overflow_add-lists
add-lists c = search rules

mul-put-six : tie.Need-overflow_mul-entries
mul-put-six c = search rules

add-put-six : tie.Need-overflow_add-lists-2
add-put-six c = search rules

put-six-requires-2 : tie.Need-put_six-requires-2
put-six-requires-2 c κs = search rules

same-length : tie.Need-shape_of-room
same-length c = search rules

returns : tie.Need-returns
returns c =
    let s = c in
    header-written _ _ _ _ _ _ _ _ _ _ _ c.node_count-n.ensures c.edge_count-m.ensures c.constraint_count-k.ensures s.requires.0.1
    c.put_six.ensures c.put_six-2.ensures

pub put_header_spec : {M : Type 1} → statement M
put_header_spec =
    tie.close
    (tie.spec
    node-count-requires
    edge-count-requires
    constraint-count-requires
    put-six-requires
    mul-edges
    add-edges
    mul-constraints
    add-constraints
    mul-table
    add-table
    mul-lists
    add-lists
    mul-put-six
    add-put-six
    put-six-requires-2
    same-length
    returns)
