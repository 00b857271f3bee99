-- proofs/passes/visit_all/Invariants.antt
use Rattle.rules.specs.Lists.{set_of}
use Rattle.rules.specs.Store.{constraints_in}
use Rattle.laws.specs.Loops.{FoldLeft}
use Rattle.build_edges.specs.Packed.{forward_words}
use Rattle.build_groups.specs.Emit.{going, output_of}
use Rattle.build_keys.specs.Pass.{visited, visited_all}
use Rattle.build_index.proofs.passes.visit_all.Given as goal

abbrev pub invariant-loop-c : goal.invariant-loop-c
invariant-loop-c l =
    FoldLeft (visited l.work.task l.work.graph.nodes.now (set_of l.work.graph.joined.now) (forward_words l.work.graph.edges.records.now) l.constraints l.work.store.now) (constraints_in l.constraints) l.c (output_of (going l.t) l.room)
    (visited_all l.work.task l.work.graph.nodes.now (set_of l.work.graph.joined.now) (forward_words l.work.graph.edges.records.now) l.constraints l.work.store.now (output_of (going l.fn.tally) l.fn.room))
