use Rattle.plan_ways.specs.Given.{given-ready}
use Rattle.plan_ways.proofs.Asked.best_for_edge.Goals as goal

pub invariant_of-best_for_edge : goal.invariant_of-best_for_edge
invariant_of-best_for_edge c = record { ready = given-ready c.args.self.given c.requires.0 }
