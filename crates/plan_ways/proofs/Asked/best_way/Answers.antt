use Rattle.plan_ways.specs.Given.{given-ready}
use Rattle.plan_ways.proofs.Asked.best_way.Goals as goal

pub invariant_of-best_way : goal.invariant_of-best_way
invariant_of-best_way c = record { ready = given-ready c.args.self.given c.requires }
