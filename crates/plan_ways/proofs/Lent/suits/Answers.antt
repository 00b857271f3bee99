use Rattle.plan_ways.proofs.Choosing.{suits-told}
use Rattle.plan_ways.proofs.Lent.suits.Goals as goal

pub returns : goal.returns
returns c = suits-told _ _ _ _ _ _ _ c.args.self.ready.known c.requires.0 c.requires.1 c.label.ensures
