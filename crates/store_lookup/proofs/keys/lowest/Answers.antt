use Rattle.std.proofs.Common.{rules}
use Rattle.rules.specs.Listing.{precedes, low_of}
use Rattle.store_lookup.proofs.keys.lowest.Goals as goal

pub returns : goal.returns
unfolding low_of
returns c = c.first_from.ensures.search (precedes c.args.groups.now c.args.key) (λ i r h called. search rules)
