-- A group that exists and equals the key gives its list. Assumes nothing.
use Rattle.rules.specs.Listing.{found_at}
use Rattle.laws.specs.Cases.{decide}
use Rattle.store_lookup.proofs.keys.found_at.Goals as goal

pub returns-then-group_equals : goal.returns-then-group_equals
unfolding found_at
returns-then-group_equals c = search decide

pub returns : goal.returns
unfolding found_at
returns c = search decide
