-- What closes the needs of a loop whose invariant is one of the records of `Loops` and `Halving`. Assumes nothing.
use Rattle.std.proofs.Common.{rules}
use Rattle.std.proofs.lemmas.Bool.{not-true, not-false}
use Rattle.laws.specs.Loops.{all-start, all-next, all-stop, all-done, any-start, any-next, any-stop, any-done, fold-start, fold-next, fold-done}
use Rattle.laws.specs.Halving.{half-start, half-up, half-down, half-done}

pub ruleset turns = (all-start, all-next, all-stop, all-done, any-start, any-next, any-stop, any-done, fold-start, fold-next, fold-done, half-start, half-up, half-down, half-done, not-true, not-false, rules)
