-- The name, and then the number. Assumes nothing.
use Rattle.std.proofs.Common.{arith, rules}
use Rattle.run_text.specs.TextLaws.{named-short}
use Rattle.laws.specs.Writing.{wrote-then}
use Rattle.run_text.proofs.put_named.Goals as goal

pub returns : goal.returns
returns c =
    let both = wrote-then _ _ _ _ _ c.put-past.ensures (search rules) _ _ _ c.put_number.ensures in
    (both, omega (arith, both.place, named-short c.args.name.now c.args.n))
