-- The digits that the kit writes are those of the number here, and 20 places hold them.
use Rattle.std.proofs.Common.{◌≡◌, ◌∙◌, take, arith, rules}
use Rattle.run_text.specs.Text.{decimal}
use Rattle.run_text.specs.TextLaws.{fewest-few, fewest-decimal}
use Rattle.run_text.proofs.put_number.Goals as goal

pub put-requires : goal.put-requires
put-requires c = omega (arith, fewest-few c.decimal-k.result c.args.n (search rules) c.decimal-k.ensures.len)

pub returns : goal.returns
returns c =
    let told = c.decimal-k in
    let text : take told.result told.new.out ≡ decimal c.args.n = told.ensures.digits ∙ fewest-decimal told.result c.args.n (search rules) told.ensures.len in
    rw text at c.put.ensures
