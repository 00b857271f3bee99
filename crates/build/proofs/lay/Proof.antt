-- `build::lay` meets its contract. Assumes nothing.
use borrow.Author.Rules.{rules}
use native.Mathlib.Omega.{arith}
use Rattle.laws.specs.Header.{header-ends}
use Rattle.build.proofs.Laying.{lay-needs, laid}
use Rattle.build.proofs.lay.Statement.{statement}
use Rattle.build.proofs.lay.Tie as tie

node-part-requires : tie.Need-node_part-requires
node-part-requires c κs =
    let e = header-ends _ c.requires.right.header in
    omega arith

arrange-requires : tie.Need-arrange-requires
arrange-requires c κs = lay-needs c.requires c.node_part.ensures

returns : tie.Need-returns
returns c = laid c.requires c.node_part.ensures c.arrange.auto.words c.arrange.ensures

pub lay_spec : {M : Type 1} → statement M
lay_spec = tie.close (tie.spec node-part-requires arrange-requires (λ c. search rules) returns)
