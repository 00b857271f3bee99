-- `build::settle` meets its contract. Assumes nothing.
use borrow.Author.Rules.{rules}
use mathlib.Core.Bool.{true≢false, false≢true}
use Rattle.build.proofs.Laying.{total-over}
use Rattle.build.proofs.settle.Statement.{statement}
use Rattle.build.proofs.settle.Tie as tie

total-requires : tie.Need-total-requires
total-requires c κs = c.requires

returns : tie.Need-returns-then-total-gt1048576
returns c = record { over = λ z. total-over c.total.ensures c.if-total-gt1048576.true; hand = λ z. c.requires; laid = λ z. absurd (true≢false z) }

lay-requires : tie.Need-lay-requires
lay-requires c κs = c.requires

returns-2 : tie.Need-returns
returns-2 c = record { over = λ z. absurd (false≢true z); hand = λ z. absurd (false≢true z); laid = λ z. c.lay.ensures }

pub settle_spec : {M : Type 1} → statement M
settle_spec = tie.close (tie.spec total-requires (λ c. search rules) returns lay-requires (λ c. search rules) returns-2)
