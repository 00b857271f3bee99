-- `build::build_with` meets its contract. Assumes nothing.
use borrow.Author.Rules.{rules}
use native.Mathlib.Omega.{arith}
use Rattle.build.proofs.Laying.{many-some}
use Rattle.build.proofs.Built.{gives-graph, gives-ten, gives-store}
use Rattle.build.proofs.Fitted.{fitting, whole-length, small}
use Rattle.build.proofs.build_with.Statement.{statement}
use Rattle.build.proofs.build_with.Tie as tie

settle-requires : tie.Need-settle-requires
settle-requires c κs = c.requires.1

number-of-many-requires : tie.Need-number_of_many-requires
number-of-many-requires c κs = (c.settle.ensures.hand c.if-settle.true, c.settle.ensures.over c.if-settle.true)

returns : tie.Need-returns-then-settle
returns c =
    let p = c.requires in
    let n = c.number_of_many.ensures in
    gives-graph _ _ p.0 _ n (many-some p.1.right (c.settle.ensures.over c.if-settle.true) _ n)

count-requires : tie.Need-count-c-requires
count-requires c κs = c.settle.ensures.laid c.if-settle.false

returns-2 : tie.Need-returns-then-c-ne0
returns-2 c = gives-graph _ _ c.requires.0 _ c.count-c.ensures.0 c.if-c-ne0.true

write-store-requires : tie.Need-write_store-requires
write-store-requires c κs =
    let p = c.requires in
    let told = c.count-c.ensures in
    (fitting _ p.0 p.1.right _ _ _ told.0 c.if-c-ne0.false told.1 _ (omega arith), c.settle.ensures.laid c.if-settle.false)

cast-t26 : tie.Need-overflow_cast-result
cast-t26 c =
    let p = c.requires in
    let told = c.count-c.ensures in
    let h = small _ p.0 p.1.right _ _ _ told.0 c.if-c-ne0.false told.1 in
    omega arith

returns-4 : tie.Need-returns
returns-4 c =
    let p = c.requires in
    let told = c.count-c.ensures in
    let none = c.if-c-ne0.false in
    gives-store _ _ p.0 _ told.0 none _ (whole-length _ p.0 p.1.right _ _ _ told.0 none told.1) (omega arith) c.write_store.ensures

pub build_with_spec : {M : Type 1} → statement M
build_with_spec =
    tie.close
    (tie.spec settle-requires number-of-many-requires (λ c. search rules) returns count-requires (λ c. search rules) returns-2 (λ c. search rules) (λ c. search rules) (λ c. search rules) (λ c. search rules) (λ c. search rules) (λ c. search rules)
    (λ c. search rules)
    -- (the goal's own name says what is compared: see must-fail/refuses_all.edit)
    (λ c.
    let p = c.requires in
    let told = c.count-c.ensures in
    let none = c.if-c-ne0.false in
    gives-ten _ _ p.0 _ told.0 none _ (whole-length _ p.0 p.1.right _ _ _ told.0 none told.1) (omega arith))
    write-store-requires cast-t26 (λ c. search rules) (λ c. search rules) returns-4)
