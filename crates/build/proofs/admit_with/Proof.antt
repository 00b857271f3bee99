-- `build::admit_with` meets its contract. Assumes nothing.
use Rattle.std.proofs.Math.Path.{ap}
use Rattle.std.proofs.Math.Bool.{not}
use borrow.Author.Rules.{rules}
use native.Mathlib.Omega.{arith}
use mathlib.Core.Path.{sym, ◌∙◌}
use Rattle.laws.specs.Header.{header-long, header-limits}
use Rattle.build.proofs.Laying.{many-other}
use Rattle.build.proofs.Admitted.{admits-many, admits-graph, few-groups, few-entries, ends, admits-header, admits-index, admits}
use Rattle.build.proofs.admit_with.Statement.{statement}
use Rattle.build.proofs.admit_with.Tie as tie

settle-requires : tie.Need-settle-requires
settle-requires c κs = c.requires

number-of-many-requires : tie.Need-number_of_many-requires
number-of-many-requires c κs = (c.settle.ensures.hand c.if-settle.true, c.settle.ensures.over c.if-settle.true)

returns : tie.Need-returns-then-number_of_many-eq4
returns c =
    let four = c.if-number_of_many-eq4.true in
    sym four ∙ admits-graph _ c.requires.right.header _ c.number_of_many.ensures (λ q. omega arith) (λ q. omega arith)

returns-2 : tie.Need-returns-then-settle
returns-2 c =
    let right = c.requires.right in
    let n = c.number_of_many.ensures in
    admits-many _ right.header _ n (many-other right (c.settle.ensures.over c.if-settle.true) _ n c.if-number_of_many-eq4.false)

count-requires : tie.Need-count-c-requires
count-requires c κs = c.settle.ensures.laid c.if-settle.false

returns-4 : tie.Need-returns-then-c-ne0
returns-4 c = admits-graph _ c.requires.right.header _ c.count-c.ensures.0 (λ q. omega arith) c.if-c-ne0.true

header-same-requires : tie.Need-header_same-requires
header-same-requires c κs =
    let right = c.requires.right in
    let told = c.count-c.ensures in
    (header-long _ right.header, (header-limits _ right.header, (few-groups _ right _ told.0 c.if-c-ne0.false _ _ told.1, few-entries _ right _ told.0 c.if-c-ne0.false _ _ told.1)))

returns-5 : tie.Need-returns-then-not-header_same
returns-5 c =
    let told = c.count-c.ensures in
    admits-header _ c.requires.right _ told.0 c.if-c-ne0.false _ _ told.1 _ c.header_same.ensures (ap not c.if-not-header_same.true)

index-same-requires : tie.Need-index_same-requires
index-same-requires c κs =
    let told = c.count-c.ensures in
    let none = c.if-c-ne0.false in
    let all = ends _ c.requires.right _ told.0 none _ _ told.1 _ c.header_same.ensures (ap not c.if-not-header_same.false) in
    let n = told.1 none in
    (c.settle.ensures.laid c.if-settle.false, (n.0, (n.1, omega arith)))

returns-6 : tie.Need-returns-then-not-index_same
returns-6 c =
    let told = c.count-c.ensures in
    admits-index _ c.requires.right _ told.0 c.if-c-ne0.false _ _ told.1 _ c.header_same.ensures (ap not c.if-not-header_same.false) _ c.index_same.ensures (ap not c.if-not-index_same.true)

returns-7 : tie.Need-returns
returns-7 c =
    let told = c.count-c.ensures in
    admits _ c.requires.right _ told.0 c.if-c-ne0.false _ _ told.1 _ c.header_same.ensures (ap not c.if-not-header_same.false) _ c.index_same.ensures (ap not c.if-not-index_same.false)

pub admit_with_spec : {M : Type 1} → statement M
admit_with_spec =
    tie.close
    (tie.spec settle-requires number-of-many-requires (λ c. search rules) returns (λ c. search rules) returns-2 count-requires (λ c. search rules)
    -- (the goal's own name says the number that is asked for: see must-fail/eleven_for_five.edit)
    (λ c. admits-many _ c.requires.right.header _ c.count-c.ensures.0 (omega arith))
    (λ c. search rules) returns-4 header-same-requires (λ c. search rules)
    returns-5 index-same-requires (λ c. search rules) returns-6 (λ c. search rules) returns-7)
