-- `build::build` meets its contract. Assumes nothing.
use Rattle.std.proofs.Math.Path.{ap}
use Rattle.std.proofs.Math.Bool.{not}
use borrow.Author.Rules.{rules}
use native.Mathlib.Omega.{arith}
use mathlib.Core.Path.{sym, ◌∙◌}
use lib.ListN.{length-take}
use Rattle.laws.specs.Header.{draft-header}
use Rattle.laws.specs.Rooms.{new-fits, new-long}
use Rattle.build_keys.proofs.Index.{right-sound}
use Rattle.build.proofs.Numbers.{early-number, early-right}
use Rattle.build.proofs.Laying.{front-short}
use Rattle.build.proofs.Built.{gives-one, gives-graph}
use Rattle.build.proofs.build.Statement.{statement}
use Rattle.build.proofs.build.Tie as tie

returns : tie.Need-returns-then-not-draft_right
returns c = gives-one _ _ _ c.draft_right.ensures (ap not c.if-not-draft_right.true)

record-number-requires : tie.Need-record_number-early-requires
record-number-requires c κs = draft-header _ (sym c.draft_right.ensures ∙ c.if-not-draft_right.false)

returns-2 : tie.Need-returns-then-early-ne0
returns-2 c =
    let right = sym c.draft_right.ensures ∙ c.if-not-draft_right.false in
    gives-graph _ _ right _ (early-number _ _ c.record_number-early.ensures c.if-early-ne0.true).0 c.if-early-ne0.true

own-joined-requires : tie.Need-own_joined-n-requires
own-joined-requires c κs =
    let right = sym c.draft_right.ensures ∙ c.if-not-draft_right.false in
    (right-sound (early-right _ _ c.record_number-early.ensures (draft-header _ right) c.if-early-ne0.false), new-fits 524288 0)

slice-aggregate-build-with : tie.Need-slice_bounds-build_with-end
slice-aggregate-build-with c =
    let k = c.own_joined-n.ensures.0 in
    simp length-take (omega arith)

build-with-requires : tie.Need-build_with-requires
build-with-requires c κs =
    let right = sym c.draft_right.ensures ∙ c.if-not-draft_right.false in
    let own = c.own_joined-n in
    (right, record { right = early-right _ _ c.record_number-early.ensures (draft-header _ right) c.if-early-ne0.false; words = own.ensures.1; short = front-short own.result 524288 0 own.new.words own.auto.words })

returns-3 : tie.Need-returns
returns-3 c = c.build_with.ensures

pub build_spec : {M : Type 1} → statement M
build_spec =
    tie.close
    (tie.spec (λ c κs. search rules) returns record-number-requires returns-2 (λ c. new-long 524288 0) own-joined-requires (λ c. c.own_joined-n.ensures.0) slice-aggregate-build-with
    build-with-requires (λ c. c.build_with.auto.room) returns-3)
