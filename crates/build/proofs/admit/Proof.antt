-- `build::admit` meets its contract. Assumes nothing.
use Rattle.std.proofs.Math.Path.{ap}
use Rattle.std.proofs.Math.Bool.{not}
use borrow.Author.Rules.{rules}
use native.Mathlib.Omega.{arith}
use mathlib.Core.Path.{sym, ◌∙◌}
use lib.ListN.{length-take}
use Rattle.laws.specs.Rooms.{new-fits, new-long}
use Rattle.build_keys.proofs.Index.{right-sound}
use Rattle.build.proofs.Numbers.{early-number, early-right}
use Rattle.build.proofs.Laying.{front-short}
use Rattle.build.proofs.Admitted.{admits-not, admits-graph}
use Rattle.build.proofs.admit.Statement.{statement}
use Rattle.build.proofs.admit.Tie as tie

returns : tie.Need-returns-then-not-header_right
returns c = admits-not _ _ c.header_right.ensures (ap not c.if-not-header_right.true)

record-number-requires : tie.Need-record_number-early-requires
record-number-requires c κs = sym c.header_right.ensures ∙ c.if-not-header_right.false

returns-2 : tie.Need-returns-then-early-ne0
returns-2 c =
    let header = sym c.header_right.ensures ∙ c.if-not-header_right.false in
    let early = early-number _ _ c.record_number-early.ensures c.if-early-ne0.true in
    admits-graph _ header _ early.0 (λ q. omega (arith, early.1)) c.if-early-ne0.true

own-joined-requires : tie.Need-own_joined-n-requires
own-joined-requires c κs =
    let header = sym c.header_right.ensures ∙ c.if-not-header_right.false in
    (right-sound (early-right _ _ c.record_number-early.ensures header c.if-early-ne0.false), new-fits 524288 0)

slice-aggregate-admit-with : tie.Need-slice_bounds-admit_with-end
slice-aggregate-admit-with c =
    let k = c.own_joined-n.ensures.0 in
    simp length-take (omega arith)

admit-with-requires : tie.Need-admit_with-requires
admit-with-requires c κs =
    let header = sym c.header_right.ensures ∙ c.if-not-header_right.false in
    let own = c.own_joined-n in
    record { right = early-right _ _ c.record_number-early.ensures header c.if-early-ne0.false; words = own.ensures.1; short = front-short own.result 524288 0 own.new.words own.auto.words }

returns-3 : tie.Need-returns
returns-3 c = c.admit_with.ensures

pub admit_spec : {M : Type 1} → statement M
admit_spec =
    tie.close
    (tie.spec (λ c κs. search rules) returns record-number-requires returns-2 (λ c. new-long 524288 0) own-joined-requires (λ c. c.own_joined-n.ensures.0) slice-aggregate-admit-with
    admit-with-requires returns-3)
