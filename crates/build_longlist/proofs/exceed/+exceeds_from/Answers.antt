use Rattle.std.proofs.Common.{arith, refl}
use Rattle.build_keys.proofs.Going.{labels-fall}
use Rattle.build_longlist.proofs.Exceeding.{try-start, try-skip, try-next, try-stop, try-done, try-short, try-whole, try-counted, rooms-here, rooms-next}
use Rattle.build_longlist.proofs.exceed.+exceeds_from.Goals as goal
use Rattle.build_longlist.proofs.exceed.+exceeds_from.Goals.{then-not-goes_too+else-exceeds_from, else-not-goes_too}

pub returns-then-list-most : goal.returns-then-list-most
returns-then-list-most t c = try-short _ _ _ _ _ c.if-list-most.true

pub returns-then-left-eq0 : goal.returns-then-left-eq0
returns-then-left-eq0 t c = try-whole _ _ _ _ _ c.if-list-most.false c.if-left-eq0.true

pub split_at_mut-one-requires : goal.split_at_mut-one-requires
split_at_mut-one-requires t c = let long = rooms-here c.requires c.if-left-eq0.false in omega arith

pub returns-then-left-list : goal.returns-then-left-list
returns-then-left-list t c = try-counted _ _ _ _ _ _ c.if-list-most.false c.if-left-eq0.false c.if-left-list.true c.counts_exceed.ensures

pub split_at_mut-tried-requires : goal.split_at_mut-tried-requires
split_at_mut-tried-requires t c =
    let long = rooms-here c.requires c.if-left-eq0.false in
    let rest = c.split_at_mut-one.ensures.back_len in
    omega arith

pub loop-x-init : goal.loop-x-init
loop-x-init t c = try-start refl c.if-list-most.false c.if-left-eq0.false c.sifted-n.ensures.1

pub exceeds_from-requires : goal.exceeds_from-requires
exceeds_from-requires t c =
    let rest = c.split_at_mut-one.ensures.back_len in
    let deeper = c.split_at_mut-tried.ensures.back_len in
    let fall = labels-fall _ _ c.if-left-eq0.false c.rest_of.ensures in
    (omega (arith, c.decreases), rooms-next _ c.requires c.if-left-eq0.false c.rest_of.ensures c.shared-k.ensures.1 (omega arith))

pub returns-then-exceeds_from : goal.returns-then-exceeds_from
returns-then-exceeds_from t c = try-stop c.loop-x.invariant _ c.loop-x-test.true refl c.rest_of.ensures c.shared-k.ensures.1 c.exceeds_from.ensures c.if-exceeds_from.true

pub loop-x-preserved : goal.loop-x-preserved
loop-x-preserved t c =
    elim c.if-not-goes_too.branch [
      | then-not-goes_too+else-exceeds_from w ↦
          try-next c.loop-x.invariant _ c.loop-x-test.true refl w.rest_of.ensures w.shared-k.ensures.1 w.exceeds_from.ensures w.none-is w.if-exceeds_from.false
      | else-not-goes_too w ↦ rw w.none-is (try-skip c.loop-x.invariant _ c.loop-x-test.true refl (c.goes_too.ensures w.if-not-goes_too.false))
    ]

pub returns : goal.returns
returns t c = try-done c.loop-x.invariant c.loop-x-test.false
