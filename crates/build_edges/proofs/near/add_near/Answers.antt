use Rattle.std.proofs.Common.{◌≡◌, ◌∙◌, sym, ap, ℕ, List, take, drop, ◌++◌, length, ◌+◌, ◌-◌, ◌%◌, ◌≤◌, arith, rules, append-nil, length-drop, get_or}
use lib.ListN.{length-map, drop_of_length-le}
use lib.Seq.{take-append-add, length-take-le}
use borrow.Rule.Slice.PartMut.{put_mid}
use Rattle.laws.specs.Map.{get-map}
use Rattle.laws.specs.Lows.{lows}
use Rattle.build_edges.specs.Near.{is_labelled}
use Rattle.build_edges.proofs.near.add_near.Goals as goal

-- what is put behind k words, and of it r words
behind : (w last : List ℕ) (k r : ℕ) → k ≤ length w → take (k + r) (put_mid k (length w - k) w last) ≡ take k w ++ take r last
behind w last k r h =
    let e : put_mid k (length w - k) w last ≡ take k w ++ last = rw (drop_of_length-le (drop k w) {i = length w - k} (rw length-drop (omega arith)), append-nil) in
    ap (take (k + r)) e ∙ rw (length-take-le k w h) at (take-append-add (take k w) last r)

pub returns : goal.returns
returns c =
    let a = c.args in
    let kept = c.keep_front.ensures.kept (lows a.near.now) (is_labelled a.nodes.now a.l) (length-map a.near.now (λ w. w % 65536))
    (λ i r h called. let e : r ≡ get_or a.near.now i 0 % 65536 = search rules in e ∙ sym (get-map (λ w. w % 65536) a.near.now i 0 0 (omega (arith, length-map a.near.now (λ w. w % 65536))))) (λ i x r h called tested. search rules) in
    (omega arith, behind a.out.now c.keep_front.new.out a.k c.keep_front.result (omega arith) ∙ ap (λ l. take a.k a.out.now ++ l) kept)
