-- Figures counted up to 65,537 and no further choose the same rows, as long as the smallest is at most 65,536. Assumes nothing.
use Rattle.std.specs.Prelude.{◌≡◌, refl, true, cond, ◌&&◌, List, [], ◌∷◌, map, ℕ, zero, suc, ◌*◌, ◌≤◌, ◌<◌, leb}
use Rattle.std.proofs.Common.{sym, ap, ◌∙◌, mul-le-mul, arith, lt-ltb, le-ltb, le-leb, leb-true}
use Rattle.std.proofs.Math.Option.{Option, some, none}
use Rattle.std.proofs.Math.Decide.{dec_le}
use Rattle.std.proofs.lemmas.Bool.{lt-leb}
use Rattle.rules.specs.Lists.{all}
use Rattle.rules.specs.Plan.{smaller, smallest, all_ways, figures_with, node_rows_from}
use Rattle.rules.specs.declared.Row.{Row}
use Rattle.laws.specs.Cases.{first-holds, second-holds}
use Rattle.laws.specs.Covering.{rows-next}

-- a figure counted up to 65,537
unfoldable pub cap : ℕ → ℕ
cap n = cond (leb n 65536) n 65537

-- a row with its figure so counted
abbrev pub capped : Row → Row
capped r = record {
  kind = r.kind;
  number = r.number;
  fetched = r.fetched;
  constraint = r.constraint;
  first = r.first;
  second = r.second;
  third = r.third;
  figure = cap r.figure;
}

pub cap-small : (n : ℕ) → n ≤ 65536 → cap n ≡ n
unfolding cap
cap-small n h = rw (le-leb n 65536 h)

pub cap-large : (n : ℕ) → 65536 < n → cap n ≡ 65537
unfolding cap
cap-large n h = rw (lt-leb n 65536 h)

-- counting may stop before multiplying
pub cap-times : (n f : ℕ) → 1 ≤ n → cap (n * cap f) ≡ cap (n * f)
cap-times n f h = go (dec_le f 65536)
  where
    go : Dec (f ≤ 65536) → cap (n * cap f) ≡ cap (n * f)
    go (yes s) = rw (cap-small f s)
    go (no l) =
        let more : 65536 < f = omega arith in
        let all_of : f ≤ f = omega arith in
        let some_of : 65537 ≤ 65537 = omega arith in
        let a : 1 * 65537 ≤ n * 65537 = mul-le-mul h some_of in
        let b : 1 * f ≤ n * f = mul-le-mul h all_of in
        rw (cap-large f more, cap-large (n * 65537) (omega arith), cap-large (n * f) (omega arith))

-- what the smallest of some rows and of the same rows, capped, have to do with each other
Like : Option Row → Option Row → Type 0
Like none none = Unit {0}
Like none (some q) = ⊥
Like (some r) none = ⊥
Like (some r) (some q) = (q.figure ≡ cap r.figure) × (r.figure ≤ 65536 → q ≡ r)

capped-same : (r : Row) → r.figure ≤ 65536 → capped r ≡ r
capped-same r h =
    ap
    (λ n. record { kind = r.kind; number = r.number; fetched = r.fetched; constraint = r.constraint; first = r.first; second = r.second; third = r.third; figure = n })
    (cap-small r.figure h)

like-next : (w : Row) (o p : Option Row) → Like o p → Like (some (smaller w o)) (some (smaller (capped w) p))
unfolding Like smaller
like-next w none none h = (refl, capped-same w)
like-next w none (some q) h = absurd h
like-next w (some r) none h = absurd h
like-next w (some r) (some q) h = go (dec_le w.figure r.figure) (dec_le r.figure 65536) (dec_le w.figure 65536)
  where
    go : Dec (w.figure ≤ r.figure) → Dec (r.figure ≤ 65536) → Dec (w.figure ≤ 65536)
        → Like (some (smaller w (some r))) (some (smaller (capped w) (some q)))
    go (yes a) (yes s) t =
        let ew : cap w.figure ≡ w.figure = cap-small w.figure (omega arith) in
        let er : q.figure ≡ r.figure = h.0 ∙ cap-small r.figure s in
        rw (le-ltb r.figure w.figure a, le-ltb q.figure (cap w.figure) (omega arith)) (refl, capped-same w)
    go (yes a) (no l) (yes t) =
        let ew : cap w.figure ≡ w.figure = cap-small w.figure t in
        let er : q.figure ≡ 65537 = h.0 ∙ cap-large r.figure (omega arith) in
        rw (le-ltb r.figure w.figure a, le-ltb q.figure (cap w.figure) (omega arith)) (refl, capped-same w)
    go (yes a) (no l) (no m) =
        let ew : cap w.figure ≡ 65537 = cap-large w.figure (omega arith) in
        let er : q.figure ≡ 65537 = h.0 ∙ cap-large r.figure (omega arith) in
        rw (le-ltb r.figure w.figure a, le-ltb q.figure (cap w.figure) (omega arith)) (refl, capped-same w)
    go (no a) (yes s) (yes t) =
        let ew : cap w.figure ≡ w.figure = cap-small w.figure t in
        let er : q.figure ≡ r.figure = h.0 ∙ cap-small r.figure s in
        rw (lt-ltb r.figure w.figure (omega arith), lt-ltb q.figure (cap w.figure) (omega arith)) h
    go (no a) (yes s) (no m) =
        let ew : cap w.figure ≡ 65537 = cap-large w.figure (omega arith) in
        let er : q.figure ≡ r.figure = h.0 ∙ cap-small r.figure s in
        rw (lt-ltb r.figure w.figure (omega arith), lt-ltb q.figure (cap w.figure) (omega arith)) h
    go (no a) (no l) t =
        let ew : cap w.figure ≡ 65537 = cap-large w.figure (omega arith) in
        let er : q.figure ≡ 65537 = h.0 ∙ cap-large r.figure (omega arith) in
        rw (lt-ltb r.figure w.figure (omega arith), le-ltb q.figure (cap w.figure) (omega arith))
        (ew ∙ sym (cap-large r.figure (omega arith)), λ s. absurd (omega arith))

like-all : (ws : List Row) → Like (smallest ws) (smallest (map capped ws))
unfolding smallest Like
like-all [] = tt
like-all (w ∷ ws) = like-next w (smallest ws) (smallest (map capped ws)) (like-all ws)

like-some : (o p : Option Row) (r : Row) → Like o p → o ≡ some r → r.figure ≤ 65536 → p ≡ some r
unfolding Like
like-some none p r h e s = cc
like-some (some x) none r h e s = absurd h
like-some (some x) (some q) r h e s = let k : x ≡ r = cc in ap some (h.1 (rw k s) ∙ k)

like-none : (o p : Option Row) → Like o p → o ≡ none → p ≡ none
unfolding Like
like-none none none h e = refl
like-none none (some q) h e = absurd h
like-none (some x) p h e = cc

-- the smallest of the capped ways is the smallest way itself
pub smallest-capped : (ws : List Row) (r : Row) → smallest ws ≡ some r → r.figure ≤ 65536 → smallest (map capped ws) ≡ some r
smallest-capped ws r e s = like-some (smallest ws) (smallest (map capped ws)) r (like-all ws) e s

-- the node rows, with the figures of all ways capped
unfoldable pub capped_rows_from : List ℕ → List ℕ → ℕ → List ℕ → List Row
capped_rows_from constraints b zero figures = []
capped_rows_from constraints b (suc n) figures =
    elim (smallest (map capped (all_ways constraints b figures))) [ none ↦ [] | some r ↦ r ∷ capped_rows_from constraints b n (figures_with figures r) ]

-- are the node rows, as long as no row's figure is above 65,536
pub rows-capped : (constraints b : List ℕ) (n : ℕ) (figures : List ℕ) → all (λ r. leb r.figure 65536) (node_rows_from constraints b n figures) ≡ true
    → capped_rows_from constraints b n figures ≡ node_rows_from constraints b n figures
unfolding capped_rows_from node_rows_from all
rows-capped constraints b zero figures h = refl
rows-capped constraints b (suc n) figures h = go (smallest (all_ways constraints b figures)) refl (rows-capped constraints b n)
  where
    go : (o : Option Row) → smallest (all_ways constraints b figures) ≡ o
        → ((next : List ℕ) → all (λ r. leb r.figure 65536) (node_rows_from constraints b n next) ≡ true → capped_rows_from constraints b n next ≡ node_rows_from constraints b n next)
        → capped_rows_from constraints b (suc n) figures ≡ node_rows_from constraints b (suc n) figures
    go none e ih = rw (e, like-none (smallest (all_ways constraints b figures)) (smallest (map capped (all_ways constraints b figures))) (like-all (all_ways constraints b figures)) e, capped_rows_from, node_rows_from)
    go (some r) e ih =
        let k : (leb r.figure 65536 && all (λ r. leb r.figure 65536) (node_rows_from constraints b n (figures_with figures r))) ≡ true = rw (rows-next constraints b n figures r e) at h in
        let s = leb-true r.figure 65536 (first-holds (leb r.figure 65536) (all (λ r. leb r.figure 65536) (node_rows_from constraints b n (figures_with figures r))) k) in
        rw (e, smallest-capped (all_ways constraints b figures) r e s, capped_rows_from, node_rows_from) (ap (λ l. r ∷ l) (ih (figures_with figures r) (second-holds (leb r.figure 65536) (all (λ r. leb r.figure 65536) (node_rows_from constraints b n (figures_with figures r))) k)))
