-- Counting how often each node is met: the states of the three loops, with a law for each need, and what the counts tell. Assumes nothing.
use native.Mathlib.Omega.{arith}
use native.Mathlib.Decide.{ℕ_discrete}
use mathlib.Core.Path.{◌≡◌, refl, sym, ap, ◌∙◌, fun_ext}
use mathlib.Core.Bool.{Bool, true, false, or-false, false≢true}
use mathlib.Core.List.{List, [], ◌∷◌}
use Prim.Native.Nat.{ℕ, suc, ◌+◌, ◌%◌, ◌≤◌, ◌<◌}
use lib.Dec.{eqb, ltb}
use lib.ListN.{length, drop, replicate, get_or, set, length-set, drop_of_length-le}
use lib.Seq.{get_or-set_same, get_or-set_other}
use Rattle.std.proofs.lemmas.List.{get_or-replicate}
use borrow.Author.Tests.{lt-ltb, le-ltb, eq-eqb, ne_eqb}
use Rattle.rules.specs.Lists.{keep, has}
use Rattle.laws.specs.Strict.{From, Strict}
use Rattle.rules.specs.Store.{nodes_in, most_nodes}
use Rattle.laws.specs.Keep.{keep-most, keep-yes, keep-no}
use Rattle.laws.specs.Has.{has-get}
use Rattle.laws.specs.Searching.{stands-has}
use Rattle.laws.specs.Slices.{drop-next}
use Rattle.laws.specs.Any.{any-member, any-none}
use Rattle.build_edges.specs.Packed.{word_in, labelled_in}
use Rattle.build_edges.specs.Near.{words_of, is_labelled, Joined}
use Rattle.laws.specs.Lows.{lows}
use Rattle.build_edges.proofs.Nearby.{either-side, labelled-has}
use Rattle.build_neighbours.proofs.Pairing.{labelled-below}
use Rattle.build_longlist.specs.Counting.{long_last, times, Inside, Low, Spare, Added, Above}

-- ---- how often a number is met
times-here : (u v : ℕ) (l : List ℕ) → v ≡ u → times u (v ∷ l) ≡ suc (times u l)
unfolding times
times-here u v l e = ap length (keep-yes (λ z. eqb z u) v l (eq-eqb v u e))

times-other : (u v : ℕ) (l : List ℕ) → (v ≡ u → ⊥) → times u (v ∷ l) ≡ times u l
unfolding times
times-other u v l n = ap length (keep-no (λ z. eqb z u) v l (ne_eqb v u n))

-- u is met among the neighbours of v once if they are joined, else never
alone : (u : ℕ) → Strict (u ∷ [])
unfolding From
alone u = (omega arith, tt)

times-near : (joined : List ℕ) (v u : ℕ) → Strict joined → v < 65536 → times u (lows (words_of joined v)) ≡ length (keep (word_in joined v) (u ∷ []))
unfolding times has
times-near joined v u s h =
    ap (λ p. length (keep p (lows (words_of joined v)))) (fun_ext (λ z. sym (stands-has z (u ∷ []) (alone u) ∙ or-false (eqb z u))))
    ∙ ap length (either-side joined (u ∷ []) v s (alone u) h)

met : {joined : List ℕ} → Joined joined → (v u : ℕ) → v < 65536 → (rest : List ℕ)
    → times u (lows (words_of joined v)) + length (keep (word_in joined u) rest) ≡ length (keep (word_in joined u) (v ∷ rest))
met {joined} j v u h rest = go (word_in joined v u) refl
  where
    go : (b : Bool) → word_in joined v u ≡ b → times u (lows (words_of joined v)) + length (keep (word_in joined u) rest) ≡ length (keep (word_in joined u) (v ∷ rest))
    go true e =
        let once : length (keep (word_in joined v) (u ∷ [])) ≡ suc (length (keep (word_in joined v) [])) = ap length (keep-yes (word_in joined v) u [] e) in
        let none : length (keep (word_in joined v) []) ≡ 0 = unfold keep in refl in
        let all = times-near joined v u j.strict h in
        let more : length (keep (word_in joined u) (v ∷ rest)) ≡ suc (length (keep (word_in joined u) rest)) = ap length (keep-yes (word_in joined u) v rest (j.both u v ∙ e)) in
        omega arith
    go false e =
        let never : length (keep (word_in joined v) (u ∷ [])) ≡ length (keep (word_in joined v) []) = ap length (keep-no (word_in joined v) u [] e) in
        let none : length (keep (word_in joined v) []) ≡ 0 = unfold keep in refl in
        let all = times-near joined v u j.strict h in
        let same : length (keep (word_in joined u) (v ∷ rest)) ≡ length (keep (word_in joined u) rest) = ap length (keep-no (word_in joined u) v rest (j.both u v ∙ e)) in
        omega arith

-- ---- the loop of `count_near`: the first i words are counted, and no node labelled s more than t times
pub record Meeting (nodes : List ℕ) (s t : ℕ) (words first counts : List ℕ) (i : ℕ) : Type 0 where
  pub same : length counts ≡ length first
  pub each : (u : ℕ) → u < 65536 → get_or counts u 0 + times u (lows (drop i words)) ≡ get_or first u 0 + times u (lows words)
  pub low : Low nodes s t counts

pub meet-start : {nodes : List ℕ} {s t : ℕ} {words counts : List ℕ} → Low nodes s t counts → Meeting nodes s t words counts counts 0
meet-start low = record { same = refl; each = λ u h. refl; low = low }

module _ {nodes : List ℕ} {s t : ℕ} {words first counts : List ℕ} {i : ℕ} (g : Meeting nodes s t words first counts i) (h : i < length words) where
  abbrev node : ℕ
  node = get_or words i 0 % 65536

  here : times node (lows (drop i words)) ≡ suc (times node (lows (drop (i + 1) words)))
  here = ap (λ l. times node (lows l)) (drop-next words i h) ∙ times-here node node (lows (drop (i + 1) words)) refl

  other : (u : ℕ) → (u ≡ node → ⊥) → times u (lows (drop i words)) ≡ times u (lows (drop (i + 1) words))
  other u n = ap (λ l. times u (lows l)) (drop-next words i h) ∙ times-other u node (lows (drop (i + 1) words)) (λ e. n (sym e))

  pub meet-same : length (set counts node (get_or counts node 0 + 1)) ≡ length first
  meet-same = length-set counts node (get_or counts node 0 + 1) ∙ g.same

  -- one more fits
  pub meet-fits : Spare words first → get_or counts node 0 + 1 < 4294967296
  meet-fits p =
      let k = here in
      let e = g.each node (omega arith) in
      let f = p.fits node (omega arith) in
      omega arith

  module _ (long : 65536 ≤ length first) where
    counted : (u : ℕ) → u < 65536 → Dec (u ≡ node) → get_or (set counts node (get_or counts node 0 + 1)) u 0 + times u (lows (drop (i + 1) words)) ≡ get_or first u 0 + times u (lows words)
    counted u k (yes e) =
        let same = g.same in
        let x : get_or (set counts node (get_or counts node 0 + 1)) node 0 ≡ get_or counts node 0 + 1 = get_or-set_same counts node (get_or counts node 0 + 1) 0 (omega arith) in
        let y = here in
        let z = g.each node (omega arith) in
        rw e (omega arith)
    counted u k (no n) =
        let x : get_or (set counts node (get_or counts node 0 + 1)) u 0 ≡ get_or counts u 0 = get_or-set_other counts node u (get_or counts node 0 + 1) 0 n in
        let y = other u n in
        let z = g.each u k in
        omega arith

    kept : (is_labelled nodes s node ≡ true → get_or counts node 0 + 1 ≤ t) → (u : ℕ) → is_labelled nodes s u ≡ true → Dec (u ≡ node)
        → get_or (set counts node (get_or counts node 0 + 1)) u 0 ≤ t
    kept f u l (yes e) =
        let same = g.same in
        let x : get_or (set counts node (get_or counts node 0 + 1)) node 0 ≡ get_or counts node 0 + 1 = get_or-set_same counts node (get_or counts node 0 + 1) 0 (omega arith) in
        let m = f (rw e at l) in
        rw e (omega arith)
    kept f u l (no n) =
        let x : get_or (set counts node (get_or counts node 0 + 1)) u 0 ≡ get_or counts u 0 = get_or-set_other counts node u (get_or counts node 0 + 1) 0 n in
        let y = g.low.low u l in
        omega arith

    next : (is_labelled nodes s node ≡ true → get_or counts node 0 + 1 ≤ t) → Meeting nodes s t words first (set counts node (get_or counts node 0 + 1)) (i + 1)
    next f = record {
      same = meet-same;
      each = λ u k. counted u k (ℕ_discrete u node);
      low = record { low = λ u l. kept f u l (ℕ_discrete u node) };
    }

    pub meet-few : get_or counts node 0 + 1 ≤ t → Meeting nodes s t words first (set counts node (get_or counts node 0 + 1)) (i + 1)
    meet-few k = next (λ l. k)

    pub meet-other : {r : Bool} → r ≡ is_labelled nodes s node → r ≡ false → Meeting nodes s t words first (set counts node (get_or counts node 0 + 1)) (i + 1)
    meet-other e q = next (λ l. absurd (false≢true (sym q ∙ e ∙ l)))

  pub meet-stop : {r : Bool} → t < get_or counts node 0 + 1 → r ≡ is_labelled nodes s node → r ≡ true → Above nodes s t words first
  meet-stop k e q =
      let y = here in
      let z = g.each node (omega arith) in
      record { node = node; inside = omega arith; labelled = sym e ∙ q; above = omega arith }

pub meet-done : {nodes : List ℕ} {s t : ℕ} {words first counts : List ℕ} {i : ℕ} → Meeting nodes s t words first counts i → length words ≤ i
    → Added words first counts × Low nodes s t counts
unfolding times keep
meet-done {words = words} {i = i} g h =
    let none : (u : ℕ) → times u (lows (drop i words)) ≡ 0 = λ u. ap (λ l. times u (lows l)) (drop_of_length-le words {i = i} h) in
    (record { each = λ u k. let e = g.each u k in let z = none u in omega arith }, g.low)

-- ---- the loop of `counts_exceed`: the neighbours of the first i of the list are counted, and no node labelled s more than t times
pub record Counting (nodes joined : List ℕ) (s t : ℕ) (list counts : List ℕ) (i : ℕ) : Type 0 where
  pub each : (u : ℕ) → u < 65536 → get_or counts u 0 + length (keep (word_in joined u) (drop i list)) ≡ length (keep (word_in joined u) list)
  pub low : Low nodes s t counts

node-below : (nodes : List ℕ) (s u : ℕ) → is_labelled nodes s u ≡ true → u < nodes_in nodes
node-below nodes s u l = labelled-below nodes s u (labelled-has nodes s u ∙ l)

pub count-start : {nodes joined : List ℕ} {s t n : ℕ} {list counts : List ℕ} → counts ≡ replicate n 0 → 65536 ≤ n → nodes_in nodes ≤ most_nodes → Counting nodes joined s t list counts 0
count-start {nodes} {joined} {s} {t} {n} {list} {counts} c long few = record {
  each = λ u h. let z = none u h in omega arith;
  low = record { low = λ u l. let k = node-below nodes s u l in let z = none u (omega arith) in omega arith };
}
  where
    none : (u : ℕ) → u < 65536 → get_or counts u 0 ≡ 0
    none u h = ap (λ l. get_or l u 0) c ∙ get_or-replicate n u 0 0 (omega arith)

module _ {nodes joined : List ℕ} {s t : ℕ} {list counts : List ℕ} {i : ℕ} (g : Counting nodes joined s t list counts i) (h : i < length list) (j : Joined joined) (inside : Inside list) where
  pub count-inside : get_or list i 0 < 65535
  count-inside = inside (get_or list i 0) (has-get list i h)

  module _ {near : List ℕ} (e : near ≡ words_of joined (get_or list i 0)) where
    step : (u : ℕ) → u < 65536 → get_or counts u 0 + (times u (lows near) + length (keep (word_in joined u) (drop (i + 1) list))) ≡ length (keep (word_in joined u) list)
    step u k =
        let low = count-inside in
        ap (λ l. get_or counts u 0 + (times u (lows l) + length (keep (word_in joined u) (drop (i + 1) list)))) e
        ∙ ap (λ n. get_or counts u 0 + n) (met j (get_or list i 0) u (omega arith) (drop (i + 1) list) ∙ ap (λ l. length (keep (word_in joined u) l)) (sym (drop-next list i h)))
        ∙ g.each u k

    pub count-spare : length list ≤ 65536 → Spare near counts
    count-spare short = record { fits = λ u k. let a = step u k in let b = keep-most (word_in joined u) list in omega arith }

    pub count-next : {counts' : List ℕ} → Added near counts counts' × Low nodes s t counts' → Counting nodes joined s t list counts' (i + 1)
    count-next a = record { each = λ u k. let x = step u k in let y = a.0.each u k in omega arith; low = a.1 }

    pub count-stop : Above nodes s t near counts → true ≡ long_last nodes joined s t list
    unfolding long_last
    count-stop a =
        let x = step a.node a.inside in
        let y = a.above in
        sym (any-member (λ u. ltb t (length (keep (word_in joined u) list))) a.node (labelled_in nodes s) (labelled-has nodes s a.node ∙ a.labelled)
        (lt-ltb t (length (keep (word_in joined a.node) list)) (omega arith)))

pub count-done : {nodes joined : List ℕ} {s t : ℕ} {list counts : List ℕ} {i : ℕ} → Counting nodes joined s t list counts i → nodes_in nodes ≤ most_nodes → length list ≤ i
    → false ≡ long_last nodes joined s t list
unfolding long_last keep
count-done {nodes} {joined} {s} {t} {list} {counts} {i} g few h = sym (any-none (λ u. ltb t (length (keep (word_in joined u) list))) (labelled_in nodes s) few-of)
  where
    few-of : (u : ℕ) → has u (labelled_in nodes s) ≡ true → ltb t (length (keep (word_in joined u) list)) ≡ false
    few-of u m =
        let l : is_labelled nodes s u ≡ true = sym (labelled-has nodes s u) ∙ m in
        let k = labelled-below nodes s u m in
        let x = g.each u (omega arith) in
        let y = g.low.low u l in
        let z : length (keep (word_in joined u) (drop i list)) ≡ 0 = ap (λ l. length (keep (word_in joined u) l)) (drop_of_length-le list {i = i} h) in
        le-ltb t (length (keep (word_in joined u) list)) (omega arith)
