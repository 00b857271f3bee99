-- Laws of the words that say which nodes are tried for a list: the words of its nodes the other way round, or a mark for each node; and the loops that write them. Assumes nothing.
use native.Mathlib.Omega.{arith}
use native.Mathlib.Decide.{dec_le, ℕ_discrete}
use mathlib.Core.Path.{◌≡◌, refl, sym, ap, ap₂, ◌∙◌}
use mathlib.Core.Bool.{Bool, true, false, ◌&&◌, ◌||◌, and-false, and-true}
use mathlib.Core.List.{List, [], ◌∷◌, ◌++◌, map, flat_map, append-nil, append_assoc}
use Prim.Native.Nat.{ℕ, suc, ◌+◌, ◌*◌, ◌/◌, ◌%◌, ◌≤◌, ◌<◌}
use lib.Dec.{eqb, ltb, leb}
use lib.ListN.{length, take, get_or}
use lib.Seq.{take_at}
use borrow.Author.Tests.{lt-ltb, le-ltb, ltb-true, le-leb, lt-leb, eq-eqb, ne_eqb, eqb-true}
use Rattle.rules.specs.Lists.{range, has, keep, sort_of, set_of}
use Rattle.laws.specs.Strict.{From, Strict, below, from-lower}
use Rattle.rules.specs.Store.{most_nodes, nodes_in, label_at}
use Rattle.laws.specs.Cases.{first-holds, second-holds}
use Rattle.laws.specs.Sets.{same-members, has-sort, length-sort}
use Rattle.laws.specs.Has.{first-has, has-append, later-has, has-get}
use Rattle.laws.specs.Keep.{keep-yes, has-keep, keep-from, keep-whole, keep-same}
use Rattle.laws.specs.Map.{flat-same}
use Rattle.laws.specs.Searching.{stands_in, stands-has, between}
use Rattle.build_edges.specs.Packed.{word_in, has_label, labelled_in}
use Rattle.build_edges.specs.Near.{words_of, is_labelled}
use Rattle.laws.specs.Lows.{lows}
use Rattle.build_neighbours.specs.Side.{side_in, side_of, Held, Listed}
use Rattle.build_neighbours.specs.Pairs.{turned, marked, part_told, Paired}
use Rattle.build_edges.proofs.Nearby.{either-side, labelled-strict}
use Rattle.laws.specs.Range.{has-range}
use Rattle.laws.specs.Distinct.{sort-strict, Distinct, strict-distinct, distinct-append}
use Rattle.build_neighbours.proofs.Beside.{side-words, side-lows, side-strict}

-- ---- a loop that writes the words of each of a list behind one another
pub record Gathering (f : ℕ → List ℕ) (whole out : List ℕ) (k : ℕ) (left : List ℕ) : Type 0 where
  pub todo : take k out ++ flat_map f left ≡ whole

pub more : {f : ℕ → List ℕ} {whole out : List ℕ} {k v : ℕ} {left : List ℕ} → Gathering f whole out k (v ∷ left) → {own out' : List ℕ} {k' : ℕ} → own ≡ f v → take k' out' ≡ take k out ++ own
    → Gathering f whole out' k' left
unfolding flat_map
more {f} {whole} {out} {k} {v} {left} g {own} e q = record {
  todo = ap (λ l. l ++ flat_map f left) (q ∙ ap (λ l. take k out ++ l) e) ∙ append_assoc (take k out) (f v) (flat_map f left) ∙ g.todo;
}

pub gathered : {f : ℕ → List ℕ} {whole out : List ℕ} {k : ℕ} → Gathering f whole out k [] → take k out ≡ whole
unfolding flat_map
gathered {f} {whole} {out} {k} g = sym (append-nil (take k out)) ∙ g.todo

-- ---- words with one low half
module _ (v : ℕ) (low : v < 65536) where
  abbrev with_low : List ℕ → List ℕ
  with_low l = map (λ u. u * 65536 + v) l

  low-from : (n : ℕ) (l : List ℕ) → From n l → From (n * 65536 + v) (with_low l)
  unfolding From
  low-from n [] f = tt
  low-from n (u ∷ l) f = let k = f.0 in (omega arith, from-lower (suc (u * 65536 + v)) (suc u * 65536 + v) (with_low l) (omega arith) (low-from (suc u) l f.1))

  low-strict : (l : List ℕ) → Strict l → Strict (with_low l)
  low-strict l s = from-lower 0 (0 * 65536 + v) (with_low l) (omega arith) (low-from 0 l s)

  low-has : (z : ℕ) (l : List ℕ) → has z (with_low l) ≡ (eqb (z % 65536) v && has (z / 65536) l)
  unfolding has
  low-has z [] = sym (and-false (eqb (z % 65536) v))
  low-has z (u ∷ l) = go (ℕ_discrete (z % 65536) v) (ℕ_discrete (z / 65536) u) (low-has z l)
    where
      go : Dec (z % 65536 ≡ v) → Dec (z / 65536 ≡ u) → has z (with_low l) ≡ (eqb (z % 65536) v && has (z / 65536) l)
          → (eqb z (u * 65536 + v) || has z (with_low l)) ≡ (eqb (z % 65536) v && (eqb (z / 65536) u || has (z / 65536) l))
      go (yes a) (yes b) ih = rw (eq-eqb z (u * 65536 + v) (omega arith), eq-eqb (z % 65536) v a, eq-eqb (z / 65536) u b)
      go (yes a) (no b) ih = rw (ne_eqb z (u * 65536 + v) (λ e. b (omega arith)), ne_eqb (z / 65536) u b) ih
      go (no a) b ih = rw (ne_eqb z (u * 65536 + v) (λ e. a (omega arith)), ne_eqb (z % 65536) v a) (ih ∙ rw (ne_eqb (z % 65536) v a))

-- ---- the words of each of an ascending list, with it in their low half
module _ (side : ℕ → List ℕ) where
  abbrev each : ℕ → List ℕ
  each v = map (λ u. u * 65536 + v) (side v)

  each-has : (z : ℕ) (list : List ℕ) → ((v : ℕ) → has v list ≡ true → v < 65536)
      → has z (flat_map each list) ≡ (has (z % 65536) list && has (z / 65536) (side (z % 65536)))
  unfolding has flat_map
  each-has z [] h = refl
  each-has z (v ∷ list) h =
      has-append z (each v) (flat_map each list) ∙ rw (low-has v (h v (first-has v list)) z (side v)) (go (ℕ_discrete (z % 65536) v) (each-has z list (λ x k. h x (later-has v x list k))))
    where
      go : Dec (z % 65536 ≡ v) → has z (flat_map each list) ≡ (has (z % 65536) list && has (z / 65536) (side (z % 65536)))
          → (eqb (z % 65536) v && has (z / 65536) (side v) || has z (flat_map each list)) ≡ ((eqb (z % 65536) v || has (z % 65536) list) && has (z / 65536) (side (z % 65536)))
      go (yes e) ih = rw (eq-eqb (z % 65536) v e, ih, e) (or-given (has (z / 65536) (side v)) (has v list))
        where
          or-given : (a b : Bool) → (a || b && a) ≡ a
          or-given true b = refl
          or-given false true = refl
          or-given false false = refl
      go (no f) ih = rw (ne_eqb (z % 65536) v f) ih

  each-distinct : (n : ℕ) (list : List ℕ) → From n list → ((v : ℕ) → has v list ≡ true → v < 65536) → ((v : ℕ) → has v list ≡ true → Strict (side v)) → Distinct (flat_map each list)
  unfolding From flat_map Distinct
  each-distinct n [] f h s = tt
  each-distinct n (v ∷ list) f h s =
      let low = h v (first-has v list) in
      let rest : (x : ℕ) → has x list ≡ true → x < 65536 = λ x k. h x (later-has v x list k) in
      distinct-append (each v) (flat_map each list) (strict-distinct 0 (each v) (low-strict v low (side v) (s v (first-has v list))))
      (each-distinct (suc v) list f.1 rest (λ x k. s x (later-has v x list k)))
      (λ z k. each-has z list rest ∙ rw (eqb-true (z % 65536) v (first-holds (eqb (z % 65536) v) (has (z / 65536) (side v)) (sym (low-has v low z (side v)) ∙ k)), below v (suc v) list f.1 (omega arith)))

-- ---- tests that hold of all that they are asked for
keep-lows : (p : ℕ → Bool) (ws : List ℕ) → ((w : ℕ) → has w ws ≡ true → p (w % 65536) ≡ true) → keep p (lows ws) ≡ lows ws
keep-lows p [] h = unfold keep in refl
keep-lows p (w ∷ ws) h = keep-yes p (w % 65536) (lows ws) (h w (first-has w ws)) ∙ ap (λ m. w % 65536 ∷ m) (keep-lows p ws (λ y k. h y (later-has w y ws k)))

word-has : (ws : List ℕ) (u v : ℕ) → Strict ws → u < 65536 → v < 65536 → word_in ws u v ≡ has (u * 65536 + v) ws
unfolding word_in
word-has ws u v s h k = rw (lt-ltb u 65536 h, lt-ltb v 65536 k) (stands-has (u * 65536 + v) ws s)

-- ---- the nodes labelled l
labelled-has : (nodes : List ℕ) (l v : ℕ) → has v (labelled_in nodes l) ≡ (has_label nodes l v && ltb v (nodes_in nodes))
unfolding labelled_in
labelled-has nodes l v =
    let e : 0 + nodes_in nodes ≡ nodes_in nodes = omega arith in
    has-keep (has_label nodes l) v (range 0 (nodes_in nodes)) ∙ ap (λ t. has_label nodes l v && t) (has-range v 0 (nodes_in nodes) (omega arith) ∙ ap (ltb v) e)

pub labelled-below : (nodes : List ℕ) (l v : ℕ) → has v (labelled_in nodes l) ≡ true → v < nodes_in nodes
labelled-below nodes l v h = ltb-true v (nodes_in nodes) (second-holds (has_label nodes l v) (ltb v (nodes_in nodes)) (sym (labelled-has nodes l v) ∙ h))

pub listed-below : {nodes list : List ℕ} {l : ℕ} → Listed nodes l list → (v : ℕ) → has v list ≡ true → v < nodes_in nodes
unfolding is_labelled
listed-below {nodes} {list} {l} r v h = ltb-true v (nodes_in nodes) (first-holds (ltb v (nodes_in nodes)) (has_label nodes l v) (r.labelled v h))

listed-has : {nodes list : List ℕ} {l : ℕ} → Listed nodes l list → (v : ℕ) → has v list ≡ true → has v (labelled_in nodes l) ≡ true
unfolding is_labelled
listed-has {nodes} {list} {l} r v h =
    let both = r.labelled v h in
    labelled-has nodes l v ∙ rw (second-holds (ltb v (nodes_in nodes)) (has_label nodes l v) both, first-holds (ltb v (nodes_in nodes)) (has_label nodes l v) both)

-- ---- what words tell
told-lows : (joined list : List ℕ) (u : ℕ) (ws : List ℕ) → ((w : ℕ) → has w ws ≡ true → w % 65536 < 65535) → part_told joined list u ws ≡ lows ws
unfolding part_told
told-lows joined list u [] h = refl
told-lows joined list u (w ∷ ws) h = let k = h w (first-has w ws) in rw (ne_eqb (w % 65536) 65535 (λ e. omega arith))

pub told-none : (joined list : List ℕ) (u : ℕ) (ws : List ℕ) → length ws ≡ 0 → [] ≡ part_told joined list u ws
unfolding part_told
told-none joined list u [] h = refl
told-none joined list u (w ∷ ws) h = absurd (omega arith)

pub told-asked : (joined list : List ℕ) (u : ℕ) (ws : List ℕ) → (length ws ≡ 0 → ⊥) → get_or ws 0 0 % 65536 ≡ 65535 → part_told joined list u ws ≡ keep (word_in joined u) list
unfolding part_told
told-asked joined list u [] h e = absurd (h refl)
told-asked joined list u (w ∷ ws) h e = rw (eq-eqb (w % 65536) 65535 e)

pub told-listed : (joined list : List ℕ) (u : ℕ) (ws : List ℕ) → (get_or ws 0 0 % 65536 ≡ 65535 → ⊥) → part_told joined list u ws ≡ lows ws
unfolding part_told
told-listed joined list u [] h = refl
told-listed joined list u (w ∷ ws) h = rw (ne_eqb (w % 65536) 65535 h)

-- ---- words the other way round
turned-words : (v : ℕ) → v < 65536 → (l : List ℕ) → ((u : ℕ) → has u l ≡ true → u < 65536) → map turned (map (λ u. v * 65536 + u) l) ≡ map (λ u. u * 65536 + v) l
unfolding turned
turned-words v h [] k = refl
turned-words v h (u ∷ l) k =
    let b = k u (first-has u l) in
    let e : (v * 65536 + u) % 65536 * 65536 + (v * 65536 + u) / 65536 ≡ u * 65536 + v = omega arith in
    ap₂ (λ x xs. x ∷ xs) e (turned-words v h l (λ x q. k x (later-has u x l q)))

-- the words of a list's nodes and their neighbours labelled s, turned
abbrev pub turned_of : List ℕ → List ℕ → ℕ → List ℕ → List ℕ
turned_of nodes joined s list = flat_map (λ v. map turned (side_in nodes joined v s)) list

module _ {nodes joined starts : List ℕ} (held : Held nodes joined starts) {l : ℕ} {list : List ℕ} (listed : Listed nodes l list) (s : ℕ) where
  low : (v : ℕ) → has v list ≡ true → v < 65535
  low v h = let a = listed-below listed v h in let b = held.few in omega arith

  low-word : (v : ℕ) → has v list ≡ true → v < 65536
  low-word v h = let b = low v h in omega arith

  side-below : (v u : ℕ) → has u (side_of nodes (set_of joined) v s) ≡ true → u < 65536
  side-below v u h =
      let a = labelled-below nodes s u (second-holds (word_in (set_of joined) v u) (has u (labelled_in nodes s)) (sym (has-keep (word_in (set_of joined) v) u (labelled_in nodes s)) ∙ h)) in
      let b = held.few in
      omega arith

  turned-same : turned_of nodes joined s list ≡ flat_map (each (λ v. side_of nodes (set_of joined) v s)) list
  turned-same =
      flat-same (λ v. map turned (side_in nodes joined v s)) (each (λ v. side_of nodes (set_of joined) v s)) list
      (λ v h. ap (map turned) (side-words nodes joined v s held.arranged (low-word v h) held.few)
      ∙ turned-words v (low-word v h) (side_of nodes (set_of joined) v s) (side-below v))

  abbrev pairs : List ℕ
  pairs = sort_of (turned_of nodes joined s list)

  pair-strict : Strict pairs
  pair-strict = sort-strict (turned_of nodes joined s list) (rw turned-same
      (each-distinct (λ v. side_of nodes (set_of joined) v s) 0 list listed.ascends low-word
      (λ v h. keep-from (word_in (set_of joined) v) 0 (labelled_in nodes s) (labelled-strict nodes s))))

  pair-has : (w : ℕ) → has w pairs ≡ (has (w % 65536) list && (word_in (set_of joined) (w % 65536) (w / 65536) && has (w / 65536) (labelled_in nodes s)))
  pair-has w =
      has-sort w (turned_of nodes joined s list) ∙ ap (has w) turned-same ∙ each-has (λ v. side_of nodes (set_of joined) v s) w list low-word
      ∙ ap (λ t. has (w % 65536) list && t) (has-keep (word_in (set_of joined) (w % 65536)) (w / 65536) (labelled_in nodes s))

  pair-low : (w : ℕ) → has w pairs ≡ true → has (w % 65536) list ≡ true
  pair-low w h = first-holds (has (w % 65536) list) (word_in (set_of joined) (w % 65536) (w / 65536) && has (w / 65536) (labelled_in nodes s)) (sym (pair-has w) ∙ h)

  pair-high : (w : ℕ) → has w pairs ≡ true → has (w / 65536) (labelled_in nodes s) ≡ true
  pair-high w h =
      second-holds (word_in (set_of joined) (w % 65536) (w / 65536)) (has (w / 65536) (labelled_in nodes s))
      (second-holds (has (w % 65536) list) (word_in (set_of joined) (w % 65536) (w / 65536) && has (w / 65536) (labelled_in nodes s)) (sym (pair-has w) ∙ h))

  pair-word : (u v : ℕ) → has u (labelled_in nodes s) ≡ true → has v list ≡ true → word_in pairs u v ≡ word_in (set_of joined) u v
  pair-word u v h k =
      let a = labelled-below nodes s u h in
      let b = low v k in
      let f = held.few in
      let p : (u * 65536 + v) % 65536 ≡ v = omega arith in
      let q : (u * 65536 + v) / 65536 ≡ u = omega arith in
      word-has pairs u v pair-strict (omega arith) (omega arith) ∙ pair-has (u * 65536 + v) ∙ rw (p, q, k, h) (and-true (word_in (set_of joined) v u)) ∙ held.both.both v u

  words-in : (u w : ℕ) → has w (words_of pairs u) ≡ true → has w pairs ≡ true
  unfolding words_of
  words-in u w h = second-holds (between (u * 65536) ((u + 1) * 65536) w) (has w pairs) (sym (has-keep (between (u * 65536) ((u + 1) * 65536)) w pairs) ∙ h)

  pair-each : (u : ℕ) → has u (labelled_in nodes s) ≡ true → part_told (set_of joined) list u (words_of pairs u) ≡ keep (word_in (set_of joined) u) list
  pair-each u h =
      let a = labelled-below nodes s u h in
      let f = held.few in
      told-lows (set_of joined) list u (words_of pairs u) (λ w k. low (w % 65536) (pair-low w (words-in u w k)))
      ∙ sym (keep-lows (λ v. stands_in v list) (words_of pairs u) (λ w k. stands-has (w % 65536) list listed.ascends ∙ pair-low w (words-in u w k)))
      ∙ either-side pairs list u pair-strict listed.ascends (omega arith)
      ∙ keep-same (word_in pairs u) (word_in (set_of joined) u) list (λ v k. pair-word u v h k)

  pub paired-turned : Paired nodes (set_of joined) s list pairs
  paired-turned = record { ascends = pair-strict; from = pair-high; each = pair-each }

-- ---- a mark for each node
marked-has : (z : ℕ) (l : List ℕ) → has z (map marked l) ≡ (eqb (z % 65536) 65535 && has (z / 65536) l)
unfolding marked
marked-has z l = low-has 65535 (omega arith) z l

marked-strict : (l : List ℕ) → Strict l → Strict (map marked l)
unfolding marked
marked-strict l s = low-strict 65535 (omega arith) l s

marked-words : (l : List ℕ) (u : ℕ) → Strict l → has u l ≡ true → words_of (map marked l) u ≡ marked u ∷ []
unfolding words_of
marked-words l u s h = same-members 0 (keep mine (map marked l)) (marked u ∷ []) (keep-from mine 0 (map marked l) (marked-strict l s)) one (λ z. has-keep mine z (map marked l) ∙ ap (λ t. mine z && t) (marked-has z l) ∙ members z)
  where
    mine : ℕ → Bool
    mine = between (u * 65536) ((u + 1) * 65536)

    one : Strict (marked u ∷ [])
    one = unfold From in (omega arith, tt)

    members : (z : ℕ) → (mine z && (eqb (z % 65536) 65535 && has (z / 65536) l)) ≡ has z (marked u ∷ [])
    members z = unfold has marked in go (dec_le (u * 65536) z) (dec_le ((u + 1) * 65536) z) (ℕ_discrete (z % 65536) 65535)
      where
        go : Dec (u * 65536 ≤ z) → Dec ((u + 1) * 65536 ≤ z) → Dec (z % 65536 ≡ 65535)
            → (leb (u * 65536) z && ltb z ((u + 1) * 65536) && (eqb (z % 65536) 65535 && has (z / 65536) l)) ≡ (eqb z (u * 65536 + 65535) || false)
        go (yes a) (no b) (yes e) =
            let q : z / 65536 ≡ u = omega arith in
            rw (le-leb (u * 65536) z a, lt-ltb z ((u + 1) * 65536) (omega arith), eq-eqb (z % 65536) 65535 e, q, h, eq-eqb z (u * 65536 + 65535) (omega arith))
        go (yes a) (no b) (no e) = rw (le-leb (u * 65536) z a, lt-ltb z ((u + 1) * 65536) (omega arith), ne_eqb (z % 65536) 65535 e, ne_eqb z (u * 65536 + 65535) (λ k. e (omega arith)))
        go (yes a) (yes b) d = rw (le-leb (u * 65536) z a, le-ltb z ((u + 1) * 65536) b, ne_eqb z (u * 65536 + 65535) (λ k. omega arith))
        go (no a) b d = rw (lt-leb (u * 65536) z (omega arith), ne_eqb z (u * 65536 + 65535) (λ k. omega arith))

marked-low : (u : ℕ) → marked u % 65536 ≡ 65535
unfolding marked
marked-low u = omega arith

paired-marked : (nodes joined : List ℕ) (s : ℕ) (list : List ℕ) → Paired nodes joined s list (map marked (labelled_in nodes s))
paired-marked nodes joined s list = record {
  ascends = marked-strict (labelled_in nodes s) (labelled-strict nodes s);
  from = λ w h. second-holds (eqb (w % 65536) 65535) (has (w / 65536) (labelled_in nodes s)) (sym (marked-has w (labelled_in nodes s)) ∙ h);
  each = λ u h. ap (part_told joined list u) (marked-words (labelled_in nodes s) u (labelled-strict nodes s) h)
      ∙ told-asked joined list u (marked u ∷ []) (λ e. omega arith) (marked-low u);
}

-- ---- those of a list that are joined with u, from the words of u and its neighbours labelled as the list is
module _ {nodes joined starts : List ℕ} (held : Held nodes joined starts) {l : ℕ} {list : List ℕ} (listed : Listed nodes l list) (u : ℕ) (low : u < 65535) where
  near-side : keep (λ v. stands_in v list) (lows (side_in nodes joined u l)) ≡ keep (word_in (set_of joined) u) list
  near-side =
      ap (keep (λ v. stands_in v list)) (side-lows nodes joined u l held.arranged (omega arith) held.few)
      ∙ same-members 0 (keep (λ v. stands_in v list) (side_of nodes (set_of joined) u l)) (keep (word_in (set_of joined) u) list)
      (keep-from (λ v. stands_in v list) 0 (side_of nodes (set_of joined) u l) (keep-from (word_in (set_of joined) u) 0 (labelled_in nodes l) (labelled-strict nodes l)))
      (keep-from (word_in (set_of joined) u) 0 list listed.ascends)
      (λ z. has-keep (λ v. stands_in v list) z (side_of nodes (set_of joined) u l)
      ∙ ap₂ (λ s t. s && t) (stands-has z list listed.ascends) (has-keep (word_in (set_of joined) u) z (labelled_in nodes l))
      ∙ members z (has z list) refl ∙ sym (has-keep (word_in (set_of joined) u) z list))
    where
      members : (z : ℕ) (t : Bool) → has z list ≡ t → (has z list && (word_in (set_of joined) u z && has z (labelled_in nodes l))) ≡ (word_in (set_of joined) u z && has z list)
      members z true e = rw (e, listed-has listed z e)
      members z false e = rw e (sym (and-false (word_in (set_of joined) u z)))

  side-high : words_of (side_in nodes joined u l) u ≡ side_in nodes joined u l
  unfolding words_of side_in
  side-high = keep-whole (between (u * 65536) ((u + 1) * 65536)) (keep mine joined) (λ w h. inside w (first-holds (mine w) (has w joined) (sym (has-keep mine w joined) ∙ h)))
    where
      mine : ℕ → Bool
      mine w = eqb (w / 65536) u && eqb (label_at nodes (w % 65536)) l

      inside : (w : ℕ) → mine w ≡ true → between (u * 65536) ((u + 1) * 65536) w ≡ true
      inside w h =
          let e = eqb-true (w / 65536) u (first-holds (eqb (w / 65536) u) (eqb (label_at nodes (w % 65536)) l) h) in
          rw (le-leb (u * 65536) w (omega arith), lt-ltb w ((u + 1) * 65536) (omega arith))

  pub shared-side : {words x : List ℕ} → words ≡ side_in nodes joined u l → x ≡ keep (λ v. stands_in v list) (lows words) → x ≡ keep (word_in (set_of joined) u) list
  shared-side e q = q ∙ ap (λ ws. keep (λ v. stands_in v list) (lows ws)) e ∙ near-side

  pub shared-list : {words x : List ℕ} → words ≡ side_in nodes joined u l → x ≡ keep (word_in words u) list → x ≡ keep (word_in (set_of joined) u) list
  shared-list e q =
      q ∙ ap (λ ws. keep (word_in ws u) list) e
      ∙ sym (either-side (side_in nodes joined u l) list u (side-strict nodes joined u l held.arranged) listed.ascends (omega arith))
      ∙ ap (λ ws. keep (λ v. stands_in v list) (lows ws)) side-high ∙ near-side

-- ---- in the words of the code
pub node-low : {nodes joined starts list : List ℕ} {l : ℕ} → Held nodes joined starts → Listed nodes l list → (i : ℕ) → i < length list → get_or list i 0 < 65535
node-low {nodes} {joined} {starts} {list} held listed i h = let a = listed-below listed (get_or list i 0) (has-get list i h) in let b = held.few in omega arith

pub labelled-low : (nodes : List ℕ) (s : ℕ) (words : List ℕ) → nodes_in nodes ≤ most_nodes → words ≡ labelled_in nodes s → (i : ℕ) → i < length words → get_or words i 0 ≤ 65535
labelled-low nodes s words few e i h = let k = labelled-below nodes s (get_or words i 0) (ap (has (get_or words i 0)) (sym e) ∙ has-get words i h) in omega arith

pub paired-front : {nodes joined starts : List ℕ} (held : Held nodes joined starts) {l : ℕ} {list : List ℕ} (listed : Listed nodes l list) {s : ℕ} (w last rest : List ℕ) (k : ℕ)
    → k ≤ 65536 → w ≡ turned_of nodes joined s list → last ≡ sort_of w → length w ≡ k → (k ≤ 65536) × Paired nodes (set_of joined) s list (take k (last ++ rest))
paired-front held listed {s} w last rest k h e p q = (h, rw (take_at last rest k (ap length p ∙ length-sort w ∙ q), p, e) (paired-turned held listed s))

pub paired-all : {nodes joined list x : List ℕ} {s : ℕ} → x ≡ map marked (labelled_in nodes s) → Paired nodes joined s list x
paired-all {nodes} {joined} {list} {x} {s} e = rw e (paired-marked nodes joined s list)
