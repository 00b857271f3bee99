-- Laws of a visit to the keys of a constraint, node by node of its first label. Assumes nothing.
use native.Mathlib.Omega.{arith}
use native.Mathlib.Nat.{sub-zero}
use mathlib.Core.Path.{◌≡◌, refl, sym, ap, subst, ◌∙◌}
use Rattle.std.specs.Prelude.{Result, Err}
use Rattle.laws.specs.Loops.{fold_from, FoldLeft, fold-next}
use mathlib.Core.Bool.{Bool, true, false, cond}
use mathlib.Core.List.{List, [], ◌∷◌, flat_map}
use Prim.Native.Nat.{ℕ, zero, suc, ◌+◌, ◌*◌, ◌-◌, ◌≤◌, ◌<◌}
use lib.Dec.{eqb}
use lib.ListN.{length}
use borrow.Author.Tests.{lt-ltb}
use Rattle.rules.specs.Lists.{range, has, keep, set_of, padded}
use Rattle.rules.specs.Store.{nodes_in, constraint_at, node_part, edge_part, constraint_part}
use Rattle.rules.specs.Index.{no_id}
use Rattle.rules.specs.declared.Constraint.{Constraint}
use Rattle.rules.specs.declared.Key.{Key}
use Rattle.laws.specs.Cases.{first-holds}
use Rattle.laws.specs.Keep.{keep-most, has-keep, keep-yes, keep-no}
use Rattle.build_edges.specs.Packed.{forward_words, word_in, has_label, labelled_in}
use Rattle.build_edges.specs.Near.{is_labelled, Joined}
use Rattle.build_edges.specs.Starts.{Begun}
use Rattle.build_edges.specs.Sound.{joined_set, Sound}
use Rattle.build_neighbours.specs.Side.{Arranged, side_of, Listed}
use Rattle.build_neighbours.specs.Useful.{reaches}
use Rattle.build_neighbours.specs.Left.{labels_left, labels_in}
use Rattle.build_neighbours.specs.declared.Labels.{Labels}
use Rattle.build_groups.specs.Keyed.{Keyed, keyed_from}
use Rattle.build_groups.specs.Emit.{Output, going, halted, Gives, output_of, emit_all, Placed}
use Rattle.build_keys.specs.Walk.{with_id, chosen, WalkFit, WalkDone}
use Rattle.build_keys.specs.Pass.{above_for, keyed_by, visited, visited_all, nothing, passed}
use Rattle.build_groups.specs.declared.Purpose.{Purpose}
use Rattle.build_groups.specs.declared.Work.{Work}
use Rattle.build_groups.specs.Emit.{Progress}
use Rattle.build_groups.specs.declared.Stopped.{Stopped}
use Rattle.build_groups.specs.declared.Tally.{Tally}
use Rattle.build_index.specs.Ready.{dealt, Fresh, IndexReady}
use Rattle.build_edges.proofs.Nearby.{labelled-strict}
use Rattle.build_neighbours.proofs.Pairing.{labelled-below}
use Rattle.build_keys.proofs.Turning.{listed-keep}
use Rattle.build_keys.proofs.Going.{labels-next, labels-none, chosen-more, unused-more, with-constraint, emit_all-append, emit_all-stopped}
use Rattle.build_keys.proofs.Groups.{keyed-flat}
use Rattle.build_keys.proofs.Useless.{keyed-useful}
use Rattle.build_keys.proofs.Passing.{labelled-few}

-- ---- lists of labelled nodes
has-labelled : (nodes : List ℕ) (l v : ℕ) → has v (labelled_in nodes l) ≡ true → is_labelled nodes l v ≡ true
unfolding labelled_in is_labelled
has-labelled nodes l v h =
    rw (lt-ltb v (nodes_in nodes) (labelled-below nodes l v h))
    (first-holds (has_label nodes l v) (has v (range 0 (nodes_in nodes))) (sym (has-keep (has_label nodes l) v (range 0 (nodes_in nodes))) ∙ h))

labelled-listed : (nodes : List ℕ) (l : ℕ) → Listed nodes l (labelled_in nodes l)
labelled-listed nodes l = record { ascends = labelled-strict nodes l; labelled = λ v h. has-labelled nodes l v h }

two-left : (left : Labels) → left.third ≡ 0 → length (labels_in left) ≤ 2
unfolding labels_left
two-left left z = go (eqb left.first 0) (eqb left.second 0)
  where
    last : cond (eqb left.third 0) [] (left.third ∷ []) ≡ []
    last = rw z

    go : (a b : Bool) → length (cond a [] (left.first ∷ cond b [] (left.second ∷ cond (eqb left.third 0) [] (left.third ∷ [])))) ≤ 2
    go true b = omega arith
    go false true = omega arith
    go false false = rw last (omega arith)

-- ---- a walk fits
module _ {work : Work} {scratch room : List ℕ} {l : ℕ} (r : IndexReady work scratch room) (key : Key) (fresh : Fresh key) where
  pub fit-none : {list rest : List ℕ} {left : Labels} → left ≡ record { first = 0; second = 0; third = 0 } → list ≡ labelled_in work.graph.nodes.now l → WalkFit work l left key 0 list rest room
  unfolding labels_left
  fit-none {list} {rest} {left} z q =
      let few = r.held.few in
      let less : length list ≤ nodes_in work.graph.nodes.now = rw q (labelled-few work.graph.nodes.now l) in
      let level : 0 + length (labels_in left) ≤ 3 = rw z (omega arith) in
      let long : 131072 * length (labels_in left) ≤ length rest = rw z (omega arith) in
      record {
        placed = r.placed;
        held = r.held;
        edged = r.edged;
        short = omega arith;
        listed = rw q (labelled-listed work.graph.nodes.now l);
        level = level;
        unused = fresh;
        long = long;
      }

  pub fit-from : {list rest : List ℕ} {left : Labels} {key' : Key} (u : ℕ) (p q : ℕ → Bool) → left.third ≡ 0 → key' ≡ with_id key 0 u → list ≡ keep p (keep q (labelled_in work.graph.nodes.now l))
      → length scratch ≤ length rest + 65536 → WalkFit work l left key' 1 list rest room
  fit-from {list} {rest} {left} {key'} u p q z k m e =
      let few = r.held.few in
      let less = labelled-few work.graph.nodes.now l in
      let one = keep-most q (labelled_in work.graph.nodes.now l) in
      let two : length list ≤ length (keep q (labelled_in work.graph.nodes.now l)) = rw m (keep-most p (keep q (labelled_in work.graph.nodes.now l))) in
      let level = two-left left z in
      let long = r.long in
      record {
        placed = r.placed;
        held = r.held;
        edged = r.edged;
        short = omega arith;
        listed = rw m (listed-keep p (listed-keep q (labelled-listed work.graph.nodes.now l)));
        level = omega arith;
        unused = rw k (unused-more key 0 u (omega arith) fresh);
        long = omega arith;
      }

-- rooms of the same length serve as well
pub ready-same : {work : Work} {scratch room scratch' room' : List ℕ} → IndexReady work scratch room → length scratch' ≡ length scratch → length room' ≡ length room → IndexReady work scratch' room'
ready-same r es er = record { placed = rw er r.placed; held = r.held; edged = r.edged; long = rw es r.long }

-- ---- what a walk deals with
module _ (task : Purpose) (above : ℕ) (nodes joined words store : List ℕ) (t : Progress) (room : List ℕ) (r : Result Tally Stopped) (room' : List ℕ) (key : Key) where
  pub none-dealt : {left : Labels} {list : List ℕ} → left ≡ record { first = 0; second = 0; third = 0 } → (list' : List ℕ) → list ≡ list'
      → WalkDone task above nodes joined words left key 0 list store t room r room' → Gives r room' (dealt task above nodes joined words [] key [] list' store (output_of t room))
  unfolding dealt
  none-dealt {left} {list} z list' q d =
      let labels : labels_in left ≡ [] = labels-none left.first left.second left.third (ap (λ x. x.first) z) in
      rw (labels, q) at d.all

  pub from-dealt : {left : Labels} {list : List ℕ} {key' : Key} (u l : ℕ) → key' ≡ with_id key 0 u → list ≡ keep (reaches (word_in joined) (labelled_in nodes) (labels_in left)) (side_of nodes joined u l)
      → WalkDone task above nodes joined words left key' 1 list store t room r room'
      → Gives r room' (dealt task above nodes joined words (labels_in left) key (u ∷ []) (side_of nodes joined u l) store (output_of t room))
  unfolding dealt
  from-dealt {left} {list} {key'} u l k q d =
      let c : key'.constraint ≡ key.constraint = ap (λ x. x.constraint) k ∙ with-constraint key 0 u in
      let ids : chosen key' 1 ≡ u ∷ [] = ap (λ x. chosen x 1) k ∙ chosen-more key 0 u (omega arith) in
      subst (Gives r room')
      (ap (emit_all task words store key.constraint (output_of t room))
      (sym (keyed-useful (word_in joined) (labelled_in nodes) above (labels_in left) (u ∷ []) (side_of nodes joined u l))))
      (rw (c, ids, q) at d.all)

-- ---- node by node
module _ (task : Purpose) (above : ℕ) (nodes joined words : List ℕ) (labels : List ℕ) (key : Key) (l s : ℕ) (store : List ℕ) where
  abbrev onward : ℕ → List Keyed
  onward u = keyed_from (word_in joined) (labelled_in nodes) above labels (u ∷ []) (side_of nodes joined u l)

  abbrev left_from : ℕ → List Keyed
  left_from u = flat_map onward (keep (has_label nodes s) (range u (nodes_in nodes - u)))

  -- what is left to do is what the nodes from u on lead to
  pub record Left (whole : Output) (u : ℕ) (t : Progress) (room : List ℕ) : Type 0 where
    pub within : u ≤ nodes_in nodes
    pub todo : emit_all task words store key.constraint (output_of t room) (left_from u) ≡ whole

  abbrev pub whole_of : Progress → List ℕ → Output
  whole_of t room = dealt task above nodes joined words (s ∷ labels) key [] (labelled_in nodes l) store (output_of t room)

  pub left-start : (t : Progress) (room : List ℕ) → Left (whole_of t room) 0 t room
  unfolding dealt labelled_in
  left-start t room = record {
    within = omega arith;
    todo = rw sub-zero (ap (emit_all task words store key.constraint (output_of t room)) (sym (keyed-flat (word_in joined) (labelled_in nodes) above s labels [] (labelled_in nodes l))));
  }

  module _ {whole : Output} {u : ℕ} {t : Progress} {room : List ℕ} (g : Left whole u t room) where
    split : u < nodes_in nodes → range u (nodes_in nodes - u) ≡ u ∷ range (u + 1) (nodes_in nodes - (u + 1))
    unfolding range
    split h = let e : nodes_in nodes - u ≡ suc (nodes_in nodes - (u + 1)) = omega arith in rw e

    pub left-skip : u < nodes_in nodes → has_label nodes s u ≡ false → Left whole (u + 1) t room
    left-skip h n = record {
      within = omega arith;
      todo =
          ap (λ xs. emit_all task words store key.constraint (output_of t room) (flat_map onward xs))
          (sym (ap (keep (has_label nodes s)) (split h) ∙ keep-no (has_label nodes s) u (range (u + 1) (nodes_in nodes - (u + 1))) n))
          ∙ g.todo;
    }

    pub left-take : {t' : Progress} {room' : List ℕ} → u < nodes_in nodes → has_label nodes s u ≡ true
        → output_of t' room' ≡ dealt task above nodes joined words labels key (u ∷ []) (side_of nodes joined u l) store (output_of t room) → Left whole (u + 1) t' room'
    unfolding dealt flat_map
    left-take {t'} {room'} h n d = record {
      within = omega arith;
      todo =
          ap (λ x. emit_all task words store key.constraint x (left_from (u + 1))) d
          ∙ sym (emit_all-append task words store key.constraint (output_of t room) (onward u) (left_from (u + 1)))
          ∙ ap (λ xs. emit_all task words store key.constraint (output_of t room) (flat_map onward xs))
          (sym (ap (keep (has_label nodes s)) (split h) ∙ keep-yes (has_label nodes s) u (range (u + 1) (nodes_in nodes - (u + 1))) n))
          ∙ g.todo;
    }

    pub left-broken : {e : Stopped} {room' : List ℕ} → u < nodes_in nodes → has_label nodes s u ≡ true
        → Gives (Err e) room' (dealt task above nodes joined words labels key (u ∷ []) (side_of nodes joined u l) store (output_of t room)) → Gives (Err e) room' whole
    left-broken {e} {room'} h n d =
        sym (emit_all-stopped task words store key.constraint (halted (going e.tally)) room' (left_from (u + 1)) refl)
        ∙ (left-take {t' = halted (going e.tally)} {room' = room'} h n d).todo

    pub left-none : nodes_in nodes ≤ u → output_of t room ≡ whole
    unfolding emit_all flat_map range keep
    left-none h = let e : nodes_in nodes - u ≡ 0 = omega arith in rw e at g.todo

-- ---- a constraint
pub fresh-key : (n : ℕ) → Fresh (record { constraint = n; first = no_id; second = no_id; third = no_id })
unfolding padded
fresh-key n = refl

module _ (task : Purpose) (nodes joined words constraints store : List ℕ) (n : ℕ) (s r : Output) where
  pub visited-none : {above : ℕ} {x : Constraint} (key : Key) → x ≡ constraint_at constraints n → above ≡ above_for task x → key.constraint ≡ n → x.first ≡ 0
      → r ≡ dealt task above nodes joined words [] key [] (labelled_in nodes x.label) store s → r ≡ visited task nodes joined words constraints store n s
  unfolding dealt visited keyed_by
  visited-none {above} {x} key p e k z d =
      let labels : labels_left x.first x.second x.third ≡ [] = labels-none x.first x.second x.third z in
      rw (e, k) at d
      ∙ ap (λ ls. emit_all task words store n s (keyed_from (word_in joined) (labelled_in nodes) (above_for task x) ls [] (labelled_in nodes x.label))) (sym labels)
      ∙ ap (λ x. emit_all task words store n s (keyed_by task nodes joined x)) p

  pub visited-each : {above : ℕ} {x : Constraint} {left : Labels} (key : Key) → x ≡ constraint_at constraints n → above ≡ above_for task x → key.constraint ≡ n → (x.first ≡ 0 → ⊥)
      → left ≡ record { first = x.second; second = x.third; third = 0 }
      → r ≡ dealt task above nodes joined words (x.first ∷ labels_in left) key [] (labelled_in nodes x.label) store s → r ≡ visited task nodes joined words constraints store n s
  unfolding dealt visited keyed_by
  visited-each {above} {x} {left} key p e k z m d =
      let labels : labels_left x.first x.second x.third ≡ x.first ∷ labels_in left = labels-next x.first x.second x.third z ∙ ap (λ q. x.first ∷ labels_in q) (sym m) in
      rw (e, k) at d
      ∙ ap (λ ls. emit_all task words store n s (keyed_from (word_in joined) (labelled_in nodes) (above_for task x) ls [] (labelled_in nodes x.label))) (sym labels)
      ∙ ap (λ x. emit_all task words store n s (keyed_by task nodes joined x)) p

-- ---- all constraints, where one stops
fold-stopped : (task : Purpose) (nodes joined words constraints store : List ℕ) (k n : ℕ) (s : Output) → s.tally.stopped ≡ true → fold_from (visited task nodes joined words constraints store) k n s ≡ s
unfolding fold_from visited
fold-stopped task nodes joined words constraints store k zero s h = refl
fold-stopped task nodes joined words constraints store k (suc n) s h =
    ap (fold_from (visited task nodes joined words constraints store) (k + 1) n) (emit_all-stopped task words store k s.tally s.room (keyed_by task nodes joined (constraint_at constraints k)) h)
    ∙ fold-stopped task nodes joined words constraints store (k + 1) n s h

pub all-broken : (task : Purpose) (nodes joined words constraints store : List ℕ) {n k : ℕ} {a whole : Output} {e : Stopped} {room' : List ℕ}
    → FoldLeft (visited task nodes joined words constraints store) n k a whole → k < n → Gives (Err e) room' (visited task nodes joined words constraints store k a) → Gives (Err e) room' whole
all-broken task nodes joined words constraints store {n} {k} {a} {whole} {e} {room'} g h d =
    let o = output_of (halted (going e.tally)) room' in
    sym ((fold-next g o h d).rest ∙ fold-stopped task nodes joined words constraints store (k + 1) (n - (k + 1)) o refl)

-- ---- the whole of a store
pub ready-pass : (work : Work) (s scratch room : List ℕ) → work.graph.nodes.now ≡ node_part s → work.graph.edges.records.now ≡ edge_part s → Sound s → Arranged (node_part s) work.graph.joined.now
    → Joined (set_of work.graph.joined.now) → Begun work.graph.joined.now work.graph.starts.now → Begun (forward_words work.graph.edges.records.now) work.graph.edges.begins.now
    → Placed work.task (length work.store.now) (length room) → 327680 ≤ length scratch → IndexReady work scratch room
ready-pass work s scratch room en ee h arranged both begun ended p long = record {
  placed = p;
  held = record { few = rw en h.nodes; arranged = rw en arranged; both = both; begun = begun };
  edged = record { ascends = rw ee h.ascends; begun = ended };
  long = long;
}

pub pass-done : (task : Purpose) (s nodes edges constraints joined store room : List ℕ) (r : Output) → nodes ≡ node_part s → edges ≡ edge_part s → constraints ≡ constraint_part s
    → set_of joined ≡ joined_set (edge_part s) → r ≡ visited_all task nodes (set_of joined) (forward_words edges) constraints store (output_of nothing room) → r ≡ passed task s store room
unfolding passed
pass-done task s nodes edges constraints joined store room r en ee ec ej e = rw (en, ee, ec, ej) at e
