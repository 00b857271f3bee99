-- The state of `walk`'s loop, and the laws that take it from its start over each kind of turn to its ends. Assumes nothing.
use native.Mathlib.Omega.{arith}
use mathlib.Core.Path.{◌≡◌, refl, sym, ap, subst, ◌∙◌}
use Rattle.std.specs.Prelude.{Result, Ok, Err}
use mathlib.Core.Bool.{Bool, true}
use mathlib.Core.List.{List, [], ◌∷◌, ◌++◌, flat_map}
use Prim.Native.Nat.{ℕ, zero, suc, ◌+◌, ◌*◌, ◌/◌, ◌≤◌, ◌<◌}
use lib.Dec.{leb}
use lib.ListN.{length, take, get_or, length-take}
use lib.Seq.{get_or-take}
use borrow.Author.Tests.{le-ltb, lt-ltb, eq-eqb, ne_eqb}
use Rattle.rules.specs.Words.{part}
use Rattle.rules.specs.Lists.{keep, padded}
use Rattle.laws.specs.Strict.{Strict}
use Rattle.rules.specs.Index.{no_id}
use Rattle.rules.specs.Store.{most_nodes, nodes_in}
use Rattle.rules.specs.declared.Key.{Key}
use Rattle.laws.specs.Keep.{keep-most}
use Rattle.laws.specs.Searching.{lower, lower-within}
use Rattle.build_edges.specs.Packed.{word_in, labelled_in}
use Rattle.build_neighbours.specs.Pairs.{part_told, Paired}
use Rattle.build_neighbours.specs.Left.{labels_left, labels_in}
use Rattle.build_neighbours.specs.declared.Labels.{Labels}
use Rattle.build_groups.specs.Keyed.{Keyed, keyed_from}
use Rattle.build_groups.specs.Emit.{ids_of, Output, going, halted, Gives, output_of, emit, emit_all}
use Rattle.build_keys.specs.Walk.{with_id, rest_of, chosen, keyed_of, WalkFit, WalkDone}
use Rattle.build_groups.specs.declared.Purpose.{Purpose}
use Rattle.build_groups.specs.declared.Work.{Work}
use Rattle.build_groups.specs.Emit.{Progress}
use Rattle.build_groups.specs.declared.Stopped.{Stopped}
use Rattle.build_groups.specs.declared.Tally.{Tally}
use Rattle.build_edges.proofs.Nearby.{labelled-strict}
use Rattle.build_groups.proofs.Emitting.{emit-stopped}
use Rattle.build_neighbours.proofs.Pairing.{labelled-below}
use Rattle.build_keys.proofs.Turning.{listed-keep, keep-high, flat-none, flat-split, from-nothing, end-none, up, tried, passed, told-part, front-part}

-- ---- labels
pub labels-next : (a b c : ℕ) → (a ≡ 0 → ⊥) → labels_left a b c ≡ a ∷ labels_left b c 0
unfolding labels_left
labels-next a b c h = rw (ne_eqb a 0 h)

pub labels-none : (a b c : ℕ) → a ≡ 0 → labels_left a b c ≡ []
unfolding labels_left
labels-none a b c h = rw (eq-eqb a 0 h)

-- ---- keys
module _ (joined : ℕ → ℕ → Bool) (labelled : ℕ → List ℕ) (t : ℕ) where
  pub keyed-short : (labels key list : List ℕ) → length list ≤ t → keyed_from joined labelled t labels key list ≡ []
  unfolding keyed_from
  keyed-short [] key list h = rw (le-ltb t (length list) h)
  keyed-short (s ∷ labels) key list h = rw (le-ltb t (length list) h)

  pub keyed-here : (key list : List ℕ) → t < length list → keyed_from joined labelled t [] key list ≡ record { key = key; list = list } ∷ []
  unfolding keyed_from
  keyed-here key list h = rw (lt-ltb t (length list) h)

  pub keyed-on : (s : ℕ) (labels key list : List ℕ) → t < length list
      → keyed_from joined labelled t (s ∷ labels) key list ≡ flat_map (λ u. keyed_from joined labelled t labels (key ++ u ∷ []) (keep (joined u) list)) (labelled s)
  unfolding keyed_from
  keyed-on s labels key list h = rw (lt-ltb t (length list) h)

pub chosen-more : (key : Key) (at u : ℕ) → at < 3 → chosen (with_id key at u) (at + 1) ≡ chosen key at ++ u ∷ []
unfolding with_id
chosen-more key zero u h = refl
chosen-more key (suc zero) u h = refl
chosen-more key (suc (suc zero)) u h = refl
chosen-more key (suc (suc (suc at))) u h = absurd (omega arith)

pub unused-more : (key : Key) (at u : ℕ) → at < 3 → padded no_id (chosen key at) ≡ ids_of key → padded no_id (chosen (with_id key at u) (at + 1)) ≡ ids_of (with_id key at u)
unfolding with_id padded
unused-more key zero u h e = cc
unused-more key (suc zero) u h e = cc
unused-more key (suc (suc zero)) u h e = cc
unused-more key (suc (suc (suc at))) u h e = absurd (omega arith)

pub with-constraint : (key : Key) (at u : ℕ) → (with_id key at u).constraint ≡ key.constraint
unfolding with_id
with-constraint key zero u = refl
with-constraint key (suc zero) u = refl
with-constraint key (suc (suc at)) u = rw (ne_eqb (suc (suc at)) 0 (λ e. omega arith), ne_eqb (suc (suc at)) 1 (λ e. omega arith))

-- one label less
pub labels-fall : (left left' : Labels) → (left.first ≡ 0 → ⊥) → left' ≡ rest_of left → length (labels_in left) ≡ suc (length (labels_in left'))
labels-fall left left' h e = ap length (labels-next left.first left.second left.third h) ∙ ap (λ l. suc (length (labels_in l))) (sym e)

-- one level deeper
module _ {work : Work} {l : ℕ} {left left' : Labels} {key key' : Key} {at : ℕ} {list list' scratch scratch' room room' : List ℕ} where
  pub fit-next : (u : ℕ) (p : ℕ → Bool) → WalkFit work l left key at list scratch room → (left.first ≡ 0 → ⊥) → key' ≡ with_id key at u → left' ≡ rest_of left
      → list' ≡ keep p list → length scratch ≤ length scratch' + 131072 → length room' ≡ length room → WalkFit work l left' key' (at + 1) list' scratch' room'
  fit-next u p f h k r e es er =
      let less : length list' ≤ length list = rw e (keep-most p list) in
      let fall = labels-fall left left' h r in
      let level = f.level in
      let short = f.short in
      let long = f.long in
      record {
        placed = rw er f.placed;
        held = f.held;
        edged = f.edged;
        short = omega arith;
        listed = rw e (listed-keep p f.listed);
        level = omega arith;
        unused = rw k (unused-more key at u (omega arith) f.unused);
        long = omega arith;
      }

-- with a label left there are the rooms of one level
pub scratch-here : {work : Work} {l : ℕ} {left : Labels} {key : Key} {at : ℕ} {list scratch room : List ℕ} → WalkFit work l left key at list scratch room → (left.first ≡ 0 → ⊥) → 131072 ≤ length scratch
scratch-here {left = left} f h = let long = f.long in let fall = labels-fall left (rest_of left) h refl in omega arith

-- ---- all of them
module _ (task : Purpose) (words store : List ℕ) (c : ℕ) where
  pub emit_all-append : (s : Output) (xs ys : List Keyed) → emit_all task words store c s (xs ++ ys) ≡ emit_all task words store c (emit_all task words store c s xs) ys
  unfolding emit_all
  emit_all-append s [] ys = refl
  emit_all-append s (x ∷ xs) ys = emit_all-append (emit task words store s c (padded no_id x.key) x.list) xs ys

  pub emit_all-stopped : (t : Progress) (room : List ℕ) (xs : List Keyed) → t.stopped ≡ true → emit_all task words store c (output_of t room) xs ≡ output_of t room
  unfolding emit_all
  emit_all-stopped t room [] h = refl
  emit_all-stopped t room (x ∷ xs) h =
      ap (λ s. emit_all task words store c s xs) (sym (emit-stopped task words store c (padded no_id x.key) x.list t room h)) ∙ emit_all-stopped t room xs h

-- the keys that go on with this node, and with those of the first label from b on
abbrev next : ℕ → List ℕ → List ℕ → Labels → Key → ℕ → List ℕ → ℕ → List Keyed
next above nodes joined left key at list u =
    keyed_from (word_in joined) (labelled_in nodes) above (labels_in (rest_of left)) (chosen key at ++ u ∷ []) (keep (word_in joined u) list)

abbrev from : ℕ → List ℕ → List ℕ → Labels → Key → ℕ → List ℕ → ℕ → List Keyed
from above nodes joined left key at list b = flat_map (next above nodes joined left key at list) (keep (leb b) (labelled_in nodes left.first))

-- a node that is joined with none of the list leads to no key
none-left : (above : ℕ) (nodes joined : List ℕ) (left : Labels) (key : Key) (at : ℕ) (list : List ℕ) (u : ℕ) → keep (word_in joined u) list ≡ [] → next above nodes joined left key at list u ≡ []
none-left above nodes joined left key at list u e =
    let z : length (keep (word_in joined u) list) ≡ 0 = ap length e in
    keyed-short (word_in joined) (labelled_in nodes) above (labels_in (rest_of left)) (chosen key at ++ u ∷ []) (keep (word_in joined u) list) (omega arith)

-- the first i of the n words are those of the nodes below a bound, and these are done
pub record WalkGoing (task : Purpose) (above : ℕ) (nodes joined words : List ℕ) (left : Labels) (key : Key) (at : ℕ) (list store : List ℕ) (t₀ : Progress) (room₀ : List ℕ)
    (run : List ℕ) (n i : ℕ) (t : Progress) (room : List ℕ) : Type 0 where
  pub few : n ≤ 65536
  pub whole : length (take n run) ≡ n
  pub inside : n ≤ length run
  pub ahead : i ≤ n
  pub pairs : Paired nodes joined left.first list (take n run)
  pub bound : ℕ
  pub reached : i ≡ lower (bound * 65536) (take n run)
  pub todo : emit_all task words store key.constraint (output_of t₀ room₀) (keyed_of above nodes joined left key at list)
      ≡ emit_all task words store key.constraint (output_of t room) (from above nodes joined left key at list bound)

module _ {task : Purpose} {above : ℕ} {nodes joined words : List ℕ} {left : Labels} {key : Key} {at : ℕ} {list store : List ℕ} {t₀ : Progress} {room₀ run : List ℕ} where
  pub begun : (n : ℕ) → above < length list → (left.first ≡ 0 → ⊥) → 65536 ≤ length run → (n ≤ 65536) × Paired nodes joined left.first list (take n run)
      → WalkGoing task above nodes joined words left key at list store t₀ room₀ run n 0 t₀ room₀
  begun n h k fits r =
      let few = r.0 in
      record {
        few = r.0;
        whole = rw length-take (omega arith);
        inside = omega arith;
        ahead = omega arith;
        pairs = r.1;
        bound = 0;
        reached = sym (from-nothing r.1);
        todo =
            ap (emit_all task words store key.constraint (output_of t₀ room₀))
            (ap (λ l. keyed_from (word_in joined) (labelled_in nodes) above l (chosen key at) list) (labels-next left.first left.second left.third k)
            ∙ keyed-on (word_in joined) (labelled_in nodes) above left.first (labels_in (rest_of left)) (chosen key at) list h
            ∙ ap (flat_map (next above nodes joined left key at list)) (sym (keep-high 0 0 (labelled_in nodes left.first) (labelled-strict nodes left.first) (omega arith))));
      }

  module _ {n i : ℕ} {t : Progress} {room : List ℕ} (g : WalkGoing task above nodes joined words left key at list store t₀ room₀ run n i t room) where
    pub ascends : Strict (take n run)
    ascends = g.pairs.ascends

    -- the part that is lent is short
    pub part-short : (r : ℕ) → r ≤ length (take n run) → length (part run i r) ≤ 65536
    part-short r h =
        let w = g.whole in
        let few = g.few in
        rw length-take (omega arith)

    module _ (u : ℕ) (h : i < n) (v : u ≡ get_or run i 0 / 65536) where
      here : i < length (take n run)
      here = let w = g.whole in omega arith

      high : u ≡ get_or (take n run) i 0 / 65536
      high = v ∙ ap (λ x. x / 65536) (sym (get_or-take n run i 0 h))

      pub small : nodes_in nodes ≤ most_nodes → u < 65535
      small few = let k = labelled-below nodes left.first u (tried g.pairs g.bound i g.reached u here high) in omega arith

      module _ (r : ℕ) (e : r ≡ lower ((get_or (take n run) i 0 / 65536 + 1) * 65536) (take n run)) where
        ends : r ≡ lower ((u + 1) * 65536) (take n run)
        ends = e ∙ ap (λ x. lower ((x + 1) * 65536) (take n run)) (sym high)

        pub part-kept : {x : List ℕ} → (i < r) × (r ≤ length (take n run)) → x ≡ part_told joined list u (part run i r) → x ≡ keep (word_in joined u) list
        part-kept a q =
            let w = g.whole in
            let lo = a.0 in
            let hi = a.1 in
            q ∙ ap (part_told joined list u) (front-part run n i r (omega arith) (omega arith)) ∙ told-part g.pairs g.bound i g.reached u here high r ends

        -- what is left is what this node leads to, and then the rest
        goes : emit_all task words store key.constraint (output_of t₀ room₀) (keyed_of above nodes joined left key at list)
            ≡ emit_all task words store key.constraint (emit_all task words store key.constraint (output_of t room) (next above nodes joined left key at list u)) (from above nodes joined left key at list (u + 1))
        goes =
            let split = flat-split (next above nodes joined left key at list) g.bound u 0 (labelled_in nodes left.first) (labelled-strict nodes left.first)
            (tried g.pairs g.bound i g.reached u here high) (up g.pairs g.bound i g.reached u here high)
            (λ x q y z. none-left above nodes joined left key at list x (passed g.pairs g.bound i g.reached u here high x q y z)) in
            g.todo ∙ ap (emit_all task words store key.constraint (output_of t room)) split
            ∙ emit_all-append task words store key.constraint (output_of t room) (next above nodes joined left key at list u) (from above nodes joined left key at list (u + 1))

        module _ {room' list' : List ℕ} {key' : Key} {left' : Labels} (b : at < 3) (k : key' ≡ with_id key at u) (l : left' ≡ rest_of left) (m : list' ≡ keep (word_in joined u) list) where
          given : {o : Result Tally Stopped} → WalkDone task above nodes joined words left' key' (at + 1) list' store t room o room'
              → Gives o room' (emit_all task words store key.constraint (output_of t room) (next above nodes joined left key at list u))
          given d =
              let c : key'.constraint ≡ key.constraint = ap (λ x. x.constraint) k ∙ with-constraint key at u in
              let ids : chosen key' (at + 1) ≡ chosen key at ++ u ∷ [] = ap (λ x. chosen x (at + 1)) k ∙ chosen-more key at u b in
              rw (c, ids, m, l) at d.all

          pub taken : {t' : Tally} → WalkDone task above nodes joined words left' key' (at + 1) list' store t room (Ok t') room'
              → WalkGoing task above nodes joined words left key at list store t₀ room₀ run n r (going t') room'
          taken {t'} d =
              let f : output_of (going t') room' ≡ emit_all task words store key.constraint (output_of t room) (next above nodes joined left key at list u) = given d in
              let w = g.whole in
              let top = lower-within ((u + 1) * 65536) (take n run) in
              let end = ends in
              record {
                few = g.few;
                whole = g.whole;
                inside = g.inside;
                ahead = omega arith;
                pairs = g.pairs;
                bound = u + 1;
                reached = ends;
                todo = goes ∙ ap (λ s. emit_all task words store key.constraint s (from above nodes joined left key at list (u + 1))) (sym f);
              }

          pub broken : {e : Stopped} → WalkDone task above nodes joined words left' key' (at + 1) list' store t room (Err e) room'
              → WalkDone task above nodes joined words left key at list store t₀ room₀ (Err e) room'
          broken {e} d =
              let f : output_of (halted (going e.tally)) room' ≡ emit_all task words store key.constraint (output_of t room) (next above nodes joined left key at list u) = given d in
              record {
                all = sym (goes ∙ ap (λ s. emit_all task words store key.constraint s (from above nodes joined left key at list (u + 1))) (sym f)
                    ∙ emit_all-stopped task words store key.constraint (halted (going e.tally)) room' (from above nodes joined left key at list (u + 1)) refl);
              }

    pub ended : {t' : Tally} → going t' ≡ t → n ≤ i → WalkDone task above nodes joined words left key at list store t₀ room₀ (Ok t') room
    unfolding emit_all
    ended e h =
        let w = g.whole in
        record {
          all = ap (λ x. output_of x room) e ∙ sym (g.todo ∙ ap (emit_all task words store key.constraint (output_of t room))
              (flat-none (next above nodes joined left key at list) g.bound (labelled_in nodes left.first)
              (λ x q y. none-left above nodes joined left key at list x (end-none g.pairs g.bound i g.reached (omega arith) x q y))));
        }

module _ {task : Purpose} {above : ℕ} {nodes joined words : List ℕ} {left : Labels} {key : Key} {at : ℕ} {list store : List ℕ} {t₀ : Progress} {room₀ : List ℕ} where
  -- a list that is too short, and a key that is whole
  pub none : {t : Tally} → going t ≡ t₀ → length list ≤ above → WalkDone task above nodes joined words left key at list store t₀ room₀ (Ok t) room₀
  unfolding emit_all
  none e h = record {
    all =
        ap (λ x. output_of x room₀) e
        ∙ sym (ap (emit_all task words store key.constraint (output_of t₀ room₀)) (keyed-short (word_in joined) (labelled_in nodes) above (labels_in left) (chosen key at) list h));
  }

  pub whole : {r : Result Tally Stopped} {room : List ℕ} → above < length list → left.first ≡ 0 → padded no_id (chosen key at) ≡ ids_of key
      → Gives r room (emit task words store (output_of t₀ room₀) key.constraint (ids_of key) list) → WalkDone task above nodes joined words left key at list store t₀ room₀ r room
  unfolding emit_all
  whole {r} {room} h z e d = record {
    all =
        subst (Gives r room)
        (ap (λ ids. emit task words store (output_of t₀ room₀) key.constraint ids list) (sym e)
        ∙ sym (ap (emit_all task words store key.constraint (output_of t₀ room₀))
        (ap (λ l. keyed_from (word_in joined) (labelled_in nodes) above l (chosen key at) list) (labels-none left.first left.second left.third z)
        ∙ keyed-here (word_in joined) (labelled_in nodes) above (chosen key at) list h)))
        d;
  }
