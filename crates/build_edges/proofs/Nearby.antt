-- Laws of the nodes near a list: the words of a node stand together, their low halves ascend, and no node that matters is left out. Assumes nothing.
use native.Mathlib.Omega.{arith}
use native.Mathlib.Decide.{dec_le}
use mathlib.Core.Path.{◌≡◌, refl, sym, ap, ◌∙◌}
use mathlib.Core.Bool.{Bool, true, false, ◌&&◌, true≢false, and_comm}
use mathlib.Core.List.{List, [], ◌∷◌, ◌++◌, flat_map, append-nil, append_assoc}
use Prim.Native.Nat.{ℕ, ◌+◌, ◌-◌, ◌*◌, ◌≤◌, ◌<◌}
use lib.Dec.{ltb}
use lib.ListN.{length, take, drop, length-append}
use lib.Seq.{slice, take-length, take_at}
use borrow.Author.Tests.{lt-ltb, le-ltb}
use Rattle.rules.specs.Words.{part}
use Rattle.rules.specs.Lists.{range, has, keep, sort_of, set_of}
use Rattle.laws.specs.Strict.{Strict, from-lower}
use Rattle.rules.specs.Store.{nodes_in}
use Rattle.laws.specs.Sets.{same-members, is-set}
use Rattle.laws.specs.Keep.{keep-no, has-keep, keep-from, keep-append, flat-kept, keep-whole}
use Rattle.laws.specs.Has.{has-append}
use Rattle.laws.specs.PartMembers.{part-slice}
use Rattle.laws.specs.Searching.{lower, stands_in, stands-has, range-of, lower-order, lower-within}
use Rattle.laws.specs.Lows.{lows, mine, lows-from, lows-has, lows-none}
use Rattle.laws.specs.Range.{range-from, has-range}
use Rattle.laws.specs.Cases.{or-first, or-second}
use Rattle.build_edges.specs.Packed.{word_in, has_label, labelled_in}
use Rattle.build_edges.specs.Near.{words_of, near_of, is_labelled, Joined, Tried}

-- ---- the words of a node, as two searches find them
pub words-found : (words : List ℕ) (u a e : ℕ) → Strict words → a ≡ lower (u * 65536) words → e ≡ lower ((u + 1) * 65536) words → part words a e ≡ words_of words u
unfolding words_of
words-found words u a e s p q =
    let n : length words - 0 ≡ length words = omega arith in
    let up : a ≤ e = rw (p, q) (lower-order (u * 65536) ((u + 1) * 65536) words s (omega arith)) in
    let top : e ≤ length words = rw q (lower-within ((u + 1) * 65536) words) in
    let whole : part words 0 (length words) ≡ words = rw n (take-length words) in
    let za : 0 + a ≡ a = omega arith in
    let ze : 0 + e ≡ e = omega arith in
    rw (za, ze) at (part-slice words 0 (length words) a e up (omega arith)) ∙ ap (slice a e) whole ∙ rw (p, q) (range-of (u * 65536) ((u + 1) * 65536) words s)

pub found-order : (words : List ℕ) (u a e : ℕ) → Strict words → a ≡ lower (u * 65536) words → e ≡ lower ((u + 1) * 65536) words → a ≤ e
found-order words u a e s p q = rw (p, q) (lower-order (u * 65536) ((u + 1) * 65536) words s (omega arith))

-- ---- their low halves ascend, and are those that stand with the node
-- so they are the nodes that stand with it
near-has : (joined : List ℕ) (u z : ℕ) → Strict joined → u < 65536 → has z (lows (words_of joined u)) ≡ word_in joined u z
unfolding words_of word_in
near-has joined u z s h = go (dec_le 65536 z)
  where
    go : Dec (65536 ≤ z) → has z (lows (keep (mine u) joined)) ≡ (ltb u 65536 && ltb z 65536 && stands_in (u * 65536 + z) joined)
    go (yes k) = rw (lt-ltb u 65536 h, le-ltb z 65536 k) (lows-none z (keep (mine u) joined) k)
    go (no k) = rw (lt-ltb u 65536 h, lt-ltb z 65536 (omega arith)) (lows-has u z joined (omega arith) ∙ sym (stands-has (u * 65536 + z) joined s))

lows-strict : (joined : List ℕ) (u : ℕ) → Strict joined → Strict (lows (words_of joined u))
unfolding words_of
lows-strict joined u s = from-lower 0 (0 - u * 65536) (lows (keep (mine u) joined)) (omega arith) (lows-from u 0 joined s)

-- ---- those of a list that are joined with u, from either side
pub either-side : (joined list : List ℕ) (u : ℕ) → Strict joined → Strict list → u < 65536
    → keep (λ v. stands_in v list) (lows (words_of joined u)) ≡ keep (word_in joined u) list
either-side joined list u s t h =
    same-members 0 (keep (λ v. stands_in v list) (lows (words_of joined u))) (keep (word_in joined u) list)
    (keep-from (λ v. stands_in v list) 0 (lows (words_of joined u)) (lows-strict joined u s)) (keep-from (word_in joined u) 0 list t)
    (λ z. has-keep (λ v. stands_in v list) z (lows (words_of joined u)) ∙ rw (near-has joined u z s h, stands-has z list t) (and_comm (has z list) (word_in joined u z))
    ∙ sym (has-keep (word_in joined u) z list))

-- ---- the nodes labelled l
pub labelled-strict : (nodes : List ℕ) (l : ℕ) → Strict (labelled_in nodes l)
unfolding labelled_in
labelled-strict nodes l = keep-from (has_label nodes l) 0 (range 0 (nodes_in nodes)) (range-from 0 (nodes_in nodes))

pub labelled-has : (nodes : List ℕ) (l z : ℕ) → has z (labelled_in nodes l) ≡ is_labelled nodes l z
unfolding labelled_in is_labelled
labelled-has nodes l z =
    let e : 0 + nodes_in nodes ≡ nodes_in nodes = omega arith in
    let m : has z (range 0 (nodes_in nodes)) ≡ ltb z (nodes_in nodes) = has-range z 0 (nodes_in nodes) (omega arith) ∙ ap (ltb z) e in
    has-keep (has_label nodes l) z (range 0 (nodes_in nodes)) ∙ ap (λ t. has_label nodes l z && t) m ∙ and_comm (has_label nodes l z) (ltb z (nodes_in nodes))

-- ---- what is tried
high-none : (joined : List ℕ) (u v : ℕ) → 65536 ≤ u → word_in joined u v ≡ false
unfolding word_in
high-none joined u v h = rw (le-ltb u 65536 h)

module _ {joined : List ℕ} (j : Joined joined) where
  -- a node that is not near a list is joined with none of it
  not-near : (u : ℕ) (list : List ℕ) → has u (near_of joined list) ≡ false → keep (word_in joined u) list ≡ []
  unfolding near_of flat_map
  not-near u [] h = unfold keep in refl
  not-near u (v ∷ list) h =
      let e = sym (has-append u (lows (words_of joined v)) (near_of joined list)) ∙ h in
      let a = or-first (has u (lows (words_of joined v))) (has u (near_of joined list)) e in
      keep-no (word_in joined u) v list (apart (dec_le 65536 v) a) ∙ not-near u list (or-second (has u (lows (words_of joined v))) (has u (near_of joined list)) e)
    where
      apart : Dec (65536 ≤ v) → has u (lows (words_of joined v)) ≡ false → word_in joined u v ≡ false
      apart (yes k) a = j.both u v ∙ high-none joined v u k
      apart (no k) a = j.both u v ∙ sym (near-has joined v u j.strict (omega arith)) ∙ a

  pub set-tried : (nodes : List ℕ) (l : ℕ) (list : List ℕ) → Tried nodes joined l list (set_of (keep (is_labelled nodes l) (near_of joined list)))
  set-tried nodes l list =
      let near = near_of joined list in
      record {
        test = λ u. has u near;
        rest = λ u h. not-near u list h;
        all = sym (is-set (keep (λ u. has u near) (labelled_in nodes l)) (keep (is_labelled nodes l) near)
            (keep-from (λ u. has u near) 0 (labelled_in nodes l) (labelled-strict nodes l))
            (λ z. has-keep (λ u. has u near) z (labelled_in nodes l) ∙ ap (λ t. has z near && t) (labelled-has nodes l z)
            ∙ and_comm (has z near) (is_labelled nodes l z) ∙ sym (has-keep (is_labelled nodes l) z near)));
      }

pub all-tried : (nodes joined : List ℕ) (l : ℕ) (list : List ℕ) → Tried nodes joined l list (labelled_in nodes l)
all-tried nodes joined l list = record { test = λ u. true; rest = λ u h. absurd (true≢false h); all = sym (keep-whole (λ v. true) (labelled_in nodes l) (λ v h. refl)) }

pub tried-flat : {B : Type 0} {nodes joined : List ℕ} {l : ℕ} {list tried : List ℕ} → Tried nodes joined l list tried → (g : ℕ → List B)
    → ((u : ℕ) → keep (word_in joined u) list ≡ [] → g u ≡ []) → flat_map g tried ≡ flat_map g (labelled_in nodes l)
tried-flat {B} {nodes} {joined} {l} r g h = ap (flat_map g) r.all ∙ flat-kept r.test g (λ u e. h u (r.rest u e)) (labelled_in nodes l)

-- ---- in the words of the code
pub shared-from : (near joined list x : List ℕ) (u : ℕ) → near ≡ words_of joined u → x ≡ keep (λ v. stands_in v list) (lows near) → Strict joined → Strict list → u < 65536
    → x ≡ keep (word_in joined u) list
shared-from near joined list x u e q s t h = q ∙ ap (λ l. keep (λ v. stands_in v list) (lows l)) e ∙ either-side joined list u s t h

-- k are gathered, and what is left is near the rest of the list: together they are the whole
pub record Gathered (p : ℕ → Bool) (joined whole out : List ℕ) (k : ℕ) (left : List ℕ) : Type 0 where
  pub todo : take k out ++ keep p (near_of joined left) ≡ whole

module _ {p : ℕ → Bool} {joined whole out : List ℕ} {k v : ℕ} {left : List ℕ} (g : Gathered p joined whole out k (v ∷ left)) where
  pub more : {near out' : List ℕ} {k' : ℕ} → near ≡ words_of joined v → take k' out' ≡ take k out ++ keep p (lows near) → Gathered p joined whole out' k' left
  unfolding near_of flat_map
  more {near} {out'} {k'} e q = record {
    todo =
        ap (λ l. l ++ keep p (near_of joined left)) (q ∙ ap (λ l. take k out ++ keep p (lows l)) e)
        ∙ append_assoc (take k out) (keep p (lows (words_of joined v))) (keep p (near_of joined left))
        ∙ ap (λ l. take k out ++ l) (sym (keep-append p (lows (words_of joined v)) (near_of joined left))) ∙ g.todo;
  }

pub gathered : {p : ℕ → Bool} {joined whole out : List ℕ} {k : ℕ} → Gathered p joined whole out k [] → take k out ≡ whole
unfolding near_of flat_map keep
gathered {p} {joined} {whole} {out} {k} g = sym (append-nil (take k out)) ∙ g.todo

-- a set at the front of a run
pub set-front : (w l last rest : List ℕ) (r : ℕ) → w ≡ l → r ≡ length (set_of w) → last ≡ set_of w ++ drop r (sort_of w)
    → (r ≤ length (last ++ rest)) × (take r (last ++ rest) ≡ set_of l)
set-front w l last rest r e q p =
    let s : last ++ rest ≡ set_of w ++ (drop r (sort_of w) ++ rest) = ap (λ x. x ++ rest) p ∙ append_assoc (set_of w) (drop r (sort_of w)) rest in
    let n : length (last ++ rest) ≡ length (set_of w) + length (drop r (sort_of w) ++ rest) = ap length s ∙ length-append (set_of w) (drop r (sort_of w) ++ rest) in
    (omega arith, ap (take r) s ∙ take_at (set_of w) (drop r (sort_of w) ++ rest) r (sym q) ∙ ap set_of e)

pub few-set : (w last : List ℕ) (r k : ℕ) → r ≡ length (set_of w) → last ≡ set_of w ++ drop r (sort_of w) → length last ≡ length w → length w ≤ k → r ≤ k
few-set w last r k q p e h =
    let n : length last ≡ length (set_of w) + length (drop r (sort_of w)) = ap length p ∙ length-append (set_of w) (drop r (sort_of w)) in
    omega arith

pub tried-set : {nodes joined list x : List ℕ} {l : ℕ} → Joined joined → x ≡ set_of (keep (is_labelled nodes l) (near_of joined list)) → Tried nodes joined l list x
tried-set {nodes} {joined} {list} {x} {l} j e = rw e (set-tried j nodes l list)

pub tried-all : {nodes joined list x : List ℕ} {l : ℕ} → x ≡ labelled_in nodes l → Tried nodes joined l list x
tried-all {nodes} {joined} {list} {x} {l} e = rw e (all-tried nodes joined l list)
