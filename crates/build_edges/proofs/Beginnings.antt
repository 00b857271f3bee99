-- The edges that come from one node stand together: their words are those of the node, and a word of the node is sought among them alone. Assumes nothing.
use native.Mathlib.Omega.{arith}
use mathlib.Core.Path.{◌≡◌, sym, ap, ◌∙◌}
use mathlib.Core.Bool.{true, ◌&&◌}
use mathlib.Core.List.{List}
use Prim.Native.Nat.{ℕ, ◌+◌, ◌-◌, ◌*◌, ◌≤◌, ◌<◌}
use lib.ListN.{length, get_or}
use lib.Seq.{ext_get_or}
use borrow.Author.Tests.{lt-ltb, le-leb}
use Rattle.rules.specs.Words.{u32_at, part}
use Rattle.rules.specs.Lists.{keep, has}
use Rattle.laws.specs.Strict.{Strict}
use Rattle.rules.specs.Store.{edges_in, from_at, to_at}
use Rattle.laws.specs.Keep.{has-keep, keep-from}
use Rattle.laws.specs.Parts.{length-part, get-part, u32-part}
use Rattle.laws.specs.Searching.{stands_in, stands-has, between}
use Rattle.build_edges.specs.Packed.{forward_at, forward_words, word_in}
use Rattle.build_edges.specs.Near.{words_of}
use Rattle.build_edges.specs.Starts.{Edged}
use Rattle.build_edges.proofs.Edges.{length-edges, edge-word, both-low}
use Rattle.build_edges.proofs.Starting.{run-order, run-top, run-found}

-- ---- the words of a part of the edges
module _ (edges : List ℕ) (a e : ℕ) (up : a ≤ e) (top : e ≤ edges_in edges) where
  part-edges : edges_in (part edges (a * 8) (e * 8)) ≡ e - a
  part-edges = omega (arith, length-part edges (a * 8) (e * 8) (omega arith))

  part-edge : (i : ℕ) → i < e - a → forward_at (part edges (a * 8) (e * 8)) i ≡ forward_at edges (a + i)
  unfolding forward_at
  part-edge i h =
      let f : a * 8 + i * 8 ≡ (a + i) * 8 = omega arith in
      let t : a * 8 + (i * 8 + 4) ≡ (a + i) * 8 + 4 = omega arith in
      let p : from_at (part edges (a * 8) (e * 8)) i ≡ from_at edges (a + i) = u32-part edges (a * 8) (e * 8) (i * 8) (omega arith) ∙ ap (u32_at edges) f in
      let q : to_at (part edges (a * 8) (e * 8)) i ≡ to_at edges (a + i) = u32-part edges (a * 8) (e * 8) (i * 8 + 4) (omega arith) ∙ ap (u32_at edges) t in
      rw (p, q)

  pub part-words : forward_words (part edges (a * 8) (e * 8)) ≡ part (forward_words edges) a e
  part-words =
      let l : length (forward_words (part edges (a * 8) (e * 8))) ≡ e - a = length-edges (part edges (a * 8) (e * 8)) ∙ part-edges in
      let m : length (part (forward_words edges) a e) ≡ e - a = length-part (forward_words edges) a e (omega (arith, length-edges edges)) in
      ext_get_or 0 (forward_words (part edges (a * 8) (e * 8))) (part (forward_words edges) a e) (l ∙ sym m)
      (λ i h. edge-word (part edges (a * 8) (e * 8)) i (omega (arith, part-edges)) ∙ part-edge i (omega arith)
      ∙ sym (get-part (forward_words edges) a e i (omega arith) ∙ edge-word edges (a + i) (omega arith)))

-- ---- in the words of the code
module _ {edges begins : List ℕ} (b : Edged edges begins) (u : ℕ) (h : u < 65535) where
  pub begins-order : get_or begins u 0 ≤ get_or begins (u + 1) 0
  begins-order = run-order b.begun u h

  pub begins-top : get_or begins (u + 1) 0 ≤ edges_in edges
  begins-top = omega (arith, run-top b.begun u h, length-edges edges)

  pub edges-found : forward_words (part edges (get_or begins u 0 * 8) (get_or begins (u + 1) 0 * 8)) ≡ words_of (forward_words edges) u
  edges-found = part-words edges (get_or begins u 0) (get_or begins (u + 1) 0) begins-order begins-top ∙ run-found b.begun u h

-- ---- a word of the node stands among its words if it stands among all
stands-mine : (ws : List ℕ) (u v : ℕ) → Strict ws → v < 65536 → stands_in (u * 65536 + v) (words_of ws u) ≡ stands_in (u * 65536 + v) ws
unfolding words_of
stands-mine ws u v s h =
    let x = u * 65536 + v in
    let mine = between (u * 65536) ((u + 1) * 65536) in
    let e : mine x ≡ true = rw (le-leb (u * 65536) x (omega arith), lt-ltb x ((u + 1) * 65536) (omega arith)) in
    stands-has x (keep mine ws) (keep-from mine 0 ws s) ∙ has-keep mine x ws ∙ ap (λ t. t && has x ws) e ∙ sym (stands-has x ws s)

pub among-own : {edges own begins : List ℕ} → Edged edges begins → (u v : ℕ) → own ≡ words_of (forward_words edges) u → u < 65536 → v < 65536
    → stands_in (u * 65536 + v) own ≡ word_in (forward_words edges) u v
among-own {edges} b u v e h k =
    ap (stands_in (u * 65536 + v)) e ∙ stands-mine (forward_words edges) u v b.ascends k ∙ both-low (forward_words edges) u v h k
