-- Laws of a room over whose front is written what a function makes of each word of a list. Assumes nothing.
use native.Mathlib.Omega.{arith}
use mathlib.Core.Path.{◌≡◌, refl, sym, ap, ap₂, ◌∙◌}
use mathlib.Core.List.{List, [], ◌∷◌, ◌++◌, map, append-nil, append_assoc}
use Prim.Native.Nat.{ℕ, suc, ◌+◌, ◌≤◌, ◌<◌}
use lib.ListN.{length, take, drop, get_or, length-append, length-map, drop_of_length-le}
use lib.Seq.{take_at, length-take-le}
use borrow.Rule.Slice.PartMut.{put_mid, post_of}

module _ (f : ℕ → ℕ) where
  pub made-front : (words out : List ℕ) {rest : List ℕ} → length words ≤ length out → ((k : ℕ) → k < length words → get_or out k 0 ≡ f (get_or words k 0)) → drop (length words) out ≡ rest → out ≡ map f words ++ rest
  made-front [] out h g e = e
  made-front (w ∷ words) [] h g e = absurd (omega arith)
  made-front (w ∷ words) (x ∷ out) h g e = ap₂ ◌∷◌ (g 0 (omega arith)) (made-front words out (omega arith) (λ k q. g (suc k) (omega arith)) e)

  pub made-first : (words out : List ℕ) → length words ≤ length out → ((k : ℕ) → k < length words → get_or out k 0 ≡ f (get_or words k 0)) → take (length words) out ≡ map f words
  made-first words out h g =
      ap (take (length words)) (made-front words out {rest = drop (length words) out} h g refl) ∙ take_at (map f words) (drop (length words) out) (length words) (length-map words f)

  pub made-all : (words out : List ℕ) → length out ≡ length words → ((k : ℕ) → k < length words → get_or out k 0 ≡ f (get_or words k 0)) → out ≡ map f words
  made-all words out h g = made-front words out (omega arith) g (drop_of_length-le out {i = length words} (omega arith)) ∙ append-nil (map f words)

  -- a part that is written behind the first k words of a room
  pub made-behind : (words out part : List ℕ) (k m : ℕ) → k + length words ≤ length out → length words ≤ length part → ((j : ℕ) → j < length words → get_or part j 0 ≡ f (get_or words j 0))
      → take (k + length words) (put_mid k m out part) ≡ take k out ++ map f words
  made-behind words out part k m fits room g =
      let after : List ℕ = drop (length words) part in
      let whole : put_mid k m out part ≡ (take k out ++ map f words) ++ (after ++ post_of k m out) =
      ap (λ x. take k out ++ (x ++ post_of k m out)) (made-front words part {rest = after} room g refl)
      ∙ ap (λ x. take k out ++ x) (append_assoc (map f words) after (post_of k m out))
      ∙ sym (append_assoc (take k out) (map f words) (after ++ post_of k m out)) in
      let n : length (take k out ++ map f words) ≡ k + length words = length-append (take k out) (map f words) ∙ omega (arith, length-map words f, length-take-le k out (omega arith)) in
      ap (take (k + length words)) whole ∙ take_at (take k out ++ map f words) (after ++ post_of k m out) (k + length words) n
