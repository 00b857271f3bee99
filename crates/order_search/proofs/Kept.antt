-- The state of `keep_front`'s loop, and the laws that take it from its start over each kind of turn to its end. Assumes nothing.
use Rattle.std.specs.Prelude.{◌≡◌, refl, Bool, true, false, List, [], ◌∷◌, ◌++◌, ℕ, ◌+◌, ◌≤◌, ◌<◌, length, take, drop, get_or}
use Rattle.std.proofs.Common.{sym, ◌∙◌, append-nil, add-one}
use lib.ListN.{set, drop_of_length-le}
use lib.Seq.{take-suc-set, append_snoc}
use Rattle.rules.specs.Lists.{keep}
use Rattle.laws.specs.Slices.{drop-next}
use Rattle.laws.specs.Keep.{keep-yes, keep-no}

-- what is kept, and of what is left the words that pass, are all words that pass
pub record Kept (test : ℕ → Bool) (words : List ℕ) (i kept : ℕ) (out : List ℕ) : Type 0 where
  pub todo : take kept out ++ keep test (drop i words) ≡ keep test words

pub begun : (test : ℕ → Bool) (words out : List ℕ) → Kept test words 0 0 out
begun test words out = record { todo = refl }

module _ {test : ℕ → Bool} {words : List ℕ} {i kept : ℕ} {out : List ℕ} (g : Kept test words i kept out) where
  pub taken : (x : ℕ) → i < length words → kept < length out → x ≡ get_or words i 0 → true ≡ test x → Kept test words (i + 1) (kept + 1) (set out kept x)
  taken x h f q e =
      let t : take (kept + 1) (set out kept x) ≡ take kept out ++ (x ∷ []) = rw add-one (take-suc-set out kept x f) in
      record { todo = rw (t, append_snoc, ← keep-yes test x (drop (i + 1) words) (sym e), q, ← drop-next words i h) g.todo }

  pub skipped : (x : ℕ) → i < length words → x ≡ get_or words i 0 → false ≡ test x → Kept test words (i + 1) kept out
  skipped x h q e =
      record { todo = rw (← keep-no test x (drop (i + 1) words) (sym e), q, ← drop-next words i h) g.todo }

  pub ended : length words ≤ i → take kept out ≡ keep test words
  unfolding keep
  ended h = sym (append-nil (take kept out)) ∙ rw (drop_of_length-le words {i = i} h) at g.todo
