-- Writing the bytes of groups and entries: runs written one after another are one run. Assumes nothing.
use native.Mathlib.Omega.{arith}
use mathlib.Core.Path.{◌≡◌, refl, sym, ap, ◌∙◌}
use mathlib.Core.List.{List, [], ◌∷◌, ◌++◌, flat_map}
use Prim.Native.Nat.{ℕ, ◌+◌, ◌*◌, ◌≤◌}
use lib.ListN.{length, set, length-append}
use Rattle.rules.specs.Words.{u32_bytes, encoded, over}
use Rattle.laws.specs.Over.{over-over, over-nil, length-over}
use Rattle.build_groups.specs.Emit.{dirs_of, group_record, entry_record, list_records}

module _ (s₀ s₁ s₂ s₃ s₄ s₅ s₆ : List ℕ) (at a b c d e f : ℕ) (fits : at + 24 ≤ length s₀) where
  -- six words in a row
  pub six-words : s₁ ≡ over s₀ at (u32_bytes a) → s₂ ≡ over s₁ (at + 4) (u32_bytes b) → s₃ ≡ over s₂ (at + 8) (u32_bytes c)
      → s₄ ≡ over s₃ (at + 12) (u32_bytes d) → s₅ ≡ over s₄ (at + 16) (u32_bytes e) → s₆ ≡ over s₅ (at + 20) (u32_bytes f)
      → s₆ ≡ over s₀ at (group_record a (b ∷ c ∷ d ∷ []) e f)
  unfolding group_record encoded
  six-words p₁ p₂ p₃ p₄ p₅ p₆ =
      let q₂ : s₂ ≡ over s₀ at (u32_bytes a ++ u32_bytes b) = p₂ ∙ ap (λ s. over s (at + 4) (u32_bytes b)) p₁ ∙ over-over s₀ at (u32_bytes a) (omega arith) (u32_bytes b) in
      let q₃ : s₃ ≡ over s₀ at (u32_bytes a ++ u32_bytes b ++ u32_bytes c) =
      p₃ ∙ ap (λ s. over s (at + 8) (u32_bytes c)) q₂ ∙ over-over s₀ at (u32_bytes a ++ u32_bytes b) (omega arith) (u32_bytes c) in
      let q₄ : s₄ ≡ over s₀ at (u32_bytes a ++ u32_bytes b ++ u32_bytes c ++ u32_bytes d) =
      p₄ ∙ ap (λ s. over s (at + 12) (u32_bytes d)) q₃ ∙ over-over s₀ at (u32_bytes a ++ u32_bytes b ++ u32_bytes c) (omega arith) (u32_bytes d) in
      let q₅ : s₅ ≡ over s₀ at (u32_bytes a ++ u32_bytes b ++ u32_bytes c ++ u32_bytes d ++ u32_bytes e) =
      p₅ ∙ ap (λ s. over s (at + 16) (u32_bytes e)) q₄ ∙ over-over s₀ at (u32_bytes a ++ u32_bytes b ++ u32_bytes c ++ u32_bytes d) (omega arith) (u32_bytes e) in
      p₆ ∙ ap (λ s. over s (at + 20) (u32_bytes f)) q₅ ∙ over-over s₀ at (u32_bytes a ++ u32_bytes b ++ u32_bytes c ++ u32_bytes d ++ u32_bytes e) (omega arith) (u32_bytes f)

-- a node id, then the directions over the first of four zero bytes
pub one-entry : (s words ids : List ℕ) (v x : ℕ) (zeros : List ℕ) → x ≡ dirs_of words ids v → s ≡ over zeros 0 (u32_bytes v) → zeros ≡ 0 ∷ 0 ∷ 0 ∷ 0 ∷ 0 ∷ 0 ∷ 0 ∷ 0 ∷ []
    → set s 4 x ≡ entry_record words ids v
unfolding entry_record over
one-entry s words ids v x zeros e p z = rw (p, z, e) refl

pub length-group : (c a b d e f : ℕ) → length (group_record c (a ∷ b ∷ d ∷ []) e f) ≡ 24
unfolding group_record encoded
length-group c a b d e f = refl

pub length-entry : (words ids : List ℕ) (v : ℕ) → length (entry_record words ids v) ≡ 8
unfolding entry_record
length-entry words ids v = refl

pub length-records : (words ids list : List ℕ) → length (list_records words ids list) ≡ length list * 8
unfolding list_records flat_map
length-records words ids [] = refl
length-records words ids (v ∷ list) =
    length-append (entry_record words ids v) (list_records words ids list) ∙ rw (length-entry words ids v, length-records words ids list) (omega arith)

-- a loop that writes the entries of a list: what is left gives the whole
pub record Writing (words ids : List ℕ) (room₀ : List ℕ) (at : ℕ) (list : List ℕ) (room : List ℕ) (next : ℕ) (left : List ℕ) : Type 0 where
  pub same : length room ≡ length room₀
  pub fits : next + length left * 8 ≤ length room
  pub todo : over room next (list_records words ids left) ≡ over room₀ at (list_records words ids list)

pub begun : (words ids room : List ℕ) (at : ℕ) (list : List ℕ) → at + length list * 8 ≤ length room → Writing words ids room at list room at list
begun words ids room at list h = record { same = refl; fits = h; todo = refl }

module _ {words ids room₀ list room : List ℕ} {at next : ℕ} where
  pub wrote : {v : ℕ} {left room' : List ℕ} → Writing words ids room₀ at list room next (v ∷ left) → room' ≡ over room next (entry_record words ids v)
      → Writing words ids room₀ at list room' (next + 8) left
  unfolding list_records flat_map
  wrote {v} {left} {room'} g e =
      let fits = g.fits in
      let l = length-entry words ids v in
      let h : next + length (entry_record words ids v) ≤ length room = rw l (omega arith) in
      let same : length room' ≡ length room = ap length e ∙ length-over room next (entry_record words ids v) h in
      record {
        same = same ∙ g.same;
        fits = rw same (omega arith);
        todo = rw e (rw l at (over-over room next (entry_record words ids v) h (list_records words ids left))) ∙ g.todo;
      }

  pub ended : Writing words ids room₀ at list room next [] → room ≡ over room₀ at (list_records words ids list)
  unfolding list_records flat_map
  ended g = sym (over-nil room next) ∙ g.todo
