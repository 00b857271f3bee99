-- Two admitted stores that are alike in what listing reads give one answer. Assumes nothing.
use Rattle.std.specs.Prelude.{◌≡◌, Bool, List, [], ◌∷◌, ℕ}
use Rattle.std.proofs.Math.Path.{refl, ap}
use Rattle.std.proofs.Common.{sym, ◌∙◌, eqb-true}
use Rattle.std.proofs.Math.Bool.{true, false}
use Rattle.std.proofs.Math.Dec.{eqb}
use Rattle.std.proofs.lemmas.Bool.{eqb-false}
use Rattle.rules.specs.Store.{header_right, constraint_part}
use Rattle.rules.specs.Plan.{rows_of, bound}
use Rattle.rules.specs.Listing.{nothing, with_rows}
use Rattle.rules.specs.Answers.{gathered, admit_number, list_outcome}
use Rattle.laws.specs.Outcomes.{refused, read_outcome, list_refusal}
use Rattle.laws.specs.Every.{Every, every-more}
use Rattle.demands.proofs.Numbers.{admitted-sound}
use Rattle.demands.specs.Answered.{gathered_of}
use Rattle.demands.proofs.Answered.{list-heard, list-refused}
use Rattle.demands.specs.Reads.{ListRead, store_reader, lists_read, store_reads, call_reads, AlikeIn, SameBytes}
use Rattle.demands.proofs.InBytes.{bytes-alike}
use Rattle.demands.proofs.ReadAlike.{rows-alike}

-- ---- two stores with equal constraint sections whose headers are both right or both wrong, alike in each list that listing reads in the first
module _ (s t b work : List ℕ) (right : header_right s ≡ header_right t) (same : constraint_part s ≡ constraint_part t)
    (alike : Every (AlikeIn (store_reader s) (store_reader t)) (call_reads s b work)) where
  refusal-same : list_refusal s b work ≡ list_refusal t b work
  refusal-same = rw (right, same)

  -- where none of these numbers is given, the same is gathered and the same lists are read
  rows-same : eqb (list_refusal s b work) 0 ≡ true → (gathered_of s b ≡ gathered_of t b) × (store_reads s b ≡ store_reads t b)
  unfolding gathered call_reads store_reads
  rows-same e =
      let k = rows-alike (store_reader s) (store_reader t) b (rows_of (constraint_part s) b) (nothing b) (rw (e, call_reads) at alike) in
      (k.0 ∙ ap (λ c. with_rows (store_reader t) b (rows_of c b) (nothing b)) same, k.1 ∙ ap (λ c. lists_read (store_reader t) b (rows_of c b) (nothing b)) same)

  -- listing has one outcome in both, number, results and both rooms
  pub listing-local : (room : List ℕ) → list_outcome s b work room ≡ list_outcome t b work room
  listing-local room = go (eqb (list_refusal s b work) 0) refl
    where
      go : (x : Bool) → eqb (list_refusal s b work) 0 ≡ x → list_outcome s b work room ≡ list_outcome t b work room
      go true e =
          let z : list_refusal s b work ≡ 0 = eqb-true _ _ e in
          list-heard s b work room z
          ∙ ap (λ c. read_outcome b (bound c b) (gathered_of s b) work room) same
          ∙ ap (λ o. read_outcome b (bound (constraint_part t) b) o work room) (rows-same e).0
          ∙ sym (list-heard t b work room (sym refusal-same ∙ z))
      go false e =
          let n = eqb-false (list_refusal s b work) 0 e in
          list-refused s b work room n
          ∙ ap (λ n. refused n (0 ∷ 0 ∷ 0 ∷ 0 ∷ []) room work) refusal-same
          ∙ sym (list-refused t b work room (λ z. n (refusal-same ∙ z)))

  -- and reads the same lists in both
  pub reads-local : call_reads s b work ≡ call_reads t b work
  unfolding call_reads
  reads-local = go (eqb (list_refusal s b work) 0) refl
    where
      go : (x : Bool) → eqb (list_refusal s b work) 0 ≡ x → call_reads s b work ≡ call_reads t b work
      go true e = rw (← refusal-same, e, call_reads) (rows-same e).1
      go false e = rw (← refusal-same, e, call_reads)

-- Listing is local. Let s and t be two admitted stores with equal constraint sections, alike in each list that listing b in s reads: both readers give the same list, and the same value for each node that it names. Then listing b in the same rooms has one outcome in both, number, results and both rooms; and it reads the same lists in both. Of a named node nothing but the value is asked: a fit list says its label. That s and t are admitted is used for their right headers and no more: `listing-local` and `reads-local` have the same for other stores.
pub admitted-local : (s t b work room : List ℕ) → admit_number s ≡ 0 → admit_number t ≡ 0 → constraint_part s ≡ constraint_part t
    → Every (AlikeIn (store_reader s) (store_reader t)) (call_reads s b work)
    → (list_outcome s b work room ≡ list_outcome t b work room) × (call_reads s b work ≡ call_reads t b work)
admitted-local s t b work room ps pt same alike =
    let right : header_right s ≡ header_right t = (admitted-sound s ps).right ∙ sym (admitted-sound t pt).right in
    (listing-local s t b work right same alike room, reads-local s t b work right same alike)

-- The same in bytes. Let s and t be two admitted stores with equal constraint sections, such that for each list that listing b in s reads the two have the same bytes of the list, and the same 8-byte record of each node that it names. Then listing b in the same rooms has one outcome in both, and reads the same lists in both.
pub admitted-local-bytes : (s t b work room : List ℕ) → admit_number s ≡ 0 → admit_number t ≡ 0 → constraint_part s ≡ constraint_part t
    → Every (SameBytes s t) (call_reads s b work)
    → (list_outcome s b work room ≡ list_outcome t b work room) × (call_reads s b work ≡ call_reads t b work)
admitted-local-bytes s t b work room ps pt same alike =
    admitted-local s t b work room ps pt same
    (every-more (SameBytes s t) (AlikeIn (store_reader s) (store_reader t)) (bytes-alike s t (admitted-sound s ps) (admitted-sound t pt)) (call_reads s b work) alike)

-- What holds of each list that the rows of the plan read holds of each that the call reads, whatever the working room.
pub call-reads : (P : ListRead → Type 0) (s b work : List ℕ) → Every P (store_reads s b) → Every P (call_reads s b work)
unfolding call_reads
call-reads P s b work h = go (eqb (list_refusal s b work) 0)
  where
    go : (x : Bool) → Every P (elim x [ true ↦ store_reads s b | false ↦ [] ])
    go true = h
    go false = unfold Every in tt
