-- A reader that gives the empty list where another gives none: it never stops, and it reads no fewer entries. Assumes nothing.
use native.Mathlib.Omega.{arith}
use Rattle.std.specs.Prelude.{◌≡◌, ℕ, ◌≤◌, eqb}
use Rattle.std.proofs.Math.Path.{refl}
use Rattle.std.proofs.Common.{ap, ◌∙◌}
use Rattle.std.proofs.Math.Bool.{cond}
use mathlib.Core.List.{List, [], ◌∷◌, ◌++◌}
use Rattle.std.proofs.Math.Option.{Option, some, none, none-ne-some}
use Rattle.std.proofs.Math.ListN.{length}
use Rattle.rules.specs.Lists.{sum}
use Rattle.rules.specs.Store.{constraint_at}
use Rattle.rules.specs.Listing.{Reader, Read, Gathered, read_keys, keys_from, candidates_of, with_node, with_edge, with_row, with_rows}
use Rattle.rules.specs.declared.Row.{Row}
use Rattle.rules.specs.declared.Entry.{Entry}
use Rattle.demands.specs.Within.{Short}
use Rattle.demands.specs.Reads.{ListRead, keys_read, lists_read, named, entries_of_reads}
use Rattle.demands.proofs.Counting.{joined-up}

module _ (r : Reader) where
  pub lenient : Reader
  lenient = record { value = r.value; list = λ c key. some (named (r.list c key)) }

  -- what r reads, it reads
  keys-lenient : (c : ℕ) (keys : List (List ℕ)) (reads : List Read) → read_keys r c keys ≡ some reads → read_keys lenient c keys ≡ some reads
  unfolding lenient read_keys named
  keys-lenient c [] reads e = e
  keys-lenient c (key ∷ keys) reads e = go (r.list c key) refl (read_keys r c keys) refl (keys-lenient c keys)
    where
      step : List Entry → Option (List Read) → Option (List Read)
      step l o = elim o [ none ↦ none | some reads ↦ some (record { key = key; entries = l } ∷ reads) ]

      go : (o : Option (List Entry)) → r.list c key ≡ o → (k : Option (List Read)) → read_keys r c keys ≡ k
          → ((reads : List Read) → read_keys r c keys ≡ some reads → read_keys lenient c keys ≡ some reads) → read_keys lenient c (key ∷ keys) ≡ some reads
      go none q k f ih = absurd (none-ne-some reads (rw (q, read_keys) at e))
      go (some l) q none f ih = absurd (none-ne-some reads (rw (q, f, read_keys) at e))
      go (some l) q (some later) f ih =
          ap (λ o. step (named o) (read_keys lenient c keys)) q ∙ ap (step l) (ih later f) ∙ rw (q, f, read_keys) at e

  row-lenient : (b : List ℕ) (got : Gathered) (row : Row) (next : Gathered) → with_row r b got row ≡ some next → with_row lenient b got row ≡ some next
  unfolding with_row
  row-lenient b got row next e = go (read_keys r row.constraint (keys_from got row)) refl
    where
      go : (o : Option (List Read)) → read_keys r row.constraint (keys_from got row) ≡ o → with_row lenient b got row ≡ some next
      go none q = absurd (none-ne-some next (rw (q, with_row) at e))
      go (some reads) q =
          rw (keys-lenient row.constraint (keys_from got row) reads q, with_row) (unfold lenient with_node candidates_of in rw (q, with_row) at e)

  -- it reads at least as many entries
  keys-more : (c : ℕ) (keys : List (List ℕ)) → entries_of_reads r (keys_read r c keys) ≤ entries_of_reads lenient (keys_read lenient c keys)
  unfolding lenient keys_read entries_of_reads sum named
  keys-more c [] = omega arith
  keys-more c (key ∷ keys) = go (r.list c key) refl (keys-more c keys)
    where
      go : (o : Option (List Entry)) → r.list c key ≡ o → entries_of_reads r (keys_read r c keys) ≤ entries_of_reads lenient (keys_read lenient c keys)
          → entries_of_reads r (keys_read r c (key ∷ keys)) ≤ entries_of_reads lenient (keys_read lenient c (key ∷ keys))
      go none e ih = rw (e, keys_read) (omega arith)
      go (some l) e ih = rw (e, keys_read) (omega arith)

  pub rows-more : (b : List ℕ) (rows : List Row) (got : Gathered) → entries_of_reads r (lists_read r b rows got) ≤ entries_of_reads lenient (lists_read lenient b rows got)
  unfolding lists_read
  rows-more b [] got = unfold entries_of_reads sum in omega arith
  rows-more b (row ∷ rows) got = go (with_row r b got row) refl (rows-more b rows)
    where
      own : List ListRead
      own = keys_read r row.constraint (keys_from got row)

      more : List ListRead
      more = keys_read lenient row.constraint (keys_from got row)

      later : Reader → Option Gathered → List ListRead
      later q o = elim o [ none ↦ [] | some next ↦ lists_read q b rows next ]

      go : (o : Option Gathered) → with_row r b got row ≡ o
          → ((next : Gathered) → entries_of_reads r (lists_read r b rows next) ≤ entries_of_reads lenient (lists_read lenient b rows next))
          → entries_of_reads r (own ++ later r (with_row r b got row)) ≤ entries_of_reads lenient (more ++ later lenient (with_row lenient b got row))
      go none e ih =
          rw e
          (let none_left : entries_of_reads r [] ≡ 0 = unfold entries_of_reads sum in refl in
          omega (arith, keys-more row.constraint (keys_from got row), joined-up r own [], joined-up lenient more (later lenient (with_row lenient b got row))))
      go (some next) e ih =
          rw (e, row-lenient b got row next e)
          (omega (arith, keys-more row.constraint (keys_from got row), joined-up r own (lists_read r b rows next), joined-up lenient more (lists_read lenient b rows next), ih next))

  -- it stops nowhere
  pub record Gathers (o : Option Gathered) : Type 0 where
    pub got : Gathered
    pub same : o ≡ some got

  record Gives (o : Option (List Read)) : Type 0 where
    reads : List Read
    same : o ≡ some reads

  keys-given : (c : ℕ) (keys : List (List ℕ)) → Gives (read_keys lenient c keys)
  unfolding lenient read_keys
  keys-given c [] = record { reads = []; same = refl }
  keys-given c (key ∷ keys) =
      let k = keys-given c keys in
      record { reads = record { key = key; entries = named (r.list c key) } ∷ k.reads; same = rw (k.same, read_keys) }

  pub rows-given : (b : List ℕ) (rows : List Row) (got : Gathered) → Gathers (with_rows lenient b rows got)
  unfolding with_rows with_row
  rows-given b [] got = record { got = got; same = refl }
  rows-given b (row ∷ rows) got =
      let k = keys-given row.constraint (keys_from got row) in
      let next : Gathered = cond (eqb row.kind 0) (with_node lenient b got row k.reads) (with_edge b got row k.reads) in
      let later = rows-given b rows next in
      record { got = later.got; same = rw (k.same, with_row, with_rows) later.same }

  -- no list of it is longer than N, if no list of r is
  pub lenient-short : (constraints : List ℕ) → Short constraints r → Short constraints lenient
  unfolding lenient named
  lenient-short constraints short = record { most = λ c key l e. go c key l (r.list c key) refl e }
    where
      go : (c : ℕ) (key : List ℕ) (l : List Entry) (o : Option (List Entry)) → r.list c key ≡ o → some (named o) ≡ some l → length l ≤ (constraint_at constraints c).most
      go c key l none q e = let n : l ≡ [] = cc in rw n (omega arith)
      go c key l (some k) q e = short.most c key l (let n : k ≡ l = cc in rw n at q)
