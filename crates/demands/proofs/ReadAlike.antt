-- Two readers that are alike in what the first reads gather the same, and read the same lists. Assumes nothing.
use Rattle.std.specs.Prelude.{◌≡◌, cond, ℕ, eqb}
use Rattle.std.proofs.Math.Path.{refl, ap}
use mathlib.Core.List.{List, [], ◌∷◌, map, flat_map}
use Rattle.std.proofs.Math.Option.{Option, some, none}
use Rattle.rules.specs.Lists.{set_of}
use Rattle.rules.specs.Pattern.{meets_both}
use Rattle.rules.specs.Listing.{Reader, Read, Gathered, read_keys, keys_from, candidates_of, with_node, with_edge, with_row, with_rows}
use Rattle.rules.specs.declared.Row.{Row}
use Rattle.rules.specs.declared.Entry.{Entry}
use Rattle.laws.specs.Every.{Every, every-flat, every-map, every-split, keep-alike}
use Rattle.demands.specs.Reads.{ListRead, keys_read, lists_read, named, AlikeIn}

module _ (r q : Reader) where
  -- the same value for each node that some lists name
  abbrev SameValues : List Read → Type 0
  SameValues reads = Every (λ x. Every (λ e. r.value e.node ≡ q.value e.node) x.entries) reads

  keys-alike : (c : ℕ) (keys : List (List ℕ)) → Every (AlikeIn r q) (keys_read r c keys) → read_keys r c keys ≡ read_keys q c keys
  unfolding keys_read read_keys Every
  keys-alike c [] h = refl
  keys-alike c (key ∷ keys) h = go (r.list c key) refl (keys-alike c keys)
    where
      go : (o : Option (List Entry)) → r.list c key ≡ o → (Every (AlikeIn r q) (keys_read r c keys) → read_keys r c keys ≡ read_keys q c keys)
          → read_keys r c (key ∷ keys) ≡ read_keys q c (key ∷ keys)
      go none e ih = rw (← h.0.list, e, read_keys)
      go (some l) e ih = rw (← h.0.list, e, read_keys) (rw (ih (rw e at h.1)))

  -- the same lists are read of the keys
  asked-alike : (c : ℕ) (keys : List (List ℕ)) → Every (AlikeIn r q) (keys_read r c keys) → keys_read r c keys ≡ keys_read q c keys
  unfolding keys_read Every
  asked-alike c [] h = refl
  asked-alike c (key ∷ keys) h = go (r.list c key) refl (asked-alike c keys)
    where
      go : (o : Option (List Entry)) → r.list c key ≡ o → (Every (AlikeIn r q) (keys_read r c keys) → keys_read r c keys ≡ keys_read q c keys)
          → keys_read r c (key ∷ keys) ≡ keys_read q c (key ∷ keys)
      go none e ih = rw (← h.0.list, e, keys_read)
      go (some l) e ih = rw (← h.0.list, e, keys_read) (rw (ih (rw e at h.1)))

  -- what was read, if no list was unfit, names nodes with the same values
  SameIn : Option (List Read) → Type 0
  SameIn none = Unit {0}
  SameIn (some reads) = SameValues reads

  keys-values : (c : ℕ) (keys : List (List ℕ)) → Every (AlikeIn r q) (keys_read r c keys) → SameIn (read_keys r c keys)
  unfolding keys_read read_keys Every SameIn
  keys-values c [] h = tt
  keys-values c (key ∷ keys) h = go (r.list c key) refl (keys-values c keys)
    where
      go : (o : Option (List Entry)) → r.list c key ≡ o → (Every (AlikeIn r q) (keys_read r c keys) → SameIn (read_keys r c keys)) → SameIn (read_keys r c (key ∷ keys))
      go none e ih = rw (e, read_keys) tt
      go (some l) e ih = rw (e, read_keys) (add (read_keys r c keys) (ih (rw e at h.1)))
        where
          add : (o : Option (List Read)) → SameIn o → SameIn (elim o [ none ↦ none | some reads ↦ some (record { key = key; entries = l } ∷ reads) ])
          add none k = tt
          add (some reads) k = (unfold named in rw e at h.0.values, k)

  candidates-alike : (b : List ℕ) (u : ℕ) (reads : List Read) → SameValues reads → candidates_of r b u reads ≡ candidates_of q b u reads
  unfolding candidates_of
  candidates-alike b u reads h =
      ap set_of
      (keep-alike (λ v. meets_both b u (r.value v)) (λ v. meets_both b u (q.value v)) (flat_map (λ x. map (λ e. e.node) x.entries) reads)
      (every-flat _ _ (λ x. map (λ e. e.node) x.entries) (λ x k. every-map _ _ (λ e. e.node) (λ e d. ap (meets_both b u) d) x.entries k) reads h))

  row-alike : (b : List ℕ) (got : Gathered) (row : Row) → Every (AlikeIn r q) (keys_read r row.constraint (keys_from got row)) → with_row r b got row ≡ with_row q b got row
  unfolding with_row with_node SameIn
  row-alike b got row h =
      rw (← keys-alike row.constraint (keys_from got row) h, with_row)
      (go (read_keys r row.constraint (keys_from got row)) (keys-values row.constraint (keys_from got row) h))
    where
      after : Reader → Option (List Read) → Option Gathered
      after x o = elim o [ none ↦ none | some reads ↦ some (cond (eqb row.kind 0) (with_node x b got row reads) (with_edge b got row reads)) ]

      go : (o : Option (List Read)) → SameIn o → after r o ≡ after q o
      go none k = refl
      go (some reads) k = rw (candidates-alike b row.fetched reads k)

  -- what is gathered is the same, and so are the lists that are read
  pub rows-alike : (b : List ℕ) (rows : List Row) (got : Gathered) → Every (AlikeIn r q) (lists_read r b rows got)
      → (with_rows r b rows got ≡ with_rows q b rows got) × (lists_read r b rows got ≡ lists_read q b rows got)
  unfolding with_rows lists_read
  rows-alike b [] got h = (refl, refl)
  rows-alike b (row ∷ rows) got h = go (with_row r b got row) refl (rows-alike b rows)
    where
      own : List ListRead
      own = keys_read r row.constraint (keys_from got row)

      later : Option Gathered → List ListRead
      later o = elim o [ none ↦ [] | some next ↦ lists_read r b rows next ]

      split : Every (AlikeIn r q) own × Every (AlikeIn r q) (later (with_row r b got row))
      split = every-split (AlikeIn r q) own (later (with_row r b got row)) h

      same : with_row r b got row ≡ with_row q b got row
      same = row-alike b got row split.0

      asked : own ≡ keys_read q row.constraint (keys_from got row)
      asked = asked-alike row.constraint (keys_from got row) split.0

      go : (o : Option Gathered) → with_row r b got row ≡ o
          → ((next : Gathered) → Every (AlikeIn r q) (lists_read r b rows next) → (with_rows r b rows next ≡ with_rows q b rows next) × (lists_read r b rows next ≡ lists_read q b rows next))
          → (with_rows r b (row ∷ rows) got ≡ with_rows q b (row ∷ rows) got) × (lists_read r b (row ∷ rows) got ≡ lists_read q b (row ∷ rows) got)
      go none e ih = (rw (← same, e, with_rows), rw (← same, e, ← asked, lists_read))
      go (some next) e ih =
          let k = ih next (rw e at split.1) in
          (rw (← same, e, with_rows) k.0, rw (← same, e, ← asked, lists_read) (rw k.1))
