-- The lists that listing reads have at most T entries in all, on any store, also where it stops at an unfit list. Assumes nothing.
use native.Mathlib.Omega.{arith}
use Rattle.std.specs.Prelude.{◌≡◌, refl, Bool, true, List, [], ℕ, ◌+◌, ◌≤◌, eqb}
use Rattle.std.proofs.Math.Bool.{false}
use Rattle.std.proofs.Common.{eqb-true}
use Rattle.rules.specs.Lists.{sum}
use Rattle.rules.specs.Store.{node_part, constraint_part, group_part, entry_part}
use Rattle.rules.specs.Plan.{rows_of, bound}
use Rattle.rules.specs.Listing.{Reader, nothing}
use Rattle.laws.specs.Outcomes.{list_refusal}
use Rattle.rules.specs.declared.Row.{Row}
use Rattle.laws.specs.PatternLaws.{pattern-says}
use Rattle.demands.proofs.Answered.{refusal-zero}
use Rattle.demands.proofs.Within.{reader-short, all-within}
use Rattle.demands.specs.Reads.{lists_read, store_reader, store_reads, call_reads, entries_of_reads}
use Rattle.demands.specs.Counting.{total, Counts}
use Rattle.demands.proofs.Counting.{rows-counted}
use Rattle.demands.proofs.Lenient.{lenient, rows-more, rows-given, lenient-short}

-- The lists that the listing call reads have together at most T entries: for any store, pattern and working room, whatever the call answers. A list that is read twice counts twice; an unfit list, at which the call stops, is not read further and counts 0.
pub reads-bounded : (s b work : List ℕ) → entries_of_reads (store_reader s) (call_reads s b work) ≤ bound (constraint_part s) b
unfolding call_reads store_reads Counts
reads-bounded s b work = go (eqb (list_refusal s b work) 0) refl
  where
    r : Reader
    r = store_reader s

    rows : List Row
    rows = rows_of (constraint_part s) b

    go : (x : Bool) → eqb (list_refusal s b work) 0 ≡ x
        → entries_of_reads r (elim x [ true ↦ lists_read r b rows (nothing b) | false ↦ [] ]) ≤ bound (constraint_part s) b
    go true e =
        let plan = (refusal-zero s b work (eqb-true _ _ e)).plan in
        let k = rows-given r b rows (nothing b) in
        let within : total k.got ≤ bound (constraint_part s) b =
        all-within (lenient-short r (constraint_part s) (reader-short (node_part s) (constraint_part s) (group_part s) (entry_part s))) (pattern-says b plan.pattern) k.got k.same in
        let counted : total k.got ≡ total (nothing b) + entries_of_reads (lenient r) (lists_read (lenient r) b rows (nothing b)) =
        rw k.same at (rows-counted (lenient r) b rows (nothing b)) in
        let none_yet : total (nothing b) ≡ 0 = unfold nothing in omega arith in
        omega (arith, rows-more r b rows (nothing b))
    go false e = unfold entries_of_reads sum in omega arith
