-- The lists that an answered listing reads are those that the rule names, and their entries are those that it counts. Assumes nothing.
use Rattle.std.specs.Prelude.{◌≡◌, List, ℕ, ◌+◌, get_or}
use Rattle.std.proofs.Common.{◌∙◌, arith, eq-eqb}
use Rattle.rules.specs.Store.{constraint_part}
use Rattle.rules.specs.Plan.{rows_of}
use Rattle.rules.specs.Listing.{nothing}
use Rattle.rules.specs.Answers.{gathered, list_outcome}
use Rattle.laws.specs.PatternLaws.{pattern-says}
use Rattle.demands.proofs.Answered.{answered-heard, answer}
use Rattle.demands.specs.Reads.{lists_read, store_reader, store_reads, call_reads, entries_of_reads}
use Rattle.demands.proofs.Named.{all-named}
use Rattle.demands.specs.Counting.{total, Counts}
use Rattle.demands.proofs.Counting.{rows-counted}
use Rattle.demands.specs.Counted.{Named}

module _ (s b work room : List ℕ) (z : (list_outcome s b work room).number ≡ 0) where
  opened : call_reads s b work ≡ lists_read (store_reader s) b (rows_of (constraint_part s) b) (nothing b)
  unfolding call_reads store_reads
  opened = rw (eq-eqb _ _ (answered-heard s b work room z), call_reads)

  -- An answered listing reads, for each row of the plan, the list of every key from the candidates of the chosen nodes, and no other: none is left out, and none invented.
  pub reads-named : Named s b work
  unfolding gathered
  reads-named =
      let a = answer s b work room z in
      record {
        got = a.given.got;
        read = a.given.read;
        lists = opened ∙ all-named (constraint_part s) (pattern-says b a.heard.plan.pattern) (store_reader s) (nothing b) a.given.got a.given.read;
      }

  -- The node entries and edge entries that it gives are together the entries of these lists, a list that is read twice counted twice.
  pub reads-counted : get_or (list_outcome s b work room).results 1 0 + get_or (list_outcome s b work room).results 2 0 ≡ entries_of_reads (store_reader s) (call_reads s b work)
  unfolding gathered Counts
  reads-counted =
      let a = answer s b work room z in
      let rows = rows_of (constraint_part s) b in
      let k = rows-counted (store_reader s) b rows (nothing b) in
      let whole : total a.given.got ≡ total (nothing b) + entries_of_reads (store_reader s) (lists_read (store_reader s) b rows (nothing b)) =
      rw a.given.read at k in
      rw (a.given.same, opened) (whole ∙ unfold nothing in omega arith)
