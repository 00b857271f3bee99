-- Over candidates and pairs that leave out no match, the rows of the listing are exactly the matches of the graph. Assumes nothing.
use Rattle.std.specs.Prelude.{◌≡◌, List, ℕ}
use Rattle.std.proofs.Common.{◌∙◌}
use Rattle.std.proofs.Math.Bool.{true}
use Rattle.rules.specs.Graph.{Graph}
use Rattle.rules.specs.Pattern.{pattern_from, pattern_to}
use Rattle.rules.specs.Match.{image, is_match}
use Rattle.rules.specs.Listing.{Gathered, has_pair, matches_of}
use Rattle.laws.specs.Cases.{both-ways}
use Rattle.laws.specs.PatternLaws.{RightPattern}
use Rattle.demands.proofs.Matched.{match-says, says-match}
use Rattle.demands.specs.Gathers.{has_both}
use Rattle.demands.specs.AllRows.{Whole}
use Rattle.demands.specs.Exactly.{among, is_row, Exactly}
use Rattle.demands.proofs.Standing.{row-says, says-row, rows-over, rows-ordered}

-- ---- a row over candidates and pairs that leave out no match passes exactly if it is a match
module _ {g : Graph} {b : List ℕ} {got : Gathered} (right : RightPattern b) (whole : Whole g b got) where
  rows-exact : (row : List ℕ) → among row (matches_of b got) ≡ is_match g b row
  unfolding has_pair has_both
  rows-exact row = rows-over right got row ∙ both-ways (is_row b got row) (is_match g b row) sound all-of
    where
      sound : is_row b got row ≡ true → is_match g b row ≡ true
      sound h =
          let says = row-says b got row h in
          says-match g b row record {
            size = says.size;
            node = λ u l. (whole.candidates u l).sound (image row u) (says.node u l);
            own = says.own;
            edge = λ j l. (whole.pairs j l).sound (image row (pattern_from b j)) (image row (pattern_to b j)) (says.edge j l);
          }

      all-of : is_match g b row ≡ true → is_row b got row ≡ true
      all-of match =
          let says = match-says g b row match in
          says-row b got row record {
            size = says.size;
            node = λ u l. (whole.candidates u l).whole row match;
            own = says.own;
            edge = λ j l. (whole.pairs j l).whole row match;
          }

  -- The listing's rows are exactly the matches of the graph, each once, in ascending order.
  pub rows-exactly : Exactly g b (matches_of b got)
  rows-exactly = record { exact = rows-exact; ordered = rows-ordered b got (λ u l. (whole.candidates u l).strict) }
