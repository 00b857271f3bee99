-- Each call's promise is that its outcome is the one its definition gives. So two outcomes that the promise allows for the same input are equal. Assumes nothing.
use Rattle.std.specs.Prelude.{◌≡◌, List, ℕ}
use Rattle.rules.specs.Answers.{Outcome, build_outcome, admit_outcome, plan_outcome, list_outcome}
use Rattle.laws.specs.Determined.{determined}

-- building: two outcomes allowed for the same draft and the same room are equal
pub building-determined : (draft room : List ℕ) (o p : Outcome) → o ≡ build_outcome draft room → p ≡ build_outcome draft room → o ≡ p
building-determined draft room o p x y = determined {gives = build_outcome draft} {input = room} record { kept = x } record { kept = y }

-- admitting: two outcomes allowed for the same store are equal
pub admitting-determined : (s : List ℕ) (o p : Outcome) → o ≡ admit_outcome s → p ≡ admit_outcome s → o ≡ p
admitting-determined s o p x y = determined {gives = admit_outcome} {input = s} record { kept = x } record { kept = y }

-- planning: two outcomes allowed for the same store, pattern and room are equal
pub planning-determined : (s b room : List ℕ) (o p : Outcome) → o ≡ plan_outcome s b room → p ≡ plan_outcome s b room → o ≡ p
planning-determined s b room o p x y = determined {gives = plan_outcome s b} {input = room} record { kept = x } record { kept = y }

-- listing: two outcomes allowed for the same store, pattern, working room and room are equal
pub listing-determined : (s b work room : List ℕ) (o p : Outcome) → o ≡ list_outcome s b work room → p ≡ list_outcome s b work room → o ≡ p
listing-determined s b work room o p x y = determined {gives = list_outcome s b work} {input = room} record { kept = x } record { kept = y }
