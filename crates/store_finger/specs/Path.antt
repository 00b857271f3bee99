-- A path: the steps of a search that are kept, and what they say of every later key.
use Rattle.std.specs.Prelude.{ℕ, ◌-◌, ◌≤◌, ◌<◌, true, false, cond, List, ◌≡◌, eqb, get_or, None}
use Rattle.rules.specs.Store.{groups_in}
use Rattle.rules.specs.Listing.{precedes, low_of}
use Rattle.rules.specs.declared.Key.{Key}
use Rattle.laws.specs.Halving.{HalvingLeft}
use Rattle.store_finger.specs.Order.{key_less, passes}
use Rattle.store_finger.specs.declared.Span.{Span}
use Rattle.store_finger.specs.declared.Finger.{Finger}

-- what is left from here ends where the whole search for the key does
abbrev pub Left : List ℕ → Key → Span → Type 0
Left groups key at = HalvingLeft (precedes groups key) (groups_in groups) at.low at.high (low_of groups key)

-- a search for the key may stand here; and so does that for each key k not below it, if the least group passes it
pub record Reach (groups : List ℕ) (key : Key) (at : Span) : Type 0 where
  pub left : (k : Key) → key_less k key ≡ false → passes groups k at.least ≡ true → Left groups k at

-- the search for the key stands here
pub record PathGoing (groups : List ℕ) (key : Key) (at : Span) : Type 0 where
  pub left : Left groups key at
  pub reach : Reach groups key at

-- it stands nearer to its end
pub record Stepped (groups : List ℕ) (key : Key) (at next : Span) : Type 0 where
  pub going : PathGoing groups key next
  pub less : next.high - next.low < at.high - at.low

-- what stands behind the steps
abbrev pub no_step : Span
no_step = record { low = 0; high = 0; least = None }

-- where the search stands after n steps
unfoldable pub start_at : List ℕ → List Span → ℕ → Span
start_at groups steps n = cond (eqb n 0) (record { low = 0; high = groups_in groups; least = None }) (get_or steps (n - 1) no_step)

-- the first n steps are those of a search for the key
pub record Steps (groups : List ℕ) (key : Key) (steps : List Span) (n : ℕ) : Type 0 where
  pub step : (i : ℕ) → i < n → Reach groups key (get_or steps i no_step)

-- the steps that are kept are those of a search among these groups
pub record Path (groups : List ℕ) (finger : Finger) : Type 0 where
  pub few : finger.count ≤ 30
  pub steps : Steps groups finger.key finger.steps finger.count

-- no steps are kept
pub record Fresh (finger : Finger) : Type 0 where
  pub any : (groups : List ℕ) → Path groups finger

pub fresh-path : {groups : List ℕ} {finger : Finger} → Fresh finger → Path groups finger
fresh-path {groups} f = f.any groups

-- a step more is kept, or there was no room for it
pub record Pushed (before : Finger) (at : Span) (after : Finger) : Type 0 where
  pub same : after.key ≡ before.key
  pub keeps : (groups : List ℕ) → Path groups before → Reach groups before.key at → Path groups after

-- n of the kept steps serve the key
pub record Kept (groups : List ℕ) (key : Key) (kept : List Span) (n : ℕ) : Type 0 where
  pub few : n ≤ 30
  pub steps : Steps groups key kept n
  pub clear : 0 < n → passes groups key (get_or kept (n - 1) no_step).least ≡ true
