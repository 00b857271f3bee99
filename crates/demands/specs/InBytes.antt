-- What it is for a group to be a key's, a word of proofs/InBytes. Nothing is proved here.
use Rattle.std.specs.Prelude.{List}
use Prim.Native.Nat.{ℕ, ◌<◌}
use Rattle.rules.specs.Store.{constraints_in, constraint_at}
use Rattle.rules.specs.Graph.{Graph}
use Rattle.rules.specs.Index.{Group}
use Rattle.laws.specs.KeyLists.{IsKey}

-- ---- the groups of an index are groups of keys
pub record OfKey (g : Graph) (constraints : List ℕ) (x : Group) : Type 0 where
  pub below : x.constraint < constraints_in constraints
  pub key : IsKey g (constraint_at constraints x.constraint) x.key
