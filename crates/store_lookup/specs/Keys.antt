-- The key of a group, as its record gives it.
use Rattle.std.specs.Prelude.{ℕ, ◌+◌, ◌*◌, List}
use Rattle.rules.specs.Words.{u32_at}
use Rattle.rules.specs.declared.Key.{Key}

-- the key of group i
unfoldable pub group_key : List ℕ → ℕ → Key
group_key groups i = record {
  constraint = u32_at groups (i * 24);
  first = u32_at groups (i * 24 + 4);
  second = u32_at groups (i * 24 + 8);
  third = u32_at groups (i * 24 + 12);
}
