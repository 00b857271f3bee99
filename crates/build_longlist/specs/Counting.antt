-- Counting how often each node is met among the neighbours of a list.
use Rattle.std.specs.Prelude.{ℕ, ◌+◌, ◌≤◌, ◌<◌, ◌≡◌, Bool, true, List, eqb, ltb, length, get_or}
use Rattle.rules.specs.Lists.{any, keep, has}
use Rattle.build_edges.specs.Packed.{word_in, labelled_in}
use Rattle.laws.specs.Lows.{lows}
use Rattle.build_edges.specs.Near.{is_labelled}

-- some node labelled s is joined with more than t nodes of a list
unfoldable pub long_last : List ℕ → List ℕ → ℕ → ℕ → List ℕ → Bool
long_last nodes joined s t list = any (λ u. ltb t (length (keep (word_in joined u) list))) (labelled_in nodes s)

-- how often u is among the numbers
unfoldable pub times : ℕ → List ℕ → ℕ
times u l = length (keep (λ z. eqb z u) l)

-- all of a list are below 65,535
abbrev pub Inside : List ℕ → Type 0
Inside list = (v : ℕ) → has v list ≡ true → v < 65535

-- no node labelled s is counted more than t times
pub record Low (nodes : List ℕ) (s t : ℕ) (counts : List ℕ) : Type 0 where
  pub low : (u : ℕ) → is_labelled nodes s u ≡ true → get_or counts u 0 ≤ t

-- the low halves of words can be counted within 32 bits
pub record Spare (words counts : List ℕ) : Type 0 where
  pub fits : (u : ℕ) → u < 65536 → get_or counts u 0 + times u (lows words) < 4294967296

-- the low halves of words are counted
pub record Added (words before after : List ℕ) : Type 0 where
  pub each : (u : ℕ) → u < 65536 → get_or after u 0 ≡ get_or before u 0 + times u (lows words)

-- with the low halves of words, a node labelled s is counted more than t times
pub record Above (nodes : List ℕ) (s t : ℕ) (words counts : List ℕ) : Type 0 where
  pub node : ℕ
  pub inside : node < 65536
  pub labelled : is_labelled nodes s node ≡ true
  pub above : t < get_or counts node 0 + times node (lows words)
