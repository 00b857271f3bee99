-- Rows of ids as text, written one after the other. Assumes nothing.
use Prim.Native.Nat.{ℕ, zero, suc, ◌+◌, ◌-◌, ◌*◌, ◌≤◌, ◌<◌}
use native.Mathlib.Omega.{arith}
use native.Mathlib.Nat.{suc-mul}
use native.Mathlib.Numerals.{add-one}
use mathlib.Core.Path.{◌≡◌, refl, ap}
use mathlib.Core.List.{List, [], ◌∷◌, ◌++◌}
use lib.ListN.{length, get_or, take, drop, length-append, length-take, length-drop, drop_of_length-le}
use lib.Seq.{drop-cons, drop-drop, take_all}
use Rattle.run_text.specs.Text.{decimal}
use Rattle.laws.specs.Writing.{Wrote, Writing, writing-start, writing-next, writing-done, wrote-then}
use Rattle.run_text.specs.TextLaws.{named-short, decimal-short}
use Rattle.run_panel.specs.Panel.{answer_text, spaced, line, lines}

-- ---- the line of the answer
-- a name and a number, written, and how far it may reach
abbrev Named : List ℕ → ℕ → List ℕ → ℕ → List ℕ → ℕ → Type 0
Named before at name n after past = Wrote before at (name ++ decimal n) after past × (past ≤ at + length name + 20)

pub answer-written : {before a b c d e after : List ℕ} {i j k l m past : ℕ} (number x nodes y edges z bound w matches : ℕ) → 138 ≤ length before
    → x ≡ number → y ≡ nodes → z ≡ edges → w ≡ bound
    → Named before 0 (97 ∷ 110 ∷ 115 ∷ 119 ∷ 101 ∷ 114 ∷ 32 ∷ []) x a i
    → Named a i (32 ∷ 109 ∷ 97 ∷ 116 ∷ 99 ∷ 104 ∷ 101 ∷ 115 ∷ 32 ∷ []) matches b j
    → Named b j (32 ∷ 110 ∷ 111 ∷ 100 ∷ 101 ∷ 115 ∷ 32 ∷ []) y c k
    → Named c k (32 ∷ 101 ∷ 100 ∷ 103 ∷ 101 ∷ 115 ∷ 32 ∷ []) z d l
    → Named d l (32 ∷ 98 ∷ 111 ∷ 117 ∷ 110 ∷ 100 ∷ 32 ∷ []) w e m
    → Wrote e m (10 ∷ []) after past
    → Wrote before 0 (answer_text number matches nodes edges bound) after past × (past ≤ 138)
unfolding answer_text
answer-written number x nodes y edges z bound w matches h p q r s one two three four five six =
    let i2 = wrote-then _ _ _ _ _ one.0 (omega (arith, one.1)) _ _ _ two.0 in
    let i3 = wrote-then _ _ _ _ _ i2 (omega (arith, one.1, two.1)) _ _ _ three.0 in
    let i4 = wrote-then _ _ _ _ _ i3 (omega (arith, one.1, two.1, three.1)) _ _ _ four.0 in
    let i5 = wrote-then _ _ _ _ _ i4 (omega (arith, one.1, two.1, three.1, four.1)) _ _ _ five.0 in
    let i6 = wrote-then _ _ _ _ _ i5 (omega (arith, one.1, two.1, three.1, four.1, five.1)) _ _ _ six in
    (rw (p, q, r, s) at i6, omega (arith, one.1, two.1, three.1, four.1, five.1, six.place))

-- ---- ids, a space before each
pub record SpacedLeft (before : List ℕ) (at : ℕ) (ids out : List ℕ) (past i : ℕ) : Type 0 where
  pub some : i ≤ length ids
  pub writing : Writing before at (spaced ids) (spaced (drop i ids)) out past
  pub room : past + 21 * (length ids - i) ≤ length before

pub spaced-start : (before : List ℕ) (at : ℕ) (ids : List ℕ) → at + 21 * length ids ≤ length before → SpacedLeft before at ids before at 0
spaced-start before at ids h = record { some = omega arith; writing = writing-start before at (spaced ids); room = omega arith }

module _ {before : List ℕ} {at : ℕ} {ids out : List ℕ} {past i : ℕ} (s : SpacedLeft before at ids out past i) where
  pub spaced-next : i < length ids → (x : ℕ) → x ≡ get_or ids i 0 → (after : List ℕ) (next : ℕ) → Wrote out past ((32 ∷ []) ++ decimal x) after next → SpacedLeft before at ids after next (i + 1)
  unfolding spaced
  spaced-next h x e after next w =
      let short = named-short (32 ∷ []) x in
      let text : spaced (drop i ids) ≡ ((32 ∷ []) ++ decimal x) ++ spaced (drop (i + 1) ids) = rw (add-one, drop-cons ids i 0 h, e) in
      let writing : Writing before at (spaced ids) (((32 ∷ []) ++ decimal x) ++ spaced (drop (i + 1) ids)) out past = rw text at s.writing in
      record {
        some = omega arith;
        writing = writing-next writing (omega (arith, s.room, s.writing.size)) w;
        room = omega (arith, s.room, w.place);
      }

  pub spaced-done : length ids ≤ i → Wrote before at (spaced ids) out past
  unfolding spaced
  spaced-done h =
      let none : spaced (drop i ids) ≡ [] = rw (drop_of_length-le ids {i = i} h) in
      let writing : Writing before at (spaced ids) [] out past = rw none at s.writing in
      writing-done writing

spaced-short : (xs : List ℕ) → length (spaced xs) ≤ 21 * length xs
unfolding spaced
spaced-short [] = omega arith
spaced-short (x ∷ xs) =
    omega (arith, length-append ((32 ∷ []) ++ decimal x) (spaced xs), named-short (32 ∷ []) x, spaced-short xs)

-- ---- the line of a row
line-of : (ids : List ℕ) → 1 ≤ length ids → line ids ≡ decimal (get_or ids 0 0) ++ spaced (drop 1 ids) ++ (10 ∷ [])
unfolding line
line-of [] h = absurd (omega arith)
line-of (x ∷ xs) h = refl

pub line-short : (ids : List ℕ) → 1 ≤ length ids → length (line ids) ≤ 21 * length ids
line-short ids h =
    rw line-of
    (omega (arith, length-append (decimal (get_or ids 0 0) ++ spaced (drop 1 ids)) (10 ∷ []), length-append (decimal (get_or ids 0 0)) (spaced (drop 1 ids)), decimal-short (get_or ids 0 0), spaced-short (drop 1 ids), length-drop 1 ids))

-- what comes after the first id, as a part of the row
abbrev rest : List ℕ → List ℕ
rest ids = take (length ids - 1) (drop 1 ids)

rest-is : (ids : List ℕ) → rest ids ≡ drop 1 ids
rest-is ids = take_all (length ids - 1) (drop 1 ids) (omega (arith, length-drop 1 ids))

module _ {before a : List ℕ} {at i : ℕ} (ids : List ℕ) (some : 1 ≤ length ids) (fits : at + 21 * length ids ≤ length before) (x : ℕ) (e : x ≡ get_or ids 0 0)
    (one : Wrote before at (decimal x) a i) where
  rest-length : length (rest ids) + 1 ≡ length ids
  rest-length = omega (arith, ap length (rest-is ids), length-drop 1 ids)

  pub first-room : i + 21 * length (rest ids) ≤ length a
  first-room = omega (arith, one.place, one.size, decimal-short x, rest-length)

  module _ {b : List ℕ} {j : ℕ} (two : Wrote a i (spaced (rest ids)) b j) where
    pub spaced-room : j + 1 ≤ length b
    spaced-room = omega (arith, one.place, one.size, two.place, two.size, decimal-short x, spaced-short (rest ids), rest-length)

    pub line-written : {after : List ℕ} {past : ℕ} → Wrote b j (10 ∷ []) after past → Wrote before at (line ids) after past
    line-written three =
        let i2 = wrote-then _ _ _ _ _ one (omega (arith, first-room, one.size)) _ _ _ two in
        let i3 = wrote-then _ _ _ _ _ i2 (omega (arith, spaced-room, one.size, two.size)) _ _ _ three in
        rw (line-of ids some, ← e, ← rest-is ids) i3

-- ---- the lines of rows
pub record LinesLeft (before : List ℕ) (at : ℕ) (ids : List ℕ) (p n : ℕ) (out : List ℕ) (past from left : ℕ) : Type 0 where
  pub some : from + left * p ≤ length ids
  pub writing : Writing before at (lines p n ids) (lines p left (drop from ids)) out past
  pub room : past + 21 * (left * p) ≤ length before

pub lines-start : (before : List ℕ) (at : ℕ) (ids : List ℕ) (p n : ℕ) → n * p ≤ length ids → at + 21 * (n * p) ≤ length before → LinesLeft before at ids p n before at 0 n
lines-start before at ids p n h r = record { some = omega arith; writing = writing-start before at (lines p n ids); room = r }

one-more : (p left : ℕ) → 0 < left → left * p ≡ p + (left - 1) * p
one-more p zero h = absurd (omega arith)
one-more p (suc k) h =
    let e : suc k - 1 ≡ k = omega arith in
    rw (e, suc-mul k p) (omega arith)

lines-more : (p left : ℕ) (ids : List ℕ) → 0 < left → lines p left ids ≡ line (take p ids) ++ lines p (left - 1) (drop p ids)
unfolding lines
lines-more p zero ids h = absurd (omega arith)
lines-more p (suc k) ids h =
    let e : suc k - 1 ≡ k = omega arith in
    rw e

-- the row that comes next, as a part of the ids
abbrev row : List ℕ → ℕ → ℕ → List ℕ
row ids from p = take (from + p - from) (drop from ids)

module _ {before : List ℕ} {at : ℕ} {ids : List ℕ} {p n : ℕ} {out : List ℕ} {past from left : ℕ} (s : LinesLeft before at ids p n out past from left) (h : 0 < left) where
  pub row-inside : from + p ≤ length ids
  row-inside = omega (arith, s.some, one-more p left h)

  row-length : length (row ids from p) ≡ p
  row-length = simp (length-take, length-drop) (omega (arith, row-inside))

  pub row-room : 1 ≤ p → (1 ≤ length (row ids from p)) × (past + 21 * length (row ids from p) ≤ length out)
  row-room q = (omega (arith, row-length), omega (arith, row-length, s.room, s.writing.size, one-more p left h))

  pub lines-next : 1 ≤ p → {after : List ℕ} {next : ℕ} → Wrote out past (line (row ids from p)) after next → LinesLeft before at ids p n after next (from + p) (left - 1)
  lines-next q {after} {next} w =
      let size : from + p - from ≡ p = omega arith in
      let text : lines p left (drop from ids) ≡ line (row ids from p) ++ lines p (left - 1) (drop (from + p) ids) = rw (size, lines-more p left (drop from ids) h, drop-drop) in
      let writing : Writing before at (lines p n ids) (line (row ids from p) ++ lines p (left - 1) (drop (from + p) ids)) out past = rw text at s.writing in
      let short = line-short (row ids from p) (row-room q).0 in
      record {
        some = omega (arith, s.some, one-more p left h);
        writing = writing-next writing (omega (arith, (row-room q).1, short)) w;
        room = omega (arith, s.room, w.place, short, row-length, one-more p left h);
      }

pub lines-done : {before : List ℕ} {at : ℕ} {ids : List ℕ} {p n : ℕ} {out : List ℕ} {past from left : ℕ} → LinesLeft before at ids p n out past from left → left ≡ 0 → Wrote before at (lines p n ids) out past × (past ≤ length out)
unfolding lines
lines-done {before} {at} {ids} {p} {n} {out} {past} s e =
    let writing : Writing before at (lines p n ids) [] out past = rw e at s.writing in
    (writing-done writing, omega (arith, s.room, s.writing.size))
