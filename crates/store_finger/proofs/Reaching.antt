-- Where searches for later keys stand: at the start, after a step to either side, and for a later key. Assumes nothing.
use native.Mathlib.Omega.{arith}
use native.Mathlib.Decide.{dec_le}
use mathlib.Core.Path.{◌≡◌, refl, sym, ap, ◌∙◌}
use mathlib.Core.Bool.{Bool, true, false, cond, not, true≢false}
use mathlib.Core.List.{List}
use Rattle.std.specs.Prelude.{Option, Some, None}
use Prim.Native.Nat.{ℕ, ◌+◌, ◌/◌, ◌≤◌, ◌<◌}
use borrow.Author.Tests.{le-leb, lt-leb, not-true, not-false}
use Rattle.rules.specs.Store.{groups_in}
use Rattle.rules.specs.Listing.{precedes, low_of}
use Rattle.rules.specs.declared.Key.{Key}
use Rattle.laws.specs.Halving.{half-start, half-up, half-down}
use Rattle.store_finger.specs.Order.{key_less, passes, lower_group}
use Rattle.store_lookup.specs.Keys.{group_key}
use Rattle.store_finger.specs.Path.{Reach, PathGoing, Stepped}
use Rattle.store_finger.specs.declared.Span.{Span}
use Rattle.store_finger.proofs.Ordering.{denied, key-through, key-apart, key-self, key-later}

module _ (groups : List ℕ) where
  -- a group precedes a key if its own key is below it
  by-key : (key : Key) (i : ℕ) → precedes groups key i ≡ key_less (group_key groups i) key
  unfolding precedes key_less group_key
  by-key key i = refl

  -- ---- what passes
  passes-none : (key : Key) (i : ℕ) → groups_in groups ≤ i → passes groups key (Some i) ≡ true
  unfolding passes
  passes-none key i h = rw (le-leb (groups_in groups) i h)

  passes-one : (key : Key) (i : ℕ) → i < groups_in groups → passes groups key (Some i) ≡ not (precedes groups key i)
  unfolding passes
  passes-one key i h = rw (lt-leb (groups_in groups) i h)

  pub passes-nothing : (key : Key) (o : Option ℕ) → o ≡ None → true ≡ passes groups key o
  unfolding passes
  passes-nothing key o e = rw e

  pub passes-absent : (key : Key) (o : Option ℕ) (i : ℕ) → o ≡ Some i → groups_in groups ≤ i → true ≡ passes groups key o
  passes-absent key o i e h = rw e (sym (passes-none key i h))

  pub passes-tested : (key : Key) (o : Option ℕ) (i : ℕ) (r : Bool) → o ≡ Some i → i < groups_in groups → r ≡ precedes groups key i → not r ≡ passes groups key o
  passes-tested key o i r e h q = rw e (ap not q ∙ sym (passes-one key i h))

  passes-says : (key : Key) (i : ℕ) → i < groups_in groups → passes groups key (Some i) ≡ true → precedes groups key i ≡ false
  passes-says key i h e = not-true _ (sym (passes-one key i h) ∙ e)

  -- what another key passes, if each group that precedes it precedes the other too
  passes-more : (j k : Key) (i : ℕ) → (precedes groups k i ≡ true → precedes groups j i ≡ true) → passes groups j (Some i) ≡ true → passes groups k (Some i) ≡ true
  passes-more j k i f e = go (dec_le (groups_in groups) i)
    where
      go : Dec (groups_in groups ≤ i) → passes groups k (Some i) ≡ true
      go (yes q) = passes-none k i q
      go (no q) =
          let h : i < groups_in groups = omega arith in
          let d : precedes groups k i ≡ false = denied _ (λ g. true≢false (sym (f g) ∙ passes-says j i h e)) in
          passes-one k i h ∙ ap not d

  fails-says : (key : Key) (i : ℕ) → passes groups key (Some i) ≡ false → (i < groups_in groups) × (precedes groups key i ≡ true)
  fails-says key i e = go (dec_le (groups_in groups) i)
    where
      go : Dec (groups_in groups ≤ i) → (i < groups_in groups) × (precedes groups key i ≡ true)
      go (yes q) = absurd (true≢false (sym (passes-none key i q) ∙ e))
      go (no q) = let h : i < groups_in groups = omega arith in (h, not-false _ (sym (passes-one key i h) ∙ e))

  -- ---- a group that precedes a key precedes each that is not below it
  stays : (key k : Key) (m : ℕ) → key_less k key ≡ false → precedes groups key m ≡ true → precedes groups k m ≡ true
  stays key k m h e = by-key k m ∙ key-through (group_key groups m) key k (sym (by-key key m) ∙ e) h

  pub lower-first : (m : ℕ) (o : Option ℕ) (key : Key) (r : Bool) → key ≡ group_key groups m → r ≡ passes groups key o → r ≡ true → Some m ≡ lower_group groups m o
  unfolding lower_group
  lower-first m o key r e q h = rw (← e, ← q, h)

  pub lower-second : (m : ℕ) (o : Option ℕ) (key : Key) (r : Bool) → key ≡ group_key groups m → r ≡ passes groups key o → r ≡ false → o ≡ lower_group groups m o
  unfolding lower_group
  lower-second m o key r e q h = rw (← e, ← q, h)

  -- what the lower of two groups says of both
  lower-says : (k : Key) (m : ℕ) (o : Option ℕ) → m < groups_in groups → passes groups k (lower_group groups m o) ≡ true
      → (precedes groups k m ≡ false) × (passes groups k o ≡ true)
  unfolding lower_group passes
  lower-says k m None h e = (passes-says k m h e, refl)
  lower-says k m (Some i) h e = go (passes groups (group_key groups m) (Some i)) refl e
    where
      go : (t : Bool) → passes groups (group_key groups m) (Some i) ≡ t → passes groups k (cond t (Some m) (Some i)) ≡ true
          → (precedes groups k m ≡ false) × (passes groups k (Some i) ≡ true)
      go true p e =
          let d : precedes groups k m ≡ false = passes-says k m h e in (
            d,
            passes-more (group_key groups m) k i
                (λ g. by-key (group_key groups m) i ∙ key-through (group_key groups i) k (group_key groups m) (sym (by-key k i) ∙ g) (sym (by-key k m) ∙ d)) p,
          )
      go false p e =
          let f = fails-says (group_key groups m) i p in
          let l : i < groups_in groups = f.0 in
          let q : key_less (group_key groups i) (group_key groups m) ≡ true = sym (by-key (group_key groups m) i) ∙ f.1 in
          let below : precedes groups k m ≡ true → key_less (group_key groups m) (group_key groups i) ≡ true =
          λ g. key-through (group_key groups m) k (group_key groups i) (sym (by-key k m) ∙ g) (sym (by-key k i) ∙ passes-says k i l e) in
          (denied (precedes groups k m) (λ g. true≢false (sym (below g) ∙ key-apart (group_key groups i) (group_key groups m) q)), e)

  -- ---- where searches stand
  pub reach-start : (key : Key) (n : Option ℕ) → Reach groups key (record { low = 0; high = groups_in groups; least = n })
  unfolding low_of
  reach-start key n = record { left = λ k h p. half-start (precedes groups k) (groups_in groups) }

  pub reach-later : {key k : Key} {at : Span} → Reach groups key at → key_less k key ≡ false → Reach groups k at
  reach-later {key} {k} r h = record { left = λ j g p. r.left j (key-later key k j h g) p }

  pub reach-going : {key : Key} {at : Span} → Reach groups key at → passes groups key at.least ≡ true → PathGoing groups key at
  reach-going {key} r p = record { left = r.left key (key-self key) p; reach = r }

-- ---- a step, with the test that the code has made
module _ {groups : List ℕ} {key : Key} {at : Span} (g : PathGoing groups key at) (h : at.low < at.high) (r : Bool) (q : r ≡ precedes groups key ((at.low + at.high) / 2)) where
  pub step-up : r ≡ true → Stepped groups key at (record { low = (at.low + at.high) / 2 + 1; high = at.high; least = at.least })
  step-up e =
      let ahead : (k : Key) → key_less k key ≡ false → precedes groups k ((at.low + at.high) / 2) ≡ true = λ k l. stays groups key k _ l (sym q ∙ e) in
      record {
        going = record {
          left = half-up g.left h q e;
          reach = record { left = λ k l p. half-up (g.reach.left k l p) h (sym (ahead k l)) refl };
        };
        less = omega (arith, g.left.ordered);
      }

  pub step-down : (n : Option ℕ) → n ≡ lower_group groups ((at.low + at.high) / 2) at.least → r ≡ false
      → Stepped groups key at (record { low = at.low; high = (at.low + at.high) / 2; least = n })
  step-down n d e =
      let inside : (at.low + at.high) / 2 < groups_in groups = omega (arith, g.left.ordered, g.left.within) in
      let says : (k : Key) → passes groups k n ≡ true → (precedes groups k ((at.low + at.high) / 2) ≡ false) × (passes groups k at.least ≡ true) =
      λ k p. lower-says groups k _ at.least inside (ap (passes groups k) (sym d) ∙ p) in
      record {
        going = record {
          left = half-down g.left h q e;
          reach = record { left = λ k l p. let s = says k p in half-down (g.reach.left k l s.1) h (sym s.0) refl };
        };
        less = omega (arith, g.left.ordered);
      }
