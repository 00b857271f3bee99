-- The steps that are kept: which serve a key, and that they stay where one more is kept. Assumes nothing.
use Rattle.std.proofs.Common.{◌≡◌, None, ℕ, ◌+◌, ◌-◌, ◌≤◌, ◌<◌, Bool, true, false, List, length, get_or, set, refl, sym, ap, ◌∙◌, arith, eq-eqb, ne_eqb, get_or-set_same, get_or-set_other, rules}
use native.Mathlib.Decide.{dec_le}
use Rattle.std.specs.Ordering.{partial_lt}
use Rattle.rules.specs.Store.{most_groups, groups_in}
use Rattle.rules.specs.Listing.{Found, low_of, found_at, found}
use Rattle.rules.specs.declared.Key.{Key}
use Rattle.rules.specs.contracts.KeyPartialOrd as order
use Rattle.store_lookup.proofs.Ordered.{key-less}
use Rattle.store_finger.specs.Order.{key_less, passes}
use Rattle.store_finger.specs.Path.{Reach, PathGoing, Steps, Path, Fresh, Pushed, Kept, no_step, start_at}
use Rattle.store_finger.specs.declared.Span.{Span}
use Rattle.store_finger.specs.declared.Finger.{Finger}
use Rattle.store_finger.proofs.Reaching.{passes-nothing, passes-absent, passes-tested, lower-first, lower-second, step-up, step-down, reach-start, reach-later, reach-going}

-- ---- a step is kept
pub pushed : (before : Finger) (at : Span) → length before.steps ≡ 30 → before.count < 30
    → Pushed before at (record { count = before.count + 1; key = before.key; steps = set before.steps before.count at })
pushed before at long h = record {
  same = refl;
  keeps = λ groups p r. record { few = omega arith; steps = record { step = λ i k. go groups p r i k (dec_le before.count i) } };
}
  where
    go : (groups : List ℕ) → Path groups before → Reach groups before.key at → (i : ℕ) → i < before.count + 1 → Dec (before.count ≤ i)
        → Reach groups before.key (get_or (set before.steps before.count at) i no_step)
    go groups p r i k (yes q) =
        let here : i ≡ before.count = omega arith in
        rw (here, get_or-set_same before.steps before.count at no_step (omega arith)) r
    go groups p r i k (no q) = rw (get_or-set_other before.steps before.count i at no_step (λ e. omega arith)) (p.steps.step i (omega arith))

pub full : (before : Finger) (at : Span) → Pushed before at before
full before at = record { same = refl; keeps = λ groups p r. p }

-- ---- where a search starts
module _ (groups : List ℕ) (steps : List Span) (n : ℕ) where
  start-none : n ≡ 0 → start_at groups steps n ≡ record { low = 0; high = groups_in groups; least = None }
  unfolding start_at
  start-none e = rw (eq-eqb n 0 e)

  start-some : 0 < n → start_at groups steps n ≡ get_or steps (n - 1) no_step
  unfolding start_at
  start-some h = rw (ne_eqb n 0 (λ e. omega arith))

-- ---- which steps serve a key
module _ {groups : List ℕ} {key : Key} {steps : List Span} {n : ℕ} where
  steps-fewer : Steps groups key steps n → (m : ℕ) → m ≤ n → Steps groups key steps m
  steps-fewer s m h = record { step = λ i k. s.step i (omega arith) }

  steps-later : {k : Key} → Steps groups key steps n → key_less k key ≡ false → Steps groups k steps n
  steps-later s h = record { step = λ i k. reach-later groups (s.step i k) h }

  pub kept-going : groups_in groups ≤ most_groups → Kept groups key steps n → PathGoing groups key (start_at groups steps n)
  kept-going h k = go (dec_le n 0)
    where
      go : Dec (n ≤ 0) → PathGoing groups key (start_at groups steps n)
      go (yes q) =
          rw (start-none groups steps n (omega arith)) (reach-going groups (reach-start groups key None) (sym (passes-nothing groups key None refl)))
      go (no q) = rw (start-some groups steps n (omega arith)) (reach-going groups (k.steps.step (n - 1) (omega arith)) (k.clear (omega arith)))

  -- the first k steps, the last of which passes: r is what the test gave
  pub kept-some : (k : ℕ) (r : Bool) → Steps groups key steps n → n ≤ 30 → k < n → r ≡ passes groups key (get_or steps k no_step).least → r ≡ true
      → Kept groups key steps (k + 1)
  kept-some k r s few h q e =
      let same : k + 1 - 1 ≡ k = omega arith in
      record { few = omega arith; steps = steps-fewer s (k + 1) (omega arith); clear = λ z. rw same (sym q ∙ e) }

pub kept-none : (groups : List ℕ) (key : Key) (steps : List Span) → Kept groups key steps 0
kept-none groups key steps = record { few = omega arith; steps = record { step = λ i h. absurd (omega arith) }; clear = λ h. absurd (omega arith) }

pub path-fresh : (finger : Finger) → finger.count ≡ 0 → Fresh finger
path-fresh finger e = record { any = λ groups. record { few = omega arith; steps = record { step = λ i k. absurd (omega (arith, e, k)) } } }

-- a key that is not below the last one: r is what the test gave
pub kept-steps : {groups : List ℕ} {finger : Finger} (key : Key) (r : Bool) → Path groups finger → r ≡ partial_lt (order.TheImpl.partial_cmp-value).it key finger.key → r ≡ false
    → Steps groups key finger.steps finger.count
unfolding key_less
kept-steps {finger = finger} key r p q h = steps-later p.steps (sym (key-less key finger.key) ∙ sym q ∙ h)

pub found-from : (groups : List ℕ) (key : Key) (i : ℕ) (r : Found) → i ≡ low_of groups key → r ≡ found_at groups key i → r ≡ found groups key
unfolding found
found-from groups key i r e q = q ∙ ap (found_at groups key) e

-- what closes the needs of this crate
pub ruleset keeping = (passes-nothing, passes-absent, passes-tested, lower-first, lower-second, step-up, step-down, pushed, full, kept-none, kept-some, kept-steps, kept-going, found-from, path-fresh, rules)
