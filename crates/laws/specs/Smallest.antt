-- Laws of `smallest`: the smallest of two runs of ways, and the invariant of a loop that keeps the best way so far. Assumes nothing.
use Rattle.std.specs.Prelude.{◌≡◌, refl, Bool, true, false, cond, ltb, length}
use Rattle.std.proofs.Math.Path.{sym}
use Rattle.std.proofs.Common.{ap, ◌∙◌, lt-ltb, le-ltb}
use mathlib.Core.List.{List, [], ◌∷◌, ◌++◌, flat_map}
use Rattle.std.proofs.Math.Option.{Option, some, none, some-injective}
use Prim.Native.Nat.{ℕ, suc, ◌+◌, ◌-◌, ◌≤◌, ◌<◌}
use Rattle.std.proofs.Math.Decide.{dec_le}
use Rattle.std.proofs.Math.Nat.{sub-zero}
use native.Mathlib.Omega.{arith}
use Rattle.rules.specs.Lists.{range, all}
use Rattle.rules.specs.Plan.{smaller, smallest}
use Rattle.rules.specs.declared.Row.{Row}
use Rattle.laws.specs.Every.{Every}
use Rattle.laws.specs.All.{all-first}

-- the better of two: the second only if its figure is smaller
abbrev pub better : Option Row → Option Row → Option Row
better none o = o
better (some r) o = some (smaller r o)

smaller-some : (x y z : Row) → smaller x (some (smaller y (some z))) ≡ smaller (smaller x (some y)) (some z)
unfolding smaller
smaller-some x y z = go (dec_le y.figure z.figure) (dec_le x.figure y.figure) (dec_le x.figure z.figure)
  where
    go : Dec (y.figure ≤ z.figure) → Dec (x.figure ≤ y.figure) → Dec (x.figure ≤ z.figure)
        → smaller x (some (smaller y (some z))) ≡ smaller (smaller x (some y)) (some z)
    go (yes a) (yes b) c = rw (le-ltb z.figure y.figure a, le-ltb y.figure x.figure b, le-ltb z.figure x.figure (omega arith))
    go (yes a) (no b) c = rw (le-ltb z.figure y.figure a, lt-ltb y.figure x.figure (omega arith), le-ltb z.figure y.figure a)
    go (no a) (yes b) (yes c) = rw (lt-ltb z.figure y.figure (omega arith), le-ltb y.figure x.figure b, le-ltb z.figure x.figure c)
    go (no a) (yes b) (no c) = rw (lt-ltb z.figure y.figure (omega arith), le-ltb y.figure x.figure b, lt-ltb z.figure x.figure (omega arith))
    go (no a) (no b) c = rw (lt-ltb z.figure y.figure (omega arith), lt-ltb y.figure x.figure (omega arith), lt-ltb z.figure x.figure (omega arith), lt-ltb z.figure y.figure (omega arith))

pub better-assoc : (a b c : Option Row) → better a (better b c) ≡ better (better a b) c
unfolding smaller
better-assoc none b c = refl
better-assoc (some x) none c = refl
better-assoc (some x) (some y) none = refl
better-assoc (some x) (some y) (some z) = ap some (smaller-some x y z)

pub better-none : (a : Option Row) → better a none ≡ a
unfolding smaller
better-none none = refl
better-none (some x) = refl

-- the smallest of two runs is the better of their smallest
pub smallest-append : (xs ys : List Row) → smallest (xs ++ ys) ≡ better (smallest xs) (smallest ys)
unfolding smallest
smallest-append [] ys = refl
smallest-append (x ∷ xs) ys =
    ap (λ o. some (smaller x o)) (smallest-append xs ys) ∙ better-assoc (some x) (smallest xs) (smallest ys)

-- a loop over 0, 1, .., n - 1 that takes the better way each time: at k, what is left decides the whole
pub record BestLeft (f : ℕ → List Row) (n k : ℕ) (best whole : Option Row) : Type 0 where
  pub within : k ≤ n
  pub rest : whole ≡ better best (smallest (flat_map f (range k (n - k))))

pub best-start : (f : ℕ → List Row) (n : ℕ) → BestLeft f n 0 none (smallest (flat_map f (range 0 n)))
best-start f n = record { within = omega arith; rest = rw sub-zero }

module _ {f : ℕ → List Row} {n k : ℕ} {best whole : Option Row} (inv : BestLeft f n k best whole) where
  pub best-next : (next : Option Row) → k < n → next ≡ better best (smallest (f k)) → BestLeft f n (k + 1) next whole
  unfolding range flat_map
  best-next next h e =
      let m : n - k ≡ suc (n - (k + 1)) = omega arith in
      record {
        within = omega arith;
        rest =
            inv.rest
            ∙ rw m (ap (better best) (smallest-append (f k) (flat_map f (range (k + 1) (n - (k + 1)))))
            ∙ better-assoc best (smallest (f k)) (smallest (flat_map f (range (k + 1) (n - (k + 1)))))
            ∙ rw (sym e));
      }

  pub best-done : n ≤ k → best ≡ whole
  unfolding range flat_map smallest
  best-done h =
      let m : n - k ≡ 0 = omega arith in
      sym (inv.rest ∙ rw m (better-none best))

-- ---- the smallest way is one of the ways
-- there is a smallest way unless there is no way
pub smallest-none : (ws : List Row) → smallest ws ≡ none → ws ≡ []
unfolding smallest
smallest-none [] e = refl
smallest-none (r ∷ ws) e = let z : ◌≡◌ {A = ℕ} 0 1 = cc in absurd (omega arith)

-- and no way is the smallest of none
pub smallest-some : (ws : List Row) (r : Row) → smallest ws ≡ some r → length ws ≡ 0 → ⊥
unfolding smallest
smallest-some [] r e h = let z : ◌≡◌ {A = ℕ} 0 1 = cc in omega arith
smallest-some (w ∷ ws) r e h = omega arith

-- what holds of every way holds of the smallest
pub smallest-all : (p : Row → Bool) (ws : List Row) (r : Row) → all p ws ≡ true → smallest ws ≡ some r → p r ≡ true
unfolding smallest smaller
smallest-all p [] r h e = let z : ◌≡◌ {A = ℕ} 0 1 = cc in absurd (omega arith)
smallest-all p (w ∷ ws) r h e = first-or-rest (smallest ws) refl (some-injective (smaller w (smallest ws)) r e) (all-first p w ws h) (smallest-all p ws)
  where
    first-or-rest : (o : Option Row) → smallest ws ≡ o → smaller w (smallest ws) ≡ r → (p w ≡ true) × (all p ws ≡ true)
        → ((q : Row) → all p ws ≡ true → smallest ws ≡ some q → p q ≡ true) → p r ≡ true
    first-or-rest none eo er h ih = ap p (sym er ∙ ap (smaller w) eo) ∙ h.0
    first-or-rest (some q) eo er h ih = ap p (sym er ∙ ap (smaller w) eo) ∙ either (ltb q.figure w.figure) h.0 (ih q h.1 eo)
      where
        either : (t : Bool) → p w ≡ true → p q ≡ true → p (cond t q w) ≡ true
        either true a c = c
        either false a c = a

abbrev pub Held : (Row → Type 0) → Option Row → Type 0
Held P none = Unit {0}
Held P (some r) = P r

pub held : (P : Row → Type 0) (ws : List Row) → Every P ws → Held P (smallest ws)
unfolding smallest smaller Every
held P [] h = tt
held P (w ∷ ws) h = go (smallest ws) (held P ws h.1)
  where
    pick : (q : Row) (t : Bool) → P q → P (cond t q w)
    pick q true k = k
    pick q false k = h.0

    go : (o : Option Row) → Held P o → P (smaller w o)
    go none k = h.0
    go (some q) k = pick q (ltb q.figure w.figure) k

pub smallest-every : (P : Row → Type 0) (ws : List Row) → Every P ws → (r : Row) → smallest ws ≡ some r → P r
smallest-every P ws h r e = rw e at (held P ws h)
