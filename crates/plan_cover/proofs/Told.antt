-- What the tests of these functions come to. Assumes nothing.
use mathlib.Core.Path.{◌≡◌, refl, sym, ap, ◌∙◌}
use mathlib.Core.Bool.{Bool, ◌&&◌}
use mathlib.Core.List.{List}
use mathlib.Core.Option.{some, none}
use Prim.Native.Nat.{ℕ, zero, suc, ◌+◌, ◌-◌, ◌≤◌, ◌<◌}
use native.Mathlib.Decide.{ℕ_discrete}
use native.Mathlib.Nat.{sub-zero}
use native.Mathlib.Omega.{arith}
use lib.ListN.{length, get_or, set, replicate, length-set}
use lib.Seq.{get_or-set_same, get_or-set_other}
use Rattle.rules.specs.Lists.{all_from}
use Rattle.rules.specs.Pattern.{size_of, edges_of}
use Rattle.rules.specs.Plan.{no_figures, covered, smallest, all_ways, edge_ways, edge_covered, all_covered}
use Rattle.laws.specs.Covering.{cover_from, cover-next, cover-still, cover-zero, next-says, edge-some, edge-none, all-covered, ones-most}
use Rattle.plan_ways.specs.Ways.{way_in, Small}
use Rattle.rules.specs.declared.Row.{Row}
use Rattle.std.specs.Prelude.{Some, None, is_some}
use Rattle.std.specs.Prelude as code
use Rattle.plan_ways.specs.Given.{Given}
use Rattle.plan_cover.specs.Ones.{ones}

-- an edge is covered if a way was found
pub edge-told : (constraints b figures : List ℕ) (j : ℕ) (w : code.Option Row) → way_in w ≡ smallest (edge_ways constraints b figures j) → is_some w ≡ edge_covered constraints b figures j
edge-told constraints b figures j None e = sym (edge-none constraints b figures j (sym e))
edge-told constraints b figures j (Some r) e = sym (edge-some constraints b figures j r (sym e))

-- ---- covering, step by step: what is left covers what the whole does
pub record CoverLeft (constraints b : List ℕ) (i : ℕ) (figures : List ℕ) : Type 0 where
  pub within : i ≤ size_of b
  pub size : length figures ≡ 8
  pub few : (u : ℕ) → get_or figures u 0 ≤ 1
  pub rest : ones constraints b ≡ cover_from (λ r. 1) constraints b (size_of b - i) figures

pub left-small : {constraints b : List ℕ} {i : ℕ} {figures : List ℕ} → CoverLeft constraints b i figures → Small figures
left-small inv = record { most = λ u. omega (arith, inv.few u) }

zeros-few : (n u : ℕ) → get_or (replicate n 0) u 0 ≤ 1
zeros-few zero u = omega arith
zeros-few (suc n) zero = omega arith
zeros-few (suc n) (suc u) = zeros-few n u

pub cover-start : (constraints b : List ℕ) → CoverLeft constraints b 0 no_figures
unfolding ones
cover-start constraints b = record { within = omega arith; size = refl; few = zeros-few 8; rest = rw sub-zero }

pub cover-stopped : {constraints b : List ℕ} {i : ℕ} {figures : List ℕ} → CoverLeft constraints b i figures → none ≡ smallest (all_ways constraints b figures) → figures ≡ ones constraints b
cover-stopped {constraints} {b} {i} {figures} inv e = sym (inv.rest ∙ cover-still (λ r. 1) constraints b (size_of b - i) figures (sym e))

-- the way that was found
module _ (constraints b figures : List ℕ) (r : Row) (found : some r ≡ smallest (all_ways constraints b figures)) where
  pub cover-number : r.number < size_of b
  cover-number = (next-says constraints b figures r (sym found)).node

  pub cover-again : {i : ℕ} → CoverLeft constraints b i figures → size_of b ≤ 8 → i < size_of b → CoverLeft constraints b (i + 1) (set figures r.number 1)
  cover-again {i} inv most l =
      let m : size_of b - i ≡ suc (size_of b - (i + 1)) = omega arith in
      record {
        within = omega arith;
        size = length-set figures r.number 1 ∙ inv.size;
        few = λ u. one-few u (ℕ_discrete u r.number);
        rest = inv.rest ∙ ap (λ n. cover_from (λ r. 1) constraints b n figures) m ∙ cover-next constraints b (size_of b - (i + 1)) figures (λ r. 1) r (sym found);
      }
    where
      one-few : (u : ℕ) → Dec (u ≡ r.number) → get_or (set figures r.number 1) u 0 ≤ 1
      one-few u (yes e) =
          let n = cover-number in
          let z = inv.size in
          let q : get_or (set figures r.number 1) r.number 0 ≡ 1 = get_or-set_same figures r.number 1 0 (omega arith) in
          rw (e, q) (omega arith)
      one-few u (no f) = rw (get_or-set_other figures r.number u 1 0 f) (inv.few u)

pub cover-done : {constraints b : List ℕ} {i : ℕ} {figures : List ℕ} → CoverLeft constraints b i figures → size_of b ≤ i → figures ≡ ones constraints b
cover-done {constraints} {b} {i} {figures} inv h =
    let m : size_of b - i ≡ 0 = omega arith in
    sym (inv.rest ∙ ap (λ n. cover_from (λ r. 1) constraints b n figures) m ∙ cover-zero (λ r. 1) constraints b figures)

-- each node and each edge is covered
pub all-told : (constraints b : List ℕ) (t : List (List Bool)) (figures : List ℕ) → Given constraints b t → figures ≡ ones constraints b
    → (all_from (covered figures) 0 (size_of b) && all_from (edge_covered constraints b figures) 0 (edges_of b)) ≡ all_covered constraints b
unfolding ones
all-told constraints b t figures g e = rw e (sym (all-covered constraints b g.right g.known.few))

pub ones-small : (constraints b figures : List ℕ) → figures ≡ ones constraints b → Small figures
unfolding ones
ones-small constraints b figures e = record { most = λ u. rw e (omega (arith, ones-most constraints b (size_of b) u)) }
