-- The rules of a fit list, taken entry by entry: the lowest rule that a list breaks is the lowest that one of its entries breaks. Assumes nothing.
use Rattle.std.specs.Prelude.{◌≡◌, refl, Bool, false, cond, not, ◌&&◌, ◌||◌, List, [], ◌∷◌, ltb, eqb, length}
use Rattle.std.proofs.Common.{sym, ◌∙◌, div-one, arith, length-append, length-take, length-drop, lt-ltb, le-ltb, ltb-true, ltb-false, leb-true}
use Rattle.std.proofs.Math.Path.{ap}
use Rattle.std.proofs.Math.Bool.{true, and-true, and_assoc}
use Prim.Native.Nat.{ℕ, zero, suc, ◌+◌, ◌-◌, ◌*◌, ◌/◌, ◌%◌, ◌^◌, ◌≤◌, ◌<◌}
use Rattle.std.proofs.lemmas.Bool.{not-false}
use Rattle.rules.specs.Words.{u32_at}
use Rattle.rules.specs.Lists.{all_from, keep}
use Rattle.laws.specs.Loops.{fold_from}
use Rattle.rules.specs.Store.{nodes_in, entries_in, labels_of}
use Rattle.rules.specs.Listing.{inside, list_part, bits_for, id_right, label_right, rest_right, beyond_right, bits_right, rule_broken}
use Rattle.rules.specs.declared.Constraint.{Constraint}
use Rattle.laws.specs.Cases.{first-holds}

-- the first of rules 3 to 7 that fails, or `fit`
abbrev pub first_failed : Bool → Bool → Bool → Bool → Bool → ℕ → ℕ
first_failed ids labels rest beyond bits fit =
    cond (not ids) 3 (cond (not labels) 4 (cond (not rest) 5 (cond (not beyond) 6 (cond (not bits) 7 fit))))

-- the lower of two numbers
unfoldable pub lower : ℕ → ℕ → ℕ
lower a b = cond (ltb b a) b a

-- the lowest rule that entry i breaks, or 8
unfoldable pub entry_rule : List ℕ → Constraint → ℕ → List ℕ → ℕ → ℕ
entry_rule nodes c size list i =
    first_failed (id_right nodes list i) (label_right nodes c list i) (rest_right list i) (beyond_right size list i) (bits_right size list i) 8

-- the lower of a rule and the lowest that entry i breaks
unfoldable pub lowered : List ℕ → Constraint → ℕ → List ℕ → ℕ → ℕ → ℕ
lowered nodes c size list i low = lower low (entry_rule nodes c size list i)

-- the lowest rule that an entry breaks, or 8
unfoldable pub lowest_rule : List ℕ → Constraint → ℕ → List ℕ → ℕ → ℕ
lowest_rule nodes c size list count = fold_from (lowered nodes c size list) 0 count 8

-- the lowest of rules 3 to 7 that a list breaks, or `fit`
unfoldable pub list_rule : List ℕ → Constraint → ℕ → List ℕ → ℕ → ℕ → ℕ
list_rule nodes c size list count fit =
    first_failed (all_from (id_right nodes list) 0 count) (all_from (label_right nodes c list) 0 count) (all_from (rest_right list) 0 count)
    (all_from (beyond_right size list) 0 count) (all_from (bits_right size list) 0 count) fit

-- ---- the lower of two rows of tests
cond-above : (t : Bool) (k n x : ℕ) → k ≤ n → k ≤ x → k ≤ cond t n x
cond-above true k n x h e = h
cond-above false k n x h e = e

lower-cond : (a b : Bool) (k x y : ℕ) → k < x → k < y → lower (cond (not a) k x) (cond (not b) k y) ≡ cond (not (a && b)) k (lower x y)
unfolding lower
lower-cond true true k x y h e = refl
lower-cond true false k x y h e = rw (lt-ltb k x h)
lower-cond false true k x y h e = rw (le-ltb y k (omega arith))
lower-cond false false k x y h e = rw (le-ltb k k (omega arith))

lower-failed : (a b c d e a' b' c' d' e' : Bool)
    → lower (first_failed a b c d e 8) (first_failed a' b' c' d' e' 8) ≡ first_failed (a && a') (b && b') (c && c') (d && d') (e && e') 8
unfolding lower
lower-failed a b c d e a' b' c' d' e' =
    let x4 : ℕ = cond (not e) 7 8 in
    let y4 : ℕ = cond (not e') 7 8 in
    let x3 : ℕ = cond (not d) 6 x4 in
    let y3 : ℕ = cond (not d') 6 y4 in
    let x2 : ℕ = cond (not c) 5 x3 in
    let y2 : ℕ = cond (not c') 5 y3 in
    let x1 : ℕ = cond (not b) 4 x2 in
    let y1 : ℕ = cond (not b') 4 y2 in
    let h4 : 7 ≤ x4 = cond-above (not e) 7 7 8 (omega arith) (omega arith) in
    let k4 : 7 ≤ y4 = cond-above (not e') 7 7 8 (omega arith) (omega arith) in
    let h3 : 6 ≤ x3 = cond-above (not d) 6 6 x4 (omega arith) (omega arith) in
    let k3 : 6 ≤ y3 = cond-above (not d') 6 6 y4 (omega arith) (omega arith) in
    let h2 : 5 ≤ x2 = cond-above (not c) 5 5 x3 (omega arith) (omega arith) in
    let k2 : 5 ≤ y2 = cond-above (not c') 5 5 y3 (omega arith) (omega arith) in
    let h1 : 4 ≤ x1 = cond-above (not b) 4 4 x2 (omega arith) (omega arith) in
    let k1 : 4 ≤ y1 = cond-above (not b') 4 4 y2 (omega arith) (omega arith) in
    lower-cond a a' 3 x1 y1 (omega arith) (omega arith)
    ∙ ap (cond (not (a && a')) 3) (lower-cond b b' 4 x2 y2 (omega arith) (omega arith)
    ∙ ap (cond (not (b && b')) 4) (lower-cond c c' 5 x3 y3 (omega arith) (omega arith)
    ∙ ap (cond (not (c && c')) 5) (lower-cond d d' 6 x4 y4 (omega arith) (omega arith)
    ∙ ap (cond (not (d && d')) 6) (lower-cond e e' 7 8 8 (omega arith) (omega arith)))))

failed-none : (a b c d e : Bool) → first_failed a b c d e 8 ≡ 8 → 0 ≡ first_failed a b c d e 0
failed-none false b c d e h = omega (arith, h)
failed-none true false c d e h = omega (arith, h)
failed-none true true false d e h = omega (arith, h)
failed-none true true true false e h = omega (arith, h)
failed-none true true true true false h = omega (arith, h)
failed-none true true true true true h = refl

failed-some : (a b c d e : Bool) (x : ℕ) → x ≡ first_failed a b c d e 8 → (x ≡ 8 → ⊥) → x ≡ first_failed a b c d e 0
failed-some false b c d e x h n = h
failed-some true false c d e x h n = h
failed-some true true false d e x h n = h
failed-some true true true false e x h n = h
failed-some true true true true false x h n = h
failed-some true true true true true x h n = absurd (n h)

-- ---- the lowest rule over all entries
module _ (nodes : List ℕ) (c : Constraint) (size : ℕ) (list : List ℕ) where
  lowered-failed : (k : ℕ) (v w x y z : Bool) → lowered nodes c size list k (first_failed v w x y z 8)
      ≡ first_failed (v && id_right nodes list k) (w && label_right nodes c list k) (x && rest_right list k)
      (y && beyond_right size list k) (z && bits_right size list k) 8
  unfolding lowered entry_rule
  lowered-failed k v w x y z =
      lower-failed v w x y z (id_right nodes list k) (label_right nodes c list k) (rest_right list k) (beyond_right size list k) (bits_right size list k)

  lowest-from : (n k : ℕ) (v w x y z : Bool)
      → fold_from (lowered nodes c size list) k n (first_failed v w x y z 8)
      ≡ first_failed (v && all_from (id_right nodes list) k n) (w && all_from (label_right nodes c list) k n) (x && all_from (rest_right list) k n)
      (y && all_from (beyond_right size list) k n) (z && all_from (bits_right size list) k n) 8
  unfolding fold_from all_from
  lowest-from zero k v w x y z = simp and-true
  lowest-from (suc n) k v w x y z =
      ap (fold_from (lowered nodes c size list) (k + 1) n) (lowered-failed k v w x y z)
      ∙ lowest-from n (k + 1) (v && id_right nodes list k) (w && label_right nodes c list k) (x && rest_right list k) (y && beyond_right size list k) (z && bits_right size list k)
      ∙ simp and_assoc

  pub lowest-rule : (count : ℕ) → lowest_rule nodes c size list count ≡ list_rule nodes c size list count 8
  unfolding lowest_rule list_rule
  lowest-rule count = lowest-from count 0 true true true true true

-- the lowest rule with 0 for a fit list: low is what a loop found
module _ (nodes : List ℕ) (c : Constraint) (size : ℕ) (list : List ℕ) (count low : ℕ) (q : low ≡ lowest_rule nodes c size list count) where
  pub rule-none : low ≡ 8 → 0 ≡ list_rule nodes c size list count 0
  unfolding list_rule
  rule-none h =
      failed-none (all_from (id_right nodes list) 0 count) (all_from (label_right nodes c list) 0 count) (all_from (rest_right list) 0 count)
      (all_from (beyond_right size list) 0 count) (all_from (bits_right size list) 0 count)
      (sym (sym h ∙ q ∙ lowest-rule nodes c size list count))

  pub rule-some : (low ≡ 8 → ⊥) → low ≡ list_rule nodes c size list count 0
  unfolding list_rule
  rule-some h =
      failed-some (all_from (id_right nodes list) 0 count) (all_from (label_right nodes c list) 0 count) (all_from (rest_right list) 0 count)
      (all_from (beyond_right size list) 0 count) (all_from (bits_right size list) 0 count)
      low (q ∙ lowest-rule nodes c size list count) h

-- an entry whose id is right has a node: r is what the test gave
pub id-below : (nodes list : List ℕ) (i : ℕ) (r : Bool) → r ≡ id_right nodes list i → not r ≡ false → u32_at list (i * 8) < nodes_in nodes
unfolding id_right
id-below nodes list i r q h =
    ltb-true _ _
    (first-holds (ltb (u32_at list (i * 8)) (nodes_in nodes)) (eqb i 0 || ltb (u32_at list ((i - 1) * 8)) (u32_at list (i * 8))) (sym q ∙ not-false r h))

-- a list that is inside has its bytes among the entries: r is what the test gave
pub inside-room : (entries : List ℕ) (start count : ℕ) (r : Bool) → r ≡ inside entries start count → not r ≡ false → start * 8 + count * 8 ≤ length entries
unfolding inside
inside-room entries start count r q h =
    let e : start + count ≤ entries_in entries = leb-true _ _ (sym q ∙ not-false r h) in
    omega arith

-- ---- the labels of S
-- 1 for a label, 0 for none
unfoldable pub counted : ℕ → ℕ
counted l = cond (eqb l 0) 0 1

length-kept : (t : Bool) (l : ℕ) → length (cond (not t) (l ∷ []) []) ≡ cond t 0 1
length-kept true l = refl
length-kept false l = refl

-- how many labels S has, from x, y and z, which its three labels count
pub label-total : (c : Constraint) (x y z : ℕ) → x ≡ counted c.first → y ≡ counted c.second → z ≡ counted c.third → x + y + z ≡ length (labels_of c)
unfolding labels_of keep counted
label-total c x y z p q r = simp (length-append, length-kept, p, q, r) (omega arith)

-- ---- the key nodes, of which there are at most three
-- a test of the first `size` of three
all-three : (p : ℕ → Bool) (size : ℕ) → size ≤ 3 → all_from p 0 size ≡ ((ltb size 1 || p 0) && (ltb size 2 || p 1) && (ltb size 3 || p 2))
unfolding all_from
all-three p zero h = refl
all-three p (suc zero) h = simp and-true
all-three p (suc (suc zero)) h = simp and-true
all-three p (suc (suc (suc zero))) h = simp (and_assoc, and-true)
all-three p (suc (suc (suc (suc n)))) h =
    let no : ⊥ = omega arith in
    absurd no

-- each of the first `size` key nodes has one of its two bits
pub all-joined : (d size : ℕ) → size ≤ 3
    → ((ltb size 1 || not (eqb (d % 4) 0)) && (ltb size 2 || not (eqb (d / 4 % 4) 0)) && (ltb size 3 || not (eqb (d / 16 % 4) 0)))
    ≡ all_from (λ j. not (eqb (bits_for d j) 0)) 0 size
all-joined d size h = sym (all-three (λ j. not (eqb (bits_for d j) 0)) size h ∙ rw div-one)

-- the powers of 4 up to its cube, by the tests of a `match`
module _ (n : ℕ) where
  pub power-zero : n ≡ 0 → 1 ≡ 4 ^ n
  power-zero h = rw h

  pub power-one : n ≡ 1 → 4 ≡ 4 ^ n
  power-one h = rw h

  pub power-two : n ≡ 2 → 16 ≡ 4 ^ n
  power-two h = rw h

  pub power-three : n ≤ 3 → (n ≡ 0 → ⊥) → (n ≡ 1 → ⊥) → (n ≡ 2 → ⊥) → 64 ≡ 4 ^ n
  power-three most not-0 not-1 not-2 =
      let h : n ≡ 3 = omega arith in
      rw h

-- a list that a group names has its entries
pub list-long : (list entries : List ℕ) (start count : ℕ) → list ≡ list_part entries start count → start * 8 + count * 8 ≤ length entries → count * 8 ≤ length list
list-long list entries start count q h = rw q (simp (length-take, length-drop) (omega arith))

-- ---- what a fit list gives
test-passed : (t : Bool) (n x : ℕ) → cond t (suc n) x ≡ 0 → t ≡ false
test-passed true n x h =
    let no : ⊥ = omega (arith, h) in
    absurd no
test-passed false n x h = refl

rest-passed : (t : Bool) (n x : ℕ) → cond t (suc n) x ≡ 0 → x ≡ 0
rest-passed true n x h = omega (arith, h)
rest-passed false n x h = h

module _ (nodes : List ℕ) (c : Constraint) (entries : List ℕ) (start count : ℕ) (fit : rule_broken nodes c entries start count ≡ 0) where
  after-inside : cond (ltb c.most count) 2 (list_rule nodes c (length (labels_of c)) (list_part entries start count) count 0) ≡ 0
  unfolding rule_broken list_rule
  after-inside = rest-passed (not (inside entries start count)) 0 _ fit

  -- it has at most N entries
  pub fit-most : count ≤ c.most
  fit-most = ltb-false _ _ (test-passed (ltb c.most count) 1 (list_rule nodes c (length (labels_of c)) (list_part entries start count) count 0) after-inside)
