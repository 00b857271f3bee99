-- Which number a store or draft gives, by its tests. Assumes nothing.
use native.Mathlib.Omega.{arith}
use mathlib.Core.Path.{◌≡◌, refl, sym, ap, ◌∙◌}
use mathlib.Core.Bool.{Bool, true, false, not}
use mathlib.Core.List.{List, [], ◌∷◌}
use Prim.Native.Nat.{ℕ, ◌≤◌}
use borrow.Author.Tests.{not-false}
use Rattle.rules.specs.Store.{header_right, node_part, edge_part, records_right, constraints_right, constraint_part}
use Rattle.rules.specs.Index.{exceeds, too_many}
use Rattle.rules.specs.Answers.{◌when◌, first_of}
use Rattle.laws.specs.Refusals.{first-given, refuses, passes, none-given, first-flat, graph_number}
use Rattle.build_keys.specs.Pass.{Right}
use Rattle.build.specs.Steps.{record_number}

module _ (s : List ℕ) where
  abbrev two : ℕ
  two = 2 when not (records_right (node_part s) (edge_part s))

  abbrev three : ℕ
  three = 3 when not (constraints_right (constraint_part s))

  -- refusals 2 and 3, by their tests
  module _ (records : Bool) (er : records ≡ records_right (node_part s) (edge_part s)) where
    pub record-two : not records ≡ true → 2 ≡ record_number s
    unfolding record_number
    record-two h = sym (refuses 2 _ (three ∷ []) refl (sym (ap not er) ∙ h))

    module _ (hr : not records ≡ false) (constraints : Bool) (ec : constraints ≡ constraints_right (constraint_part s)) where
      past-two : record_number s ≡ first_of (three ∷ [])
      unfolding record_number
      past-two = passes 2 _ (three ∷ []) (sym (ap not er) ∙ hr)

      pub record-three : not constraints ≡ true → 3 ≡ record_number s
      record-three h = sym (past-two ∙ refuses 3 _ [] refl (sym (ap not ec) ∙ h))

      pub record-none : not constraints ≡ false → 0 ≡ record_number s
      unfolding first_of
      record-none h = sym (past-two ∙ passes 3 _ [] (sym (ap not ec) ∙ h))

  -- the number of a graph is this one, then 4 and 11
  number-parts : graph_number s ≡ first_of (record_number s ∷ 4 when exceeds s ∷ 11 when too_many s ∷ [])
  unfolding graph_number record_number
  number-parts = sym (first-flat (two ∷ three ∷ []) (4 when exceeds s ∷ 11 when too_many s ∷ []))

  few-three : record_number s ≤ 3
  unfolding record_number first_of ◌when◌
  few-three = go (not (records_right (node_part s) (edge_part s))) (not (constraints_right (constraint_part s)))
    where
      go : (a b : Bool) → first_of (2 when a ∷ 3 when b ∷ []) ≤ 3
      go true b = omega arith
      go false true = omega arith
      go false false = omega arith

  -- what their number says
  module _ (n : ℕ) (e : n ≡ record_number s) where
    pub early-number : (n ≡ 0 → ⊥) → (n ≡ graph_number s) × (n ≤ 3)
    early-number z =
        let some-given : record_number s ≡ 0 → ⊥ = λ q. z (e ∙ q) in
        (e ∙ sym (number-parts ∙ first-given (record_number s) (4 when exceeds s ∷ 11 when too_many s ∷ []) some-given), omega (arith, few-three))

    pub early-right : header_right s ≡ true → n ≡ 0 → Right s
    unfolding record_number
    early-right h z =
        let a = none-given 2 _ (three ∷ []) refl (sym e ∙ z) in
        record { header = h; records = not-false _ a.0; constraints = not-false _ (none-given 3 _ [] refl a.1).0 }

  -- refusals 4 and 11, by their tests
  module _ (right : Right s) where
    past-three : graph_number s ≡ first_of (4 when exceeds s ∷ 11 when too_many s ∷ [])
    unfolding graph_number
    past-three = passes 2 _ (three ∷ 4 when exceeds s ∷ 11 when too_many s ∷ []) (ap not right.records) ∙ passes 3 _ (4 when exceeds s ∷ 11 when too_many s ∷ []) (ap not right.constraints)

    module _ (above : Bool) (ea : above ≡ exceeds s) where
      pub gives-four : above ≡ true → 4 ≡ graph_number s
      gives-four h = sym (past-three ∙ refuses 4 _ (11 when too_many s ∷ []) refl (sym ea ∙ h))

      module _ (ha : above ≡ false) (many : Bool) (em : many ≡ too_many s) where
        past-four : graph_number s ≡ first_of (11 when too_many s ∷ [])
        past-four = past-three ∙ passes 4 _ (11 when too_many s ∷ []) (sym ea ∙ ha)

        pub gives-eleven : many ≡ true → 11 ≡ graph_number s
        gives-eleven h = sym (past-four ∙ refuses 11 _ [] refl (sym em ∙ h))

        pub gives-none : many ≡ false → 0 ≡ graph_number s
        unfolding first_of
        gives-none h = sym (past-four ∙ passes 11 _ [] (sym em ∙ h))
