-- The lowest of the rules that entries break. Assumes nothing.
use Rattle.std.specs.Prelude.{◌≡◌, Bool, true, false, ℕ, List, ltb, Option, Some, None}
use Rattle.std.proofs.Common.{arith, refl, sym, ◌∙◌, lt-ltb, le-ltb}
use Prim.Native.Nat.{◌<◌}
use Rattle.std.specs.Ordering.{partial_lt}
use Rattle.rules.specs.declared.Constraint.{Constraint}
use Rattle.laws.specs.Fitness.{lower, lowest_rule, list_rule, rule-none, rule-some}
use Rattle.store_lookup.specs.contracts.fitness.RulePartialOrd as order
use Rattle.store_lookup.specs.declared.fitness.Rule.{Rule}
use Rattle.store_lookup.specs.declared.fitness.Rule.TheVariants.{Outside, TooLong, Ids, Label, Rest, Beyond, Unjoined}
use Rattle.store_lookup.specs.Ruled.{rule_number, number_or}

-- rules are ordered by their numbers
rule-less : (x y : Rule) → partial_lt (order.TheImpl.partial_cmp-value).it x y ≡ ltb (rule_number x) (rule_number y)
rule-less Outside Outside = refl
rule-less Outside TooLong = refl
rule-less Outside Ids = refl
rule-less Outside Label = refl
rule-less Outside Rest = refl
rule-less Outside Beyond = refl
rule-less Outside Unjoined = refl
rule-less TooLong Outside = refl
rule-less TooLong TooLong = refl
rule-less TooLong Ids = refl
rule-less TooLong Label = refl
rule-less TooLong Rest = refl
rule-less TooLong Beyond = refl
rule-less TooLong Unjoined = refl
rule-less Ids Outside = refl
rule-less Ids TooLong = refl
rule-less Ids Ids = refl
rule-less Ids Label = refl
rule-less Ids Rest = refl
rule-less Ids Beyond = refl
rule-less Ids Unjoined = refl
rule-less Label Outside = refl
rule-less Label TooLong = refl
rule-less Label Ids = refl
rule-less Label Label = refl
rule-less Label Rest = refl
rule-less Label Beyond = refl
rule-less Label Unjoined = refl
rule-less Rest Outside = refl
rule-less Rest TooLong = refl
rule-less Rest Ids = refl
rule-less Rest Label = refl
rule-less Rest Rest = refl
rule-less Rest Beyond = refl
rule-less Rest Unjoined = refl
rule-less Beyond Outside = refl
rule-less Beyond TooLong = refl
rule-less Beyond Ids = refl
rule-less Beyond Label = refl
rule-less Beyond Rest = refl
rule-less Beyond Beyond = refl
rule-less Beyond Unjoined = refl
rule-less Unjoined Outside = refl
rule-less Unjoined TooLong = refl
rule-less Unjoined Ids = refl
rule-less Unjoined Label = refl
rule-less Unjoined Rest = refl
rule-less Unjoined Beyond = refl
rule-less Unjoined Unjoined = refl

rule-few : (x : Rule) → rule_number x < 8
rule-few Outside = omega arith
rule-few TooLong = omega arith
rule-few Ids = omega arith
rule-few Label = omega arith
rule-few Rest = omega arith
rule-few Beyond = omega arith
rule-few Unjoined = omega arith

-- no rule has the number of a fit list
pub rule-some-number : (x : Rule) → rule_number x ≡ 0 → ⊥
rule-some-number Outside e = omega (arith, e)
rule-some-number TooLong e = omega (arith, e)
rule-some-number Ids e = omega (arith, e)
rule-some-number Label e = omega (arith, e)
rule-some-number Rest e = omega (arith, e)
rule-some-number Beyond e = omega (arith, e)
rule-some-number Unjoined e = omega (arith, e)

-- ---- the lower of two, of which there may be none
pub lower-first : (a b : Option Rule) → a ≡ None → number_or 8 b ≡ lower (number_or 8 a) (number_or 8 b)
unfolding lower
lower-first a None e = rw e refl
lower-first a (Some y) e = rw (e, lt-ltb (rule_number y) 8 (rule-few y)) refl

pub lower-second : (a b : Option Rule) (x : Rule) → a ≡ Some x → b ≡ None → rule_number x ≡ lower (number_or 8 a) (number_or 8 b)
unfolding lower
lower-second a b x p q = let h = rule-few x in rw (p, q, le-ltb 8 (rule_number x) (omega arith)) refl

module _ (a b : Option Rule) (x y : Rule) (p : a ≡ Some x) (q : b ≡ Some y) (r : Bool) (e : r ≡ partial_lt (order.TheImpl.partial_cmp-value).it y x) where
  pub lower-yes : r ≡ true → rule_number y ≡ lower (number_or 8 a) (number_or 8 b)
  unfolding lower
  lower-yes h = rw (p, q) (rw (sym (rule-less y x) ∙ sym e ∙ h) refl)

  pub lower-no : r ≡ false → rule_number x ≡ lower (number_or 8 a) (number_or 8 b)
  unfolding lower
  lower-no h = rw (p, q) (rw (sym (rule-less y x) ∙ sym e ∙ h) refl)

-- ---- the lowest of all, with 0 for a fit list
pub rule-told : (nodes : List ℕ) (c : Constraint) (size : ℕ) (list : List ℕ) (count : ℕ) (r : Option Rule) → number_or 8 r ≡ lowest_rule nodes c size list count
    → number_or 0 r ≡ list_rule nodes c size list count 0
rule-told nodes c size list count None q = rule-none nodes c size list count 8 q refl
rule-told nodes c size list count (Some x) q = rule-some nodes c size list count (rule_number x) q (λ e. let h = rule-few x in omega arith)
