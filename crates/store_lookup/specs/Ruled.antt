-- The number of each rule of a fit list.
use Rattle.std.specs.Prelude.{ℕ, Option, Some, None}
use Rattle.store_lookup.specs.declared.fitness.Rule.{Rule}
use Rattle.store_lookup.specs.declared.fitness.Rule.TheVariants.{Outside, TooLong, Ids, Label, Rest, Beyond, Unjoined}

-- the number of a rule
abbrev pub rule_number : Rule → ℕ
-- the list is inside the entries
rule_number Outside = 1
-- it has at most N entries
rule_number TooLong = 2
-- its ids are below n and ascend
rule_number Ids = 3
-- its nodes have the label l
rule_number Label = 4
-- the three last bytes of its entries are 0
rule_number Rest = 5
-- no direction bit beyond the key is set
rule_number Beyond = 6
-- each node of the key has one of its two bits
rule_number Unjoined = 7

-- the number of the rule that is broken, or what a fit list has in its place
abbrev pub number_or : ℕ → Option Rule → ℕ
number_or fit None = fit
number_or fit (Some rule) = rule_number rule
