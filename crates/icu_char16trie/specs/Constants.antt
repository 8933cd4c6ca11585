-- The constants of the format, with the names of ICU's ucharstrie.h in lower case.
use Rattle.std.specs.Prelude.{ℕ, ◌+◌, ◌-◌, ◌/◌}

-- The largest number of entries in a row. A part of a branch with more entries is split.
abbrev pub max_branch_linear_sub_node_length : ℕ
max_branch_linear_sub_node_length = 5

-- The low six bits of a linear match of one unit. Below it they describe a branch.
abbrev pub min_linear_match : ℕ
min_linear_match = 0x30

-- The largest number of units in a linear match.
abbrev pub max_linear_match_length : ℕ
max_linear_match_length = 0x10

-- The least lead with a value. It is also 2^6: a lead's low six bits are its remainder.
abbrev pub min_value_lead : ℕ
min_value_lead = min_linear_match + max_linear_match_length

-- The bit that a final value sets in its unit. In a row a unit without it is a jump. The other bits
-- are the number's lead.
abbrev pub value_is_final : ℕ
value_is_final = 0x8000

-- The least lead of a final value or a jump of two units.
abbrev pub min_two_unit_value_lead : ℕ
min_two_unit_value_lead = 0x4000

-- The lead of a final value or a jump of three units.
abbrev pub three_unit_value_lead : ℕ
three_unit_value_lead = 0x7fff

-- The least lead of an intermediate value of two units. Its lead unit is ICU's
-- kMinTwoUnitNodeValueLead, 0x4040.
abbrev pub min_two_unit_node_lead : ℕ
min_two_unit_node_lead = 0x4040 / min_value_lead - 1

-- The lead of an intermediate value of three units. Its least lead unit is ICU's
-- kThreeUnitNodeValueLead, 0x7fc0.
abbrev pub three_unit_node_lead : ℕ
three_unit_node_lead = 0x7fc0 / min_value_lead - 1

-- The least lead of a delta of two units.
abbrev pub min_two_unit_delta_lead : ℕ
min_two_unit_delta_lead = 0xfc00

-- The lead of a delta of three units.
abbrev pub three_unit_delta_lead : ℕ
three_unit_delta_lead = 0xffff

-- The number of units in a linear match with these low six bits: 1 for min_linear_match.
abbrev pub run_len : ℕ → ℕ
run_len low = low - (min_linear_match - 1)
