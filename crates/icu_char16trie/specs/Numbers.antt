-- Numbers in the units of a trie, as in ICU's ucharstrie.h. The unit before p is the number's lead.
-- It determines how many more units of the number are at p: none, one with its low half, or two
-- with both halves. A number is None if one of its units is missing; the index after it is defined
-- even then.
--
--     the unit before p        0 units follow    1 unit follows    2 units follow
--     jump                     0x0000..0x3fff    0x4000..0x7ffe    0x7fff
--     final value              0x8000..0xbfff    0xc000..0xfffe    0xffff
--     intermediate value       0x0040..0x403f    0x4040..0x7fbf    0x7fc0..0x7fff
--     delta                    0x0000..0xfbff    0xfc00..0xfffe    0xffff
use Rattle.std.specs.Prelude.{ℕ, ◌+◌, ◌-◌, ◌*◌, ◌/◌, List, Option, Some, nat_lt, slice_get, if◌then◌else◌, option_and_then}
use Rattle.icu_char16trie.specs.Constants.{min_two_unit_delta_lead, min_two_unit_node_lead, min_two_unit_value_lead, min_value_lead, three_unit_delta_lead, three_unit_node_lead, three_unit_value_lead, value_is_final}

-- A number with the given high half, whose low half is the unit at p.
abbrev pub low_half : List ℕ → ℕ → ℕ → Option ℕ
low_half units p high = option_and_then (λ low. Some (high * 0x10000 + low)) (slice_get units p)

-- A number in the two units at p, the high half first.
abbrev pub both_halves : List ℕ → ℕ → Option ℕ
both_halves units p = option_and_then (low_half units (p + 1)) (slice_get units p)

-- The number with the lead w. A lead below `two` is the number itself. A lead from there to below
-- `three` is `two` plus the high half. For any other lead both halves are at p.
unfoldable pub number_by : ℕ → ℕ → List ℕ → ℕ → ℕ → Option ℕ
number_by two three units p w =
    if nat_lt w two then Some w
    else if nat_lt w three then low_half units p (w - two)
    else both_halves units p

-- The index after the number with the lead w.
unfoldable pub end_by : ℕ → ℕ → ℕ → ℕ → ℕ
end_by two three p w = if nat_lt w two then p else if nat_lt w three then p + 1 else p + 2

-- A final value, or a jump in a row of entries. Its lead is the low 15 bits of the unit before p.
abbrev pub short_number : List ℕ → ℕ → ℕ → Option ℕ
short_number units p w = number_by min_two_unit_value_lead three_unit_value_lead units p w

-- The index after a final value or a jump.
abbrev pub short_end : ℕ → ℕ → ℕ
short_end p w = end_by min_two_unit_value_lead three_unit_value_lead p w

-- An intermediate value. Its lead is bits 6 to 14 of the lead unit before p, minus one; the low six
-- bits of that unit describe the match node.
abbrev pub node_number : List ℕ → ℕ → ℕ → Option ℕ
node_number units p lead =
    number_by min_two_unit_node_lead three_unit_node_lead units p (lead / min_value_lead - 1)

-- The index after an intermediate value.
abbrev pub node_end : ℕ → ℕ → ℕ
node_end p lead =
    end_by min_two_unit_node_lead three_unit_node_lead p (lead / min_value_lead - 1)

-- The delta of a split unit. Its lead is the unit before p.
abbrev pub delta_number : List ℕ → ℕ → ℕ → Option ℕ
delta_number units p d = number_by min_two_unit_delta_lead three_unit_delta_lead units p d

-- The index after the delta of a split unit.
abbrev pub delta_end : ℕ → ℕ → ℕ
delta_end p d = end_by min_two_unit_delta_lead three_unit_delta_lead p d

-- The index of the node of an entry whose value unit v is before p: the index of v if v is a final
-- value, and otherwise the index after the jump's units plus the jump.
unfoldable pub entry_child : List ℕ → ℕ → ℕ → Option ℕ
entry_child units p v =
    if nat_lt v value_is_final
    then option_and_then (λ jump. Some (short_end p v + jump)) (short_number units p v)
    else Some (p - 1)

-- The index of the part with the lower entries: the index after the delta's units plus the delta. d
-- is the unit before p.
unfoldable pub lower_part : List ℕ → ℕ → ℕ → Option ℕ
lower_part units p d =
    option_and_then (λ delta. Some (delta_end p d + delta)) (delta_number units p d)
