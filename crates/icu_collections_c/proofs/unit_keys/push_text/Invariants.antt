use Rattle.std.proofs.Common.{◌≡◌, ◌++◌}
use Rattle.std.specs.Char.Escape.{encode_utf16}
use Rattle.std.specs.List.{flat_map}
use Rattle.icu_collections_c.proofs.unit_keys.push_text.Given as goal

-- The units of the characters so far.
abbrev pub invariant-loop-c : goal.invariant-loop-c
invariant-loop-c l = l.units.items ≡ l.initial.units.items ++ flat_map encode_utf16 l.yielded
