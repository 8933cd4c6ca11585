use Rattle.std.proofs.Common.{◌≡◌, ◌++◌, string_bytes}
use Rattle.ucptrie_sets.specs.SetToml.{toml_ranges}
use Rattle.ucptrie_sets.proofs.toml_text.push_ranges.Given as goal

-- the text so far, followed by the lines of the ranges that are left
abbrev pub invariant-loop-range : goal.invariant-loop-range
invariant-loop-range l = string_bytes l.text ++ toml_ranges l.range-iterator ≡ string_bytes l.initial.text ++ toml_ranges l.set
