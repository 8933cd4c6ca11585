use Rattle.std.proofs.Common.{◌≡◌, ◌++◌, take, string_bytes}
use Rattle.std.specs.List.{flat_map}
use Rattle.ucptrie_names.specs.NamesSource.{rust_arm}
use Rattle.ucptrie_names.proofs.value_names.push_arms.Given as goal

-- the text has the arms so far
abbrev pub invariant-loop-value : goal.invariant-loop-value
invariant-loop-value l =
    string_bytes l.text ≡ string_bytes l.initial.text ++ flat_map (rust_arm l.title) (take l.value-index l.values)
