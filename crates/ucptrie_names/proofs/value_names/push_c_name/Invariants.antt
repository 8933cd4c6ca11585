use Rattle.std.proofs.Common.{◌≡◌, ◌++◌, take, map, string_bytes}
use Rattle.ucptrie_names.specs.ValueIdentifiers.{c_byte}
use Rattle.ucptrie_names.proofs.value_names.push_c_name.Given as goal

-- the text has the bytes so far
abbrev pub invariant-loop-byte : goal.invariant-loop-byte
invariant-loop-byte l = string_bytes l.text ≡ string_bytes l.initial.text ++ map c_byte (take l.byte-index l.name)
