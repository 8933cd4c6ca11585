use Rattle.std.proofs.Common.{◌≡◌, ◌++◌, take, string_bytes}
use Rattle.std.specs.List.{flat_map}
use Rattle.ucptab_table.specs.Messages.{shown_byte}
use Rattle.ucptab_table.proofs.message.push_bytes.Given as goal

-- The text has the bytes so far.
abbrev pub invariant-loop-byte : goal.invariant-loop-byte
invariant-loop-byte l = string_bytes l.text ≡ string_bytes l.initial.text ++ flat_map shown_byte (take l.byte-index l.bytes)
