use Rattle.std.proofs.Common.{◌≡◌, take}
use Rattle.std.specs.List.{filter_map}
use Rattle.std.specs.Prelude.{string_bytes}
use Rattle.ucptab_table.specs.TableText.{hexadecimal}
use Rattle.ucptab_table.proofs.words.asked_numbers.Given as goal

abbrev pub invariant-loop-word : goal.invariant-loop-word
invariant-loop-word l = l.asked.items ≡ filter_map (λ word. hexadecimal (string_bytes word)) (take l.word-index l.words)
