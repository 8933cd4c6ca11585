use Rattle.std.proofs.Common.{◌≡◌, ◌≤◌, take}
use Rattle.icu_char16trie_builder.specs.Inside.Cuts.{room}
use Rattle.icu_char16trie_builder.proofs.builder.fits.Given as goal

abbrev pub invariant-loop-i : goal.invariant-loop-i
invariant-loop-i l = record { total : room 0 (take l.i l.entries) ≡ l.total; few : l.total ≤ 0x7FFF_FFFF }
