use Rattle.std.proofs.Common.{◌≡◌, take}
use Rattle.icu_char16trie_builder.specs.Inside.Cuts.{cut}
use Rattle.icu_char16trie_builder.proofs.known.are_alike.Given as goal

-- The entries so far are equal.
abbrev pub invariant-loop-i : goal.invariant-loop-i
invariant-loop-i l = cut l.a_depth (take l.i l.a) ≡ cut l.b_depth (take l.i l.b)
