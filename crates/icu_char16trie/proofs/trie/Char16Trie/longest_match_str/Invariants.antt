use Rattle.icu_zerovec.specs.Slice.{slice_values}
use Rattle.std.proofs.Common.{length}
use Rattle.icu_char16trie.specs.Inside.Texts.{AreTextUnits, units_left}
use Rattle.icu_char16trie.proofs.LongestTextLemmas.{IsFound}
use Rattle.icu_char16trie.proofs.TextLemmas.{HasRead}
use Rattle.icu_char16trie.proofs.trie.Char16Trie.longest_match_str.Given as goal

-- The node's value is not looked up yet.
abbrev pub invariant-loop-lead : goal.invariant-loop-lead
invariant-loop-lead l = record {
  units : AreTextUnits l.left;
  at : HasRead (slice_values l.units) l.fn.text l.left l.node;
  longest : IsFound (slice_values l.units) l.fn.text at.passed l.found;
}

abbrev pub decreases-loop-lead : goal.decreases-loop-lead
decreases-loop-lead l = length (units_left l.left)
