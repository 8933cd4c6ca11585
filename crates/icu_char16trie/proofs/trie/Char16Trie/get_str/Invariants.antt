use Rattle.icu_zerovec.specs.Slice.{slice_values}
use Rattle.std.proofs.Common.{length}
use Rattle.icu_char16trie.specs.Inside.Texts.{AreTextUnits, units_left}
use Rattle.icu_char16trie.proofs.TextLemmas.{HasRead}
use Rattle.icu_char16trie.proofs.trie.Char16Trie.get_str.Given as goal

abbrev pub invariant-loop-unit : goal.invariant-loop-unit
invariant-loop-unit l = record {
  units : AreTextUnits l.text;
  at : HasRead (slice_values l.units) l.fn.key l.text l.node;
}

abbrev pub decreases-loop-unit : goal.decreases-loop-unit
decreases-loop-unit l = length (units_left l.text)
