use Rattle.std.proofs.Common.{◌≡◌, true, ◌-◌, drop, length}
use Rattle.std.specs.Str.{IsUtf8}
use Rattle.icu_trie_text.specs.CopiedParts.{AreCopiedParts}
use Rattle.icu_trie_text.proofs.copy_parts.copy_front.Given as goal

abbrev pub invariant-loop-front : goal.invariant-loop-front
invariant-loop-front g l = record {
  text : g.R.Reading.trusts ≡ true → IsUtf8 (drop l.front.bytes l.bytes);
  copied : AreCopiedParts (g.V.PartValues.gives l.trie) l.bytes l.initial.values l.values l.front.bytes l.front.values;
}

abbrev pub decreases-loop-front : goal.decreases-loop-front
decreases-loop-front g l = length l.bytes - l.front.bytes
