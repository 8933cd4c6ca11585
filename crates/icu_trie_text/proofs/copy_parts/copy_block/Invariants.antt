use Rattle.std.proofs.Common.{true, ◌≡◌, ◌+◌, ◌-◌, ◌<◌, ◌≤◌, drop, length}
use Rattle.std.specs.Str.{IsUtf8}
use Rattle.icu_trie_text.specs.CopiedParts.{AreCopiedParts}
use Rattle.icu_trie_text.proofs.copy_parts.copy_block.Given as goal

abbrev pub invariant-loop-rest : goal.invariant-loop-rest
invariant-loop-rest g l = record {
  near : l.left < length l.rest + 4;
  within : length l.rest ≤ length l.bytes;
  room : l.j + l.fn.front.bytes + length l.rest ≤ l.fn.front.values + length l.bytes;
  size : length l.values ≡ length l.initial.values;
  from : l.rest ≡ drop (length l.bytes - length l.rest) l.bytes;
  text : g.R.Reading.trusts ≡ true → IsUtf8 l.rest;
  copied : (old : _)
      → AreCopiedParts (g.V.PartValues.gives l.trie) l.bytes old l.initial.values l.fn.front.bytes l.fn.front.values
      → AreCopiedParts (g.V.PartValues.gives l.trie) l.bytes old l.values (length l.bytes - length l.rest) l.j;
}

abbrev pub decreases-loop-rest : goal.decreases-loop-rest
decreases-loop-rest g l = length l.rest
