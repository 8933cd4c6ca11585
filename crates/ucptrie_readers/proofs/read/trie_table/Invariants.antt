use Rattle.std.proofs.Common.{◌≡◌, None, map}
use Rattle.ucptrie_readers.proofs.TomlLemmas.{first_among}
use Rattle.ucptrie_readers.proofs.read.trie_table.Given as goal

-- none of the values so far has a trie
abbrev pub invariant-loop-property : goal.invariant-loop-property
invariant-loop-property l = first_among (map (λ v. v.now) l.yielded) ≡ None
