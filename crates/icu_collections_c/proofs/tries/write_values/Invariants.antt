use Rattle.std.proofs.Common.{◌≡◌, take}
use Rattle.std.specs.Prelude.{map, unwrap_or}
use Rattle.icu_trie.specs.Parts.{trie_value}
use Rattle.icu_zerovec.specs.Buffers.{written}
use Rattle.icu_collections_c.specs.BytesTrie.{parts_in}
use Rattle.icu_collections_c.proofs.tries.write_values.Given as goal

abbrev pub invariant-loop-i : goal.invariant-loop-i
invariant-loop-i g l =
    l.values
    ≡ written
    (map (λ c. unwrap_or (trie_value (parts_in g.T.AsULE.unpack g.T.AsULE.WIDTH l.trie) c) l.none) (take l.i l.points))
    l.initial.values
