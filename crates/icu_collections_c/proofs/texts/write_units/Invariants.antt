use Rattle.std.proofs.Common.{◌≡◌, ◌++◌, ℕ, List, length}
use Rattle.std.specs.Prelude.{map, unwrap_or}
use Rattle.icu_trie.specs.Parts.{trie_value}
use Rattle.icu_utf.specs.Utf16.{code_points_of}
use Rattle.icu_zerovec.specs.Buffers.{written}
use Rattle.icu_collections_c.specs.BytesTrie.{parts_in}
use Rattle.icu_collections_c.proofs.texts.write_units.Given as goal

-- The values of the code points so far are written, as many as fit.
abbrev pub invariant-loop-c : goal.invariant-loop-c
invariant-loop-c g l =
    (done : List ℕ) × (code_points_of l.units ≡ done ++ code_points_of l.rest) × (l.count ≡ length done)
    × (l.values
    ≡ written (map (λ c. unwrap_or (trie_value (parts_in g.T.AsULE.unpack g.T.AsULE.WIDTH l.trie) c) l.none) done) l.initial.values)

abbrev pub decreases-loop-c : goal.decreases-loop-c
decreases-loop-c g l = length (code_points_of l.rest)
