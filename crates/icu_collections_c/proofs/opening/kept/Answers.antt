-- The index and the data are where the header says.
use Rattle.std.proofs.Common.{◌≡◌, ◌∙◌, ◌+◌, ◌-◌, ◌*◌, ◌%◌, ap, arith, length, take, drop}
use Rattle.icu_zerovec.specs.Cells.{values_of}
use Rattle.icu_trie_core.specs.Format.{fast_limit}
use Rattle.icu_trie_core.specs.declared.header.CodePointTrieHeader.{CodePointTrieHeader}
use Rattle.icu_trie.specs.Parts.{Parts, parts_fault}
use Rattle.icu_collections_c.specs.BytesTrie.{cells_of}
use Rattle.icu_collections_c.proofs.OpeningLemmas.{parts-told, places-stored, type-of_limit}
use Rattle.icu_collections_c.proofs.opening.kept.Goals as goal

pub parts_between-requires-clause-within : goal.parts_between-requires-clause-within
parts_between-requires-clause-within g c =
    let at = places-stored g.T.AsULE.unpack g.T.AsULE.WIDTH g.T.TrieValue.number g.T.TrieValue.of_number c.args.bytes.now c.args.trie.now
    c.args.size c.requires in
    omega (arith, at.within, c.len.ensures.len, ap length c.parts.ensures.index)

pub parts_between-requires-clause-fits : goal.parts_between-requires-clause-fits
parts_between-requires-clause-fits g c =
    let at = places-stored g.T.AsULE.unpack g.T.AsULE.WIDTH g.T.TrieValue.number g.T.TrieValue.of_number c.args.bytes.now c.args.trie.now
    c.args.size c.requires in
    at.fits

pub returns-clause-parts : goal.returns-clause-parts
returns-clause-parts g c =
    let read = g.T.AsULE.unpack in
    let width = g.T.AsULE.WIDTH in
    let bytes = c.args.bytes.now in
    let at = places-stored read width g.T.TrieValue.number g.T.TrieValue.of_number bytes c.args.trie.now c.args.size c.requires in
    let count : c.len.result ≡ length c.args.trie.now.index = c.len.ensures.len ∙ ap length c.parts.ensures.index in
    parts-told read width _ c.parts_between.result.0.now c.parts_between.result.1.now c.args.trie.now
    (rw (c.fast_limit.ensures.limit, type-of_limit) c.parts.ensures.header)
    (ap (cells_of 2) c.parts_between.ensures.index ∙ ap (λ n. cells_of 2 (take (16 + 2 * n - 16) (drop 16 bytes))) count ∙ at.index_read)
    (ap (values_of read width) c.parts_between.ensures.values
    ∙ ap (λ n. values_of read width (take (c.args.size - (16 + 2 * n)) (drop (16 + 2 * n) bytes))) count ∙ at.values_read)

pub returns-clause-limit : goal.returns-clause-limit
returns-clause-limit g c =
    c.fast_limit.ensures.limit ∙ ap (λ (h : CodePointTrieHeader). fast_limit h.trie_type) c.parts.ensures.header

pub returns-clause-sound : goal.returns-clause-sound
returns-clause-sound g c =
    let width = g.T.AsULE.WIDTH in
    let bytes = c.args.bytes.now in
    let at = places-stored g.T.AsULE.unpack width g.T.TrieValue.number g.T.TrieValue.of_number bytes c.args.trie.now c.args.size
    c.requires in
    let count : c.len.result ≡ length c.args.trie.now.index = c.len.ensures.len ∙ ap length c.parts.ensures.index in
    record {
      index = ap (λ cells. length cells % 2) c.parts_between.ensures.index
          ∙ ap (λ n. length (take (16 + 2 * n - 16) (drop 16 bytes)) % 2) count ∙ at.index_whole;
      values = ap (λ cells. length cells % width) c.parts_between.ensures.values
          ∙ ap (λ n. length (take (c.args.size - (16 + 2 * n)) (drop (16 + 2 * n) bytes)) % width) count ∙ at.values_whole;
      parts = ap (λ (p : Parts _). parts_fault g.T.TrieValue.of_number p.header p.index p.values) (returns-clause-parts g c)
          ∙ c.parts.ensures.whole;
    }
