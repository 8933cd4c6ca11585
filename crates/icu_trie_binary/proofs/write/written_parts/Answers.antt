-- The parts are read as the stored form, and take as many bytes as the header says.
use Rattle.std.proofs.Common.{◌≡◌, length, refl, sym, ◌∙◌, ap}
use Rattle.std.specs.List.{flat_map}
use Rattle.icu_zerovec.proofs.CallerLemmas.{canonical_u16}
use Rattle.icu_zerovec.specs.PackedBytes.{low_bytes}
use Rattle.icu_trie_binary.specs.BinaryHeader.{stored_length}
use Rattle.icu_trie_binary.specs.WrittenTrie.{header_bytes, padding, header_for, written_length}
use Rattle.icu_trie_binary.proofs.PartsLemmas.{parts-stored, parts-front, parts-header, parts-length}
use Rattle.icu_trie_binary.proofs.WrittenLemmas.{same_width}
use Rattle.icu_trie_binary.proofs.write.written_parts.Goals as goal

pub returns-clause-stored : goal.returns-clause-stored
returns-clause-stored g c rest =
    let is_header : c.header_bytes.result ≡ header_bytes (header_for g.T.AsULE.WIDTH g.T.TrieValue.number c.args.trie.now) =
    c.header_bytes.ensures ∙ ap header_bytes c.in_ok-header.ensures.header in
    let is_behind : c.padding.result.now ≡ flat_map (low_bytes 2) (padding g.T.AsULE.WIDTH (length c.args.trie.now.index)) =
    rw (c.WIDTH.ensures, c.len.ensures.len, c.parts.ensures.index) at c.padding.ensures.bytes in
    parts-stored g.T.AsULE.unpack g.T.AsULE.WIDTH g.T.TrieValue.number g.T.TrieValue.of_number c.args.trie.now c.in_ok-header.ensures.room
    c.in_ok-header.ensures.small
    c.parts.ensures.whole c.in_ok-header.ensures.null _ _ _ _ is_header c.as_bytes.ensures.packed
    (sym c.parts.ensures.index ∙ c.as_bytes.ensures.values) is_behind
    c.as_bytes-2.ensures.packed (sym c.parts.ensures.values ∙ c.as_bytes-2.ensures.values) rest

pub returns-clause-header : goal.returns-clause-header
returns-clause-header g c =
    let is_header : c.header_bytes.result ≡ header_bytes (header_for g.T.AsULE.WIDTH g.T.TrieValue.number c.args.trie.now) =
    c.header_bytes.ensures ∙ ap header_bytes c.in_ok-header.ensures.header in
    let is_behind : c.padding.result.now ≡ flat_map (low_bytes 2) (padding g.T.AsULE.WIDTH (length c.args.trie.now.index)) =
    rw (c.WIDTH.ensures, c.len.ensures.len, c.parts.ensures.index) at c.padding.ensures.bytes in
    parts-header g.T.AsULE.unpack g.T.AsULE.WIDTH g.T.TrieValue.number g.T.TrieValue.of_number c.args.trie.now c.in_ok-header.ensures.room
    c.in_ok-header.ensures.small
    c.parts.ensures.whole c.in_ok-header.ensures.null _ _ _ _ is_header c.as_bytes.ensures.packed
    (sym c.parts.ensures.index ∙ c.as_bytes.ensures.values) is_behind
    c.as_bytes-2.ensures.packed (sym c.parts.ensures.values ∙ c.as_bytes-2.ensures.values)

pub returns-clause-len : goal.returns-clause-len
returns-clause-len g c =
    let is_header : c.header_bytes.result ≡ header_bytes (header_for g.T.AsULE.WIDTH g.T.TrieValue.number c.args.trie.now) =
    c.header_bytes.ensures ∙ ap header_bytes c.in_ok-header.ensures.header in
    let is_behind : c.padding.result.now ≡ flat_map (low_bytes 2) (padding g.T.AsULE.WIDTH (length c.args.trie.now.index)) =
    rw (c.WIDTH.ensures, c.len.ensures.len, c.parts.ensures.index) at c.padding.ensures.bytes in
    let said : c.stored_length.result ≡ written_length g.T.AsULE.WIDTH g.T.TrieValue.number c.args.trie.now =
    c.stored_length.ensures ∙ ap stored_length c.in_ok-header.ensures.header
    ∙ rw (same_width g.T.AsULE.WIDTH g.T.TrieValue.number c.args.trie.now c.in_ok-header.ensures.room) refl in
    said
    ∙ sym (parts-length g.T.AsULE.unpack g.T.AsULE.WIDTH g.T.TrieValue.number g.T.TrieValue.of_number c.args.trie.now
    c.in_ok-header.ensures.room c.in_ok-header.ensures.small
    c.parts.ensures.whole c.in_ok-header.ensures.null _ _ _ _ is_header c.as_bytes.ensures.packed
    (sym c.parts.ensures.index ∙ c.as_bytes.ensures.values) is_behind
    c.as_bytes-2.ensures.packed (sym c.parts.ensures.values ∙ c.as_bytes-2.ensures.values))

pub returns-clause-front : goal.returns-clause-front
returns-clause-front g c =
    let is_header : c.header_bytes.result ≡ header_bytes (header_for g.T.AsULE.WIDTH g.T.TrieValue.number c.args.trie.now) =
    c.header_bytes.ensures ∙ ap header_bytes c.in_ok-header.ensures.header in
    let is_behind : c.padding.result.now ≡ flat_map (low_bytes 2) (padding g.T.AsULE.WIDTH (length c.args.trie.now.index)) =
    rw (c.WIDTH.ensures, c.len.ensures.len, c.parts.ensures.index) at c.padding.ensures.bytes in
    parts-front g.T.AsULE.unpack g.T.AsULE.WIDTH g.T.TrieValue.number g.T.TrieValue.of_number c.args.trie.now c.in_ok-header.ensures.room
    c.in_ok-header.ensures.small
    c.parts.ensures.whole c.in_ok-header.ensures.null _ _ _ _ is_header c.as_bytes.ensures.packed
    (sym c.parts.ensures.index ∙ c.as_bytes.ensures.values) is_behind
    c.as_bytes-2.ensures.packed (sym c.parts.ensures.values ∙ c.as_bytes-2.ensures.values)
    (c.as_bytes.ensures.canonical canonical_u16 ∙ ap (flat_map (low_bytes 2)) c.parts.ensures.index)
