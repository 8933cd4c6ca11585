use Rattle.std.proofs.Common.{ℕ}
use Rattle.std.specs.Prelude.{unwrap_or}
use Rattle.icu_trie.specs.Parts.{trie_value}
use Rattle.icu_collections_c.specs.CopiedText.{IsCopiedText}
use Rattle.icu_collections_c.specs.Inside.TextCells.{parts_from}
use Rattle.icu_collections_c.proofs.CopiedTextLemmas.{copied_by_parts}
use Rattle.icu_collections_c.proofs.texts.copy_utf8.Goals as goal

pub returns : goal.returns
returns g c =
    let parts = c.text_values-parts.result in
    let known = c.text_values-parts.ensures in
    let by_parts : IsCopiedText
    (λ (u : ℕ). unwrap_or
    (trie_value (parts_from g.T.AsULE.unpack g.T.AsULE.WIDTH parts.header parts.index.now parts.cells.now) u) parts.none)
    c.args.text.now c.args.values.now c.copy_characters.new.values c.copy_characters.result.values c.copy_characters.result.bytes =
    copied_by_parts
    (λ (u : ℕ). unwrap_or
    (trie_value (parts_from g.T.AsULE.unpack g.T.AsULE.WIDTH parts.header parts.index.now parts.cells.now) u) parts.none)
    c.args.text.now c.args.values.now c.copy_characters.new.values c.copy_characters.result c.copy_characters.auto.values
    c.copy_characters.ensures in
    rw (known.header, known.index, known.cells, known.none) at by_parts
