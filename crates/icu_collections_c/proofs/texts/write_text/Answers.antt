use Rattle.std.proofs.Common.{ℕ, ap, length, arith}
use Rattle.std.specs.Prelude.{unwrap_or}
use Rattle.std.specs.Str.{chars}
use Rattle.std.proofs.lemmas.Str.{encodes-chars, length-le-encodes}
use Rattle.icu_trie.specs.Parts.{trie_value}
use Rattle.icu_collections_c.specs.BytesTrie.{parts_in}
use Rattle.icu_collections_c.proofs.CopiedTextLemmas.{copied_count, copied_text}
use Rattle.icu_collections_c.proofs.texts.write_text.Goals as goal

pub returns-then-copied-text-clause-values : goal.returns-then-copied-text-clause-values
returns-then-copied-text-clause-values g c =
    copied_text (λ (u : ℕ). unwrap_or (trie_value (parts_in g.T.AsULE.unpack g.T.AsULE.WIDTH c.args.trie.now) u) c.args.none)
    c.args.text.now c.args.values.now c.copy_utf8-copied.new.values c.copy_utf8-copied.result.values c.copy_utf8-copied.result.bytes
    c.requires c.copy_utf8-copied.ensures

pub returns-clause-values : goal.returns-clause-values
returns-clause-values g c =
    copied_text (λ (u : ℕ). unwrap_or (trie_value (parts_in g.T.AsULE.unpack g.T.AsULE.WIDTH c.args.trie.now) u) c.args.none)
    c.args.text.now c.args.values.now c.copy_utf8-copied.new.values c.copy_utf8-copied.result.values c.copy_utf8-copied.result.bytes
    c.requires c.copy_utf8-copied.ensures

pub returns-clause-count : goal.returns-clause-count
returns-clause-count g c =
    copied_count (λ (u : ℕ). unwrap_or (trie_value (parts_in g.T.AsULE.unpack g.T.AsULE.WIDTH c.args.trie.now) u) c.args.none)
    c.args.text.now c.args.values.now c.copy_utf8-copied.new.values c.copy_utf8-copied.result.values c.copy_utf8-copied.result.bytes
    c.requires c.copy_utf8-copied.ensures (omega (arith, c.if-copied-text.false))

pub returns-clause-bound : goal.returns-clause-bound
returns-clause-bound g c =
    let count = returns-clause-count g c in
    let bytes = ap (λ (bs : _). length bs) (encodes-chars c.args.text.now c.requires) in
    omega (arith, count, bytes, length-le-encodes (chars c.args.text.now))
