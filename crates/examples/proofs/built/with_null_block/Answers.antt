use Rattle.std.proofs.Common.{◌<◌, ◌*◌, inl, inr}
use Rattle.icu_collections.specs.CodePointTrie.{fast_limit}
use Rattle.icu_collections.proofs.CallerLemmas.{NamesNull-some}
use Rattle.examples.proofs.built.with_null_block.Goals as goal

pub returns : goal.returns
returns g c =
    let trie = c.in_ok-trie.trie in
    let below : c.args.b * 64 < fast_limit trie.header.trie_type = rw c.in_ok-trie.ensures.trie.trie_type c.requires.below in
    elim (NamesNull-some _ _ _ c.in_ok-trie.ensures.trie.built.null_block (inl (c.args.b, below, c.requires.one, tt))) [
      | inl x ↦ inl (x.0, x.1, x.3)
      | inr x ↦ inr (x.0, x.1, x.2, x.4)
    ]
