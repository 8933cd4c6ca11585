use Rattle.std.proofs.Common.{refl, arith}
use Rattle.icu_trie_text.proofs.CallerLemmas.{ascii_known}
use Rattle.icu_collections_c.specs.Inside.TextCells.{parts_from}
use Rattle.icu_collections_c.proofs.texts.text_values.Goals as goal

pub invariant_of-result : goal.invariant_of-result
invariant_of-result g c =
    let found = c.ascii_end.ensures in
    record {
      ascii = ascii_known
          (parts_from g.T.AsULE.unpack g.T.AsULE.WIDTH c.header_of-header.result c.args.trie.now.index.now c.args.trie.now.values.now)
          _ _ c.ascii_end.result refl refl found.bound found.first found.second found.there;
      there = omega arith;
      fast = omega arith;
    }
