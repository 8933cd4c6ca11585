use Rattle.std.proofs.Common.{length, ap}
use Rattle.icu_trie_builder.proofs.IndexLemmas.Laying.{index-upper}
use Rattle.icu_trie_builder.proofs.index.build_index.Goals as goal

pub returns-clause-index : goal.returns-clause-index
returns-clause-index c = index-upper c.args.trie_type c.args.high_start c.args.fast.now c.args.small.now c.new-cells.result.items
    c.push_fast.new.index.items
    (ap length c.new-cells.ensures.items) c.requires.fast_len c.in_ok-push_fast.ensures c.push_upper.new.index.items
    c.in_ok-null_offset.ensures.upper
