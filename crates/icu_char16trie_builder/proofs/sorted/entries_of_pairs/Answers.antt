use Rattle.std.proofs.Common.{rules, ◌≡◌, ℤ, get_or, ap, ◌∙◌, to_z, of_z, w32}
use Rattle.std.proofs.lemmas.Int.{to_z-of_z}
use Rattle.icu_char16trie_builder.specs.Inside.Cuts.{cut}
use Rattle.icu_char16trie_builder.proofs.SortedLemmas.{blank, Pair, cut_more}
use Rattle.icu_char16trie_builder.proofs.sorted.entries_of_pairs.Goals as goal

pub loop-key-preserved : goal.loop-key-preserved
loop-key-preserved c =
    let pair : Pair = get_or c.args.pairs.now c.loop-key.key-index blank in
    let value : to_z w32 (of_z w32 pair.1) ≡ pair.1 = to_z-of_z w32 pair.1 (search rules) in
    ap (λ z. cut 0 z) c.in_ok-push.ensures.items
    ∙ cut_more c.loop-key.list.items _ c.args.pairs.now c.loop-key.key-index blank c.loop-key-test.true c.loop-key.invariant
    (ap (λ (z : ℤ). (pair.0.now, z)) value)
