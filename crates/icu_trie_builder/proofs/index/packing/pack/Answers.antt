use Rattle.std.proofs.Common.{rules, ◌≡◌, ◌+◌, ◌*◌, [], arith, refl}
use Rattle.icu_trie_builder.specs.Inside.Index.IndexParts.{packed_cell}
use Rattle.icu_trie_builder.proofs.IndexLemmas.Growing.{grown-more}
use Rattle.icu_trie_builder.proofs.IndexLemmas.PackingLemmas.{packed-all}
use Rattle.icu_trie_builder.proofs.index.packing.pack.Goals as goal

pub loop-group-preserved : goal.loop-group-preserved
loop-group-preserved c =
    let offsets = c.args.offsets.now in
    let group = c.loop-group.group in
    let n : 9 * (group + 1) ≡ 9 * group + 9 = omega arith in
    rw n (grown-more (9 * group) 9 (packed_cell offsets)
    (λ x. packed_cell offsets (9 * group + x)) [] c.loop-group.packed.items c.push_group.new.packed.items
    c.loop-group.invariant c.in_ok-push_group.ensures (λ j l. refl))

pub returns : goal.returns
returns c = packed-all c.args.offsets.now c.loop-group.packed.items (search rules)
