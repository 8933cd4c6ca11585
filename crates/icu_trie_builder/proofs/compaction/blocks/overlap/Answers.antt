use Rattle.std.proofs.Common.{◌≡◌, ◌-◌, true, length, take, drop, arith, subst}
use Rattle.icu_trie_builder.proofs.CompactionLemmas.Windows.{tail-decides}
use Rattle.icu_trie_builder.proofs.compaction.blocks.overlap.Goals as goal

pub returns-then-eq-clause-tail : goal.returns-then-eq-clause-tail
returns-then-eq-clause-tail c =
    let n = length c.args.stored.now in
    (tail-decides c.args.stored.now (take c.loop-common.common c.args.wanted.now) (n - c.loop-common.common) c.eq.result c.eq.ensures).0
    c.if-eq.true

pub loop-common-preserved : goal.loop-common-preserved
loop-common-preserved c =
    let n = length c.args.stored.now in
    let v = c.loop-common.invariant in
    let here = tail-decides c.args.stored.now (take c.loop-common.common c.args.wanted.now)
    (n - c.loop-common.common) c.eq.result c.eq.ensures in
    record {
      below = omega (arith, v.below);
      inside = omega (arith, v.inside);
      longest = λ m l below within e.
          let apart : m ≡ c.loop-common.common → ⊥ =
          λ s. let t : c.eq.result ≡ true = here.1 (subst (λ i. drop (n - i) c.args.stored.now ≡ take i c.args.wanted.now) s e) in
          cc in
          v.longest m (omega (arith, l, apart, c.loop-common-test.true)) below within e;
    }
