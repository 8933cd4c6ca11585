use Rattle.std.proofs.Common.{arith, ◌++◌, ◌∷◌, []}
use Rattle.icu_trie.specs.Iterators.{GivesNextRange}
use Rattle.icu_trie.proofs.ValueLemmas.{Yields-one_more, passed_more}
use Rattle.icu_trie.proofs.ranges_of_value.IterRangesForValueIterator.next.Goals as goal

pub loop-range-preserved : goal.loop-range-preserved
loop-range-preserved g c =
    let inv = c.loop-range.invariant in
    let step = c.in-Some.ensures.steps in
    let moves = step.moves in
    let shape = step.gives.shape in
    let first = shape.0 in
    let up = shape.1 in
    let before = inv.1 in (
      inv.0,
      omega (arith, moves, first, up, before),
      (
        inv.2.0 ++ c.in-Some.range ∷ [],
        Yields-one_more (GivesNextRange g.T.TrieValue.of_number) c.args.self.now.ranges inv.2.0 c.loop-range.self.ranges c.in-Some.range
            c.next.new.self inv.2.1 step,
        passed_more g.T.PartialEq.eq c.args.self.now.value inv.2.0 c.in-Some.range inv.2.2 (let e = inv.0 in let r = c.eq.ensures in
            let f = c.if-eq.false in cc),
      ),
    )
