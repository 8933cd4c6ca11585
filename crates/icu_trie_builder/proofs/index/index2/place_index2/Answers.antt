use Rattle.std.proofs.Common.{arith}
use Rattle.icu_trie_builder.proofs.IndexLemmas.Tails.{index2-placed, index2-placed-rest, length-rest}
use Rattle.icu_trie_builder.proofs.index.index2.place_index2.Goals as goal
use Rattle.icu_trie_builder.proofs.index.index2.place_index2.Goals.{then-rest-gt0+in_ok-last+in_ok-push, else-rest-gt0}

pub place-requires-clause-some : goal.place-requires-clause-some
place-requires-clause-some c = omega (arith, length-rest c.args.cells.now, c.if-rest-gt0.true)

pub place-requires-clause-limit : goal.place-requires-clause-limit
place-requires-clause-limit c = omega (arith, length-rest c.args.cells.now)

pub returns-clause-placed : goal.returns-clause-placed
returns-clause-placed c =
    let whole = c.in_ok-places.ensures in
    elim c.if-rest-gt0.branch [
      | then-rest-gt0+in_ok-last+in_ok-push w ↦ rw (w.store-is, w.places-is)
          (index2-placed-rest c.args.cells.now _ _ _ whole.placed whole.count whole.short c.requires.cells_fit c.requires.store_fit
          _ _ _ _ w.if-rest-gt0.true w.in_ok-last.ensures.placed w.in_ok-push.ensures.items)
      | else-rest-gt0 w ↦ rw (w.store-is, w.places-is)
          (index2-placed c.args.cells.now _ _ _ whole.placed whole.count whole.short c.requires.cells_fit c.requires.store_fit
          (search arith))
    ]
