use Rattle.std.specs.Iterator.{Yields, Drains}
use Rattle.icu_collections.specs.Char16Trie.{GivesNext}
use Rattle.icu_collections.proofs.CallerLemmas.{AreEntries-of_run}
use Rattle.examples.proofs.words.list_of.Goals as goal

pub returns : goal.returns
returns c = λ m trie.
    let begun : Yields GivesNext c.into_iter-item-iterator.result c.loop-item.yielded c.loop-item.item-iterator = c.loop-item.yielded_by in
    let drained : Drains GivesNext c.iter2-item-items.result c.loop-item.yielded = (
      c.next.new.self,
      (
        c.loop-item.item-iterator,
        rw c.into_iter-item-iterator.ensures.into_iter_gives at begun,
        c.in-None.ensures.steps,
      ),
    ) in
    AreEntries-of_run c.loop-item.list.items m
    (rw (← c.loop-item.invariant) at (c.iter2-item-items.ensures.drained m c.loop-item.yielded trie drained))
