-- The items are the entries, since none of them was a failed allocation.
use Rattle.std.proofs.Common.{sym, subst, w32, rules, map}
use Rattle.std.specs.Iterator.{Yields, Drains}
use Rattle.std.proofs.lemmas.Int.{to_z-of_z}
use Rattle.icu_char16trie.specs.Grammar.{IsTrieOf}
use Rattle.icu_char16trie.specs.Entries.{GivesNext}
use Rattle.icu_char16trie_builder.proofs.CallerLemmas.{AreEntries-of_run, shown, texts_of_entries}
use Rattle.icu_collections_c.proofs.RunLemmas.{HasGone-more, texts-shown}
use Rattle.icu_collections_c.proofs.listing.listed.Goals as goal

pub add-requires : goal.add-requires
add-requires c = record {
  few = rw c.loop-item.invariant.kept.bytes_room c.requires.few;
  words = rw c.loop-item.invariant.kept.words_room c.requires.words;
}

pub loop-item-preserved : goal.loop-item-preserved
loop-item-preserved c =
    rw c.in_ok-text.was
    (HasGone-more c.loop-item.yielded c.args.most_words c.args.most_bytes c.loop-item.listing c.add.new.self c.in_ok-text.text
    c.in_ok-text.value
    c.loop-item.invariant _ _ c.as_str.ensures.value (to_z-of_z w32 c.in_ok-text.value (search rules)) c.in_ok-add.ensures.ok)

pub returns : goal.returns
returns c =
    let begun : Yields GivesNext c.into_iter-item-iterator.result c.loop-item.yielded c.loop-item.item-iterator = c.loop-item.yielded_by in
    let drained : Drains GivesNext c.iter2-item-items.result c.loop-item.yielded = (
      c.next.new.self,
      (
        c.loop-item.item-iterator,
        rw c.into_iter-item-iterator.ensures.into_iter_gives at begun,
        c.in-None.ensures.steps,
      ),
    ) in
    let gone = c.loop-item.invariant in
    record {
      items = map shown gone.entries;
      of_units = record {
        texts = texts-shown gone.entries;
        entries = λ m trie.
            texts_of_entries gone.entries m
            (AreEntries-of_run gone.entries m
            (rw gone.items_are at (c.iter2-item-items.ensures.drained m c.loop-item.yielded
            (subst (λ z. IsTrieOf z m) (sym c.trie_in-trie.ensures) trie) drained)));
      };
      kept = gone.kept;
    }
