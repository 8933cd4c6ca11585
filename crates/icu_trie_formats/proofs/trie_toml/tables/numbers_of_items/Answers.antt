use Rattle.std.proofs.Common.{sym, ap}
use Rattle.std.specs.Option.{ok_or}
use Rattle.toml.specs.View.{view}
use Rattle.icu_trie_formats.specs.TrieToml.{number_or, out_of_range}
use Rattle.icu_zerovec.proofs.CallerLemmas.{stops, goes_on, at_end}
use Rattle.icu_trie_formats.proofs.trie_toml.tables.numbers_of_items.Goals as goal

pub returns-in_default-number_of-clause-err : goal.returns-in_default-number_of-clause-err
returns-in_default-number_of-clause-err g c =
    stops (λ _ d. number_or g.N.TrieValue.of_number c.args.key.now d) view c.args.items.now c.loop-item.item-index c.item-item.result
    c.loop-item.numbers.items _ (out_of_range c.args.key.now) c.loop-item-test.true c.item-item.is c.loop-item.invariant
    (ap (λ o. ok_or o (out_of_range c.args.key.now)) (sym c.in_default-number_of.ensures))

pub loop-item-preserved : goal.loop-item-preserved
loop-item-preserved g c =
    goes_on (λ _ d. number_or g.N.TrieValue.of_number c.args.key.now d) view c.args.items.now c.loop-item.item-index c.item-item.result
    c.loop-item.numbers.items c.push.new.self.items _ c.in-Some.number c.loop-item-test.true c.item-item.is c.loop-item.invariant
    (ap (λ o. ok_or o (out_of_range c.args.key.now)) (sym c.in-Some.ensures)) c.in-Ok-push.ensures.items

pub returns-clause-ok : goal.returns-clause-ok
returns-clause-ok g c =
    at_end (λ _ d. number_or g.N.TrieValue.of_number c.args.key.now d) view c.args.items.now c.loop-item.item-index
    c.loop-item.numbers.items _ c.loop-item-test.false c.loop-item.invariant
