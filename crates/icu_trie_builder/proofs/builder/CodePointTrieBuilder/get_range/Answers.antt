use Rattle.std.proofs.Common.{◌≡◌, arith, get_or, sym}
use Rattle.icu_trie_builder.proofs.AmendLemmas.{longest-of_numbers}
use Rattle.icu_trie_builder.proofs.BuilderLemmas.{all_numbers}
use Rattle.icu_trie_builder.proofs.builder.CodePointTrieBuilder.get_range.Goals as goal

pub value_of_number-requires : goal.value_of_number-requires
value_of_number-requires g c =
    rw c.get-number.ensures (all_numbers g.T.AsULE.is_value g.T.TrieValue.number g.T.TrieValue.of_number g.met.T.TrieValue.number_gives_back
    c.self.inside.numbers c.self.inside.default c.self.inside.error c.self.invariant c.args.start 0 (omega (arith, c.self.invariant.whole)))

pub returns-clause-run : goal.returns-clause-run
returns-clause-run g c =
    let found = c.find_other-end.ensures in
    let here : get_or c.self.inside.numbers c.args.start 0 ≡ c.get-number.result = sym c.get-number.ensures in
    rw (← c.self.view_is) (longest-of_numbers g.T.AsULE.is_value g.T.TrieValue.number g.T.TrieValue.of_number
    g.met.T.TrieValue.number_gives_back
    c.self.inside.numbers c.self.inside.default c.self.inside.error c.self.invariant
    c.args.start c.new.result.end c.find_other-end.result c.get-number.result c.value_of_number.result (omega (arith, c.new.ensures)) here
    c.value_of_number.ensures
    (omega arith) found.from found.within found.same found.other)
