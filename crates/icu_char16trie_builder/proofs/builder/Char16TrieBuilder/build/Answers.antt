use Rattle.std.proofs.Common.{rules, arith, ◌≡◌, ◌≤◌, List, true, false, ap}
use Rattle.std.proofs.lemmas.List.{nil_from_length}
use Rattle.icu_char16trie_builder.specs.Entries.{entry_map, most_units}
use Rattle.icu_char16trie_builder.specs.Inside.Cuts.{room}
use Rattle.icu_char16trie_builder.specs.declared.entry.Entry.{Entry}
use Rattle.icu_char16trie_builder.proofs.EntryLemmas.{room_self, most_none, more_than}
use Rattle.icu_char16trie_builder.proofs.builder.Char16TrieBuilder.build.Goals as goal
use Rattle.icu_char16trie_builder.proofs.builder.Char16TrieBuilder.build.Goals.{In_ok-entries}

-- The bound of the entries is the largest number of units in a trie of the builder's map.
room_is : (c : In_ok-entries) {slice : List Entry} → slice ≡ c.in_ok-entries.entries.items → room 0 slice ≡ most_units c.args.self
room_is c is = room_self _ c.in_ok-entries.entries.items (entry_map c.self.inside.entries.entries) c.args.self is
    c.in_ok-entries.ensures (search rules)

pub returns-then-not-fits-clause-too_large : goal.returns-then-not-fits-clause-too_large
returns-then-not-fits-clause-too_large c _ =
    let same = room_is (goal.at.returns-then-not-fits-clause-too_large c).In_ok-entries c.as_slice.ensures.value in
    let out : c.fits.result ≡ false = search rules in
    let more = more_than c.fits.result (room 0 c.as_slice.result.now) 2147483647 c.fits.ensures out in
    omega (arith, same, more)

pub returns-clause-bound : goal.returns-clause-bound
returns-clause-bound c =
    let same = room_is (goal.at.returns-clause-bound c).In_ok-entries c.as_slice-2.ensures.value in
    omega (arith, same, c.in_ok-trie.ensures.bound)

pub returns-clause-empty : goal.returns-clause-empty
returns-clause-empty c e =
    let same = room_is (goal.at.returns-clause-empty c).In_ok-entries c.as_slice-2.ensures.value in
    nil_from_length c.in_ok-trie.trie (omega (arith, same, c.in_ok-trie.ensures.bound, ap most_units e, most_none))

pub returns-clause-fits : goal.returns-clause-fits
returns-clause-fits c =
    let same = room_is (goal.at.returns-clause-fits c).In_ok-entries c.as_slice.ensures.value in
    let yes : c.fits.result ≡ true = search rules in
    let small : room 0 c.as_slice.result.now ≤ 2147483647 = c.fits.ensures.0 yes in
    omega (arith, same, small)
