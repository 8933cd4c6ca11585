use Rattle.std.proofs.Common.{arith, ◌+◌}
use Rattle.icu_char16trie_builder.specs.Entries.{most_units}
use Rattle.icu_char16trie_builder.specs.Sorted.{pair_map}
use Rattle.icu_char16trie_builder.proofs.EntryLemmas.{most_none, too_much}
use Rattle.icu_char16trie_builder.proofs.SortedLemmas.{blank, most_more, most_least}
use Rattle.icu_char16trie_builder.proofs.sorted.fit.Goals as goal

pub loop-i-init : goal.loop-i-init
loop-i-init c = record { total = most_none; few = omega arith }

pub returns-in_default : goal.returns-in_default
returns-in_default c =
    let more = most_more c.loop-i.i c.args.entries.now blank c.loop-i-test.true in
    let least = most_least (c.loop-i.i + 1) c.args.entries.now in
    too_much (most_units (pair_map c.args.entries.now)) 2147483647
    (omega (arith, more, least, c.loop-i.invariant.total, c.in_default.ensures))

pub loop-i-preserved : goal.loop-i-preserved
loop-i-preserved c =
    let more = most_more c.loop-i.i c.args.entries.now blank c.loop-i-test.true in
    record {
      total = omega (arith, more, c.loop-i.invariant.total, c.in-Some.ensures);
      few = omega (arith, c.in-Some.ensures);
    }
