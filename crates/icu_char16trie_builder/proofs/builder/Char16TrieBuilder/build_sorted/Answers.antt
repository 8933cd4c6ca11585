use Rattle.std.proofs.Common.{◌≡◌, arith, ap, ◌∙◌}
use Rattle.icu_char16trie_builder.specs.Entries.{most_units}
use Rattle.icu_char16trie_builder.specs.Sorted.{pair_map}
use Rattle.icu_char16trie_builder.specs.Inside.Cuts.{room}
use Rattle.icu_char16trie_builder.specs.declared.error.SortedError.TheVariants.{KeyTooLong, NotAscending, TooLarge}
use Rattle.icu_char16trie_builder.proofs.SortedLemmas.{room_of_pairs, told_refusal, told_other, told_memory}
use Rattle.icu_char16trie_builder.proofs.builder.Char16TrieBuilder.build_sorted.Goals as goal

pub returns-in-Some-clause-too_long : goal.returns-in-Some-clause-too_long
returns-in-Some-clause-too_long c i = told_refusal (pair_map c.args.entries.now) c.in-Some.error (KeyTooLong i) c.in-Some.ensures

pub returns-in-Some-clause-not_ascending : goal.returns-in-Some-clause-not_ascending
returns-in-Some-clause-not_ascending c i = told_refusal (pair_map c.args.entries.now) c.in-Some.error (NotAscending i) c.in-Some.ensures

pub returns-in-Some-clause-too_large : goal.returns-in-Some-clause-too_large
returns-in-Some-clause-too_large c = told_refusal (pair_map c.args.entries.now) c.in-Some.error TooLarge c.in-Some.ensures

pub returns-in_err-list-clause-not_ascending : goal.returns-in_err-list-clause-not_ascending
returns-in_err-list-clause-not_ascending c i =
    told_memory (pair_map c.args.entries.now) c.from_residual.result (NotAscending i) c.in_default.ensures
    c.from_residual.ensures.1 (λ s. cc)

pub trie_of-requires-clause-few : goal.trie_of-requires-clause-few
trie_of-requires-clause-few c =
    let same : room 0 c.as_slice.result.now ≡ most_units (pair_map c.args.entries.now) =
    ap (room 0) c.as_slice.ensures.value ∙ room_of_pairs c.in_ok-list.list.items (pair_map c.args.entries.now) c.in_ok-list.ensures in
    omega (arith, same, c.in_default.ensures.1)

pub returns-in_err-trie-clause-not_ascending : goal.returns-in_err-trie-clause-not_ascending
returns-in_err-trie-clause-not_ascending c i =
    told_memory (pair_map c.args.entries.now) c.from_residual-in_err-trie.result (NotAscending i) c.in_default.ensures
    c.from_residual-in_err-trie.ensures.1 (λ s. cc)

pub returns-clause-bound : goal.returns-clause-bound
returns-clause-bound c =
    let same : room 0 c.as_slice.result.now ≡ most_units (pair_map c.args.entries.now) =
    ap (room 0) c.as_slice.ensures.value ∙ room_of_pairs c.in_ok-list.list.items (pair_map c.args.entries.now) c.in_ok-list.ensures in
    omega (arith, same, c.in_ok-trie.ensures.bound)

pub returns-clause-not_ascending : goal.returns-clause-not_ascending
returns-clause-not_ascending c i = told_other (pair_map c.args.entries.now) _ (NotAscending i) c.in_default.ensures (λ s. cc)
