use Rattle.std.proofs.Common.{◌≡◌, ℕ, ◌<◌, slice_index, Err, true, refl, rules, ap}
use Rattle.std.specs.Prelude.{is_some}
use Rattle.icu_trie_builder.specs.declared.error.BuildError.TheVariants.{TooLarge}
use Rattle.icu_trie_builder.specs.Inside.ValuesOfNumbers.{number_value, AreValuesOf}
use Rattle.icu_trie_builder.specs.Built.{IsBuiltFrom}
use Rattle.icu_trie_builder.proofs.BuilderLemmas.{all_numbers, number-of_value, IfOk-three}
use Rattle.icu_trie_builder.proofs.ValuesOfNumbers.{map_no_fault, map_trie}
use Rattle.icu_trie_builder.proofs.SameMapLemmas.{IsTooLarge-alike}
use Rattle.icu_trie_builder.proofs.build.build_map.Goals as goal

pub returns-in_err-trie-clause-too_large : goal.returns-in_err-trie-clause-too_large
returns-in_err-trie-clause-too_large g c = λ e.
    let number = g.T.TrieValue.number in
    let large : c.in_err-trie.field-0.0 ≡ TooLarge = search rules in
    let is : (k : ℕ) → k < 0x110000 → slice_index c.args.numbers.now k
    ≡ number (number_value g.T.TrieValue.of_number c.args.default c.args.numbers.now k) =
    number-of_value g.T.AsULE.is_value number g.T.TrieValue.of_number g.met.T.TrieValue.number_gives_back c.args.numbers.now c.args.default
    c.args.error c.requires in
    IsTooLarge-alike (λ k. slice_index c.args.numbers.now k)
    (λ k. number (number_value g.T.TrieValue.of_number c.args.default c.args.numbers.now k)) is
    (c.in_err-trie.ensures.too_large (ap (λ x. Err x) large))

pub trie_of-requires-clause-numbers : goal.trie_of-requires-clause-numbers
trie_of-requires-clause-numbers g c =
    let number = g.T.TrieValue.number in
    let of_number = g.T.TrieValue.of_number in
    let error_back : is_some (of_number c.to_u32.result) ≡ true =
    rw (c.to_u32.ensures, g.met.T.TrieValue.number_gives_back c.args.error c.requires.error_value) refl in
    c.in_ok-trie.ensures.drawn (λ n. is_some (of_number n))
    (all_numbers g.T.AsULE.is_value number of_number g.met.T.TrieValue.number_gives_back c.args.numbers.now c.args.default c.args.error
    c.requires)
    error_back

pub returns-clause-trie : goal.returns-clause-trie
returns-clause-trie g c =
    let trie = c.in_ok-trie.trie in
    let number = g.T.TrieValue.number in
    let of_number = g.T.TrieValue.of_number in
    let f : ℕ → g.row.T.Denot = number_value of_number c.args.default c.args.numbers.now in
    let error = c.args.error in
    IfOk-three c.trie_of.result (λ t. t.header ≡ trie.header) (λ t. t.index ≡ trie.index.items)
    (λ t. AreValuesOf of_number trie.values.items t.values) (IsBuiltFrom number of_number f c.args.default error c.args.trie_type)
    (map_trie g.T.AsULE.is_value number of_number g.met.T.TrieValue.number_gives_back c.args.numbers.now c.args.default error c.requires
    trie.header trie.index.items trie.values.items c.to_u32.result c.to_u32-2.result c.to_u32.ensures c.to_u32-2.ensures
    c.in_ok-trie.ensures.built c.in_ok-trie.ensures.null_default c.in_ok-trie.ensures.null_value c.args.trie_type
    c.in_ok-trie.ensures.trie_type)
    c.trie_of.ensures.header c.trie_of.ensures.index c.trie_of.ensures.values

pub trie_of-requires-clause-sound : goal.trie_of-requires-clause-sound
trie_of-requires-clause-sound g c =
    let trie = c.in_ok-trie.trie in
    map_no_fault g.T.AsULE.is_value g.T.TrieValue.number g.T.TrieValue.of_number g.met.T.TrieValue.number_gives_back c.args.numbers.now
    c.args.default c.args.error c.requires
    trie.header trie.index.items trie.values.items c.to_u32.result c.to_u32-2.result c.to_u32.ensures c.to_u32-2.ensures
    c.in_ok-trie.ensures.built c.in_ok-trie.ensures.null_default c.in_ok-trie.ensures.null_value
