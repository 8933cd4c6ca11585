-- The error of a trie of the header's width is that of the bytes.
use Rattle.std.proofs.Common.{rules, sym, ◌∙◌}
use Rattle.icu_trie_binary.proofs.BinaryLemmas.{none_of_width}
use Rattle.icu_trie_binary.specs.declared.header.ValueWidth.TheVariants.{Bits16, Bits32, Bits8}
use Rattle.icu_trie_binary.proofs.binary.from_binary_any.Goals as goal

pub returns-in_err-trie-in-Bits8-clause-err : goal.returns-in_err-trie-in-Bits8-clause-err
returns-in_err-trie-in-Bits8-clause-err c =
    none_of_width _ _ Bits8 _ (sym c.header_of.ensures ∙ c.in_ok-header_of.was) c.in-Bits8.is (search rules)

pub returns-in_err-trie-in-Bits16-clause-err : goal.returns-in_err-trie-in-Bits16-clause-err
returns-in_err-trie-in-Bits16-clause-err c =
    none_of_width _ _ Bits16 _ (sym c.header_of.ensures ∙ c.in_ok-header_of.was) c.in-Bits16.is (search rules)

pub returns-in_err-trie-in-Bits32-clause-err : goal.returns-in_err-trie-in-Bits32-clause-err
returns-in_err-trie-in-Bits32-clause-err c =
    none_of_width _ _ Bits32 _ (sym c.header_of.ensures ∙ c.in_ok-header_of.was) c.in-Bits32.is (search rules)
