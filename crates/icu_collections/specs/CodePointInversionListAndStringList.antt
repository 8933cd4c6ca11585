-- The definitions of sets of code points and texts: their members, and why a list of texts is
-- rejected.
pub use Rattle.icu_text_sets.specs.TextSet.{HoldsTexts, IsStringList, TextSet, is_among, member, member_as, member_count, only_char, only_of, same_set, text_cmp, texts_of}
pub use Rattle.icu_text_sets.specs.TextFaults.{TextFault, fault_of, fault_of_one, fault_of_two, one_code_point, repeated, unsorted}
unfoldable pub use Rattle.icu_text_sets.specs.TextFaults.{strings_fault}
