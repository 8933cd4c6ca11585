use Rattle.std.proofs.Common.{sym, ap, subst, ◌∙◌, List, String, Global}
use Rattle.std.specs.String.{string_cmp, string_eq}
use Rattle.std.specs.List.Sorted.{IsStrictlySortedBy}
use Rattle.std.proofs.lemmas.List.Filters.{dedup_is}
use Rattle.icu_text_sets.specs.TextSet.{texts_of, is_among}
use Rattle.icu_text_sets.proofs.Sorting.{strict_list, strictly_sorted, same_among}
use Rattle.icu_text_sets.proofs.codepointinvliststringlist.make.sort_strings.Goals as goal

holds : goal.returns-clause-holds
holds c = λ t.
    ap (λ (ts : List (String Global)). is_among (texts_of ts) t)
    (dedup_is string_eq c.sort_unstable.new.self.items c.dedup.new.self.items c.dedup.ensures.filtered)
    ∙ same_among c.args.strings.now.items c.sort_unstable.new.self.items c.sort_unstable.ensures.permutation t

pub returns-clause-holds : goal.returns-clause-holds
returns-clause-holds c = holds c

pub returns-clause-list : goal.returns-clause-list
returns-clause-list c =
    strict_list c.dedup.new.self.items (λ t a. c.requires t (sym (holds c t) ∙ a))
    (subst (λ (ts : List (String Global)). IsStrictlySortedBy string_cmp ts)
    (sym (dedup_is string_eq c.sort_unstable.new.self.items c.dedup.new.self.items c.dedup.ensures.filtered))
    (strictly_sorted c.sort_unstable.new.self.items c.sort_unstable.ensures.sorted))
