use Rattle.std.proofs.Common.{rules, string_bytes}
use Rattle.icu_text_sets.specs.TextSet.{text_cmp}
use Rattle.icu_text_sets.proofs.Ascending.{found_place, found_among, always_same}
use Rattle.icu_text_sets.proofs.codepointinvliststringlist.set.find.Goals as goal

place : goal.returns-clause-place
place c =
    found_place c.args.strings.now c.args.text.now c.binary_search_by.result c.requires c.binary_search_by.ensures.bound
    (c.binary_search_by.ensures.position (λ s. text_cmp (string_bytes s) c.args.text.now) (always_same _ _ _ (λ a r g k. search rules)))

pub returns-clause-found : goal.returns-clause-found
returns-clause-found c = found_among _ _ _ (place c)

pub returns-clause-place : goal.returns-clause-place
returns-clause-place c = place c
