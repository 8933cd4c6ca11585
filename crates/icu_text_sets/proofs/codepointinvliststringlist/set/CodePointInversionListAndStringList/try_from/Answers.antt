use Rattle.std.proofs.Common.{◌∙◌, ap, sym}
use Rattle.icu_text_sets.specs.TextSet.{texts_of}
use Rattle.icu_text_sets.specs.TextFaults.{strings_fault}
use Rattle.icu_text_sets.proofs.Walks.{faultless}
use Rattle.icu_text_sets.proofs.codepointinvliststringlist.set.CodePointInversionListAndStringList.try_from.Goals as goal

pub invariant_of-result : goal.invariant_of-result
invariant_of-result c = faultless (texts_of c.args.str_list.items)
    (ap (λ xs. strings_fault (texts_of xs)) (sym c.deref.ensures.value) ∙ c.in-None.ensures.first)
