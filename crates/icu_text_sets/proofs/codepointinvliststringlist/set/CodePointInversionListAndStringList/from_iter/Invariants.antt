use Rattle.std.proofs.Common.{map}
use Rattle.icu_text_sets.specs.TextSet.{texts_of}
use Rattle.icu_text_sets.proofs.Gathering.{IsGathered}
use Rattle.icu_text_sets.proofs.codepointinvliststringlist.set.CodePointInversionListAndStringList.from_iter.Given as goal

abbrev pub invariant-loop-text : goal.invariant-loop-text
invariant-loop-text g l = IsGathered (map (λ t. t.now) l.yielded) l.builder (texts_of l.str_list.items)
