use Rattle.std.proofs.Common.{◌≡◌, ◌∙◌, refl, [], Some}
use Rattle.icu_zerovec.specs.Cells.{values_of}
use Rattle.icu_zerovec.specs.PackedBytes.{number_of}
use Rattle.icu_invlist.specs.InversionList.{IsValid}
use Rattle.icu_invlist.proofs.PackedEnds.{packed_ends}
use Rattle.icu_invlist.proofs.SizeLemmas.{sized}
use Rattle.icu_invlist.proofs.ValidLists.{valid_from_run}
use Rattle.icu_invlist.proofs.codepointinvlist.cpinvlist.CodePointInversionList.none.Goals as goal

no_ends : values_of (λ b. Some (number_of 3 b)) 3 [] ≡ []
unfolding values_of
no_ends = refl

none_valid : IsValid []
none_valid = valid_from_run [] tt refl

pub invariant_of-result : goal.invariant_of-result
invariant_of-result c = sized [] _ 0 (c.from_packed.ensures ∙ no_ends) none_valid refl

pub returns : goal.returns
returns c = c.from_packed.ensures ∙ no_ends

pub from_packed-requires : goal.from_packed-requires
from_packed-requires c = packed_ends ([]) none_valid
