use Rattle.std.proofs.Common.{◌≡◌, ◌∙◌, refl, lit<, lit≤, [], ◌∷◌, Some}
use Rattle.icu_zerovec.specs.Cells.{values_of}
use Rattle.icu_zerovec.specs.PackedBytes.{number_of}
use Rattle.icu_invlist.specs.InversionList.{IsValid}
use Rattle.icu_invlist.proofs.PackedEnds.{packed_ends}
use Rattle.icu_invlist.proofs.SizeLemmas.{sized}
use Rattle.icu_invlist.proofs.ValidLists.{valid_from_run}
use Rattle.icu_invlist.proofs.codepointinvlist.cpinvlist.CodePointInversionList.all.Goals as goal

two_ends : values_of (λ b. Some (number_of 3 b)) 3 (0 ∷ 0 ∷ 0 ∷ 0 ∷ 0 ∷ 0x11 ∷ []) ≡ 0 ∷ 0x110000 ∷ []
unfolding values_of
two_ends = refl

two_valid : IsValid (0 ∷ 0x110000 ∷ [])
two_valid = valid_from_run (0 ∷ 0x110000 ∷ []) (lit≤ tt, lit< tt, (lit≤ tt, lit< tt, tt)) refl

pub invariant_of-result : goal.invariant_of-result
invariant_of-result c = sized (0 ∷ 0x110000 ∷ []) _ 0x110000 (c.from_packed.ensures ∙ two_ends) two_valid refl

pub returns : goal.returns
returns c = c.from_packed.ensures ∙ two_ends

pub from_packed-requires : goal.from_packed-requires
from_packed-requires c = packed_ends (0 ∷ 0x110000 ∷ []) two_valid
