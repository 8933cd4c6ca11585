use Rattle.std.proofs.Common.{◌∙◌, arith, refl}
use Rattle.std.proofs.lemmas.List.{get_or-replicate}
use Rattle.icu_frozen_sets.proofs.view.bmp_offsets.Goals as goal

pub loop-b-init : goal.loop-b-init
loop-b-init c = record {
  all = refl;
  own = λ i l. absurd (omega arith);
  rest = λ i l h. get_or-replicate 64 i c.place_by.result 0 h ∙ c.place_by.ensures;
}
