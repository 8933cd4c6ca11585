use Rattle.std.proofs.Common.{sym}
use Rattle.icu_collections_c.proofs.SetPlaceLemmas.{holds_by_place}
use Rattle.icu_collections_c.proofs.sets.bks_set_contains.Goals as goal

pub returns : goal.returns
returns c = λ valid. sym (holds_by_place c.args.ends.now c.args.c c.place_of.result valid (c.place_of.ensures.place valid.ascending))
