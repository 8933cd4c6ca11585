use Rattle.icu_collections_c.proofs.TextSetLemmas.{not_first, not_only, only_one}
use Rattle.icu_collections_c.proofs.text_sets.only_character.Goals as goal

pub returns-in-Some : goal.returns-in-Some
returns-in-Some c = only_one c.args.text.now c.in-Some.c c.in-Some.size c.in-Some.ensures c.if-size-text.true

pub returns-in_default : goal.returns-in_default
returns-in_default c = not_only c.args.text.now c.in-Some.c c.in-Some.size c.in-Some.ensures c.if-size-text.false

pub returns-in_default-2 : goal.returns-in_default-2
returns-in_default-2 c = not_first c.args.text.now (rw c.in_default.is at c.first_character.ensures)
