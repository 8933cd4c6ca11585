-- What is built of the units of the keys.
use Rattle.std.proofs.Common.{◌≡◌, ◌∙◌, inl, inr, subst, sym, rules, arith, to_z, of_z, w64}
use Rattle.std.proofs.lemmas.Int.{to_z-of_z}
use Rattle.icu_collections_c.specs.UnitBuilding.{AnswersUnits, HasEntries}
use Rattle.icu_collections_c.specs.UnitTexts.{AnswersTextUnits, key_lengths, key_units, keys_of}
use Rattle.icu_collections_c.proofs.UnitTextLemmas.{few_bytes}
use Rattle.icu_collections_c.proofs.unit_texts.bks_units_build_utf8.Goals as goal
use Rattle.icu_collections_c.proofs.unit_texts.bks_units_build_utf8.Goals.{After-drop-given-in-Ok}

given : (c : After-drop-given-in-Ok) → HasEntries c.args.keys.now c.args.lengths.now c.args.values.now
given c = (omega (arith, c.if-lengths-values.false), c.has_units.ensures.0 c.if-not-has_units.false)

answers : (c : After-drop-given-in-Ok)
    → AnswersUnits (key_units (keys_of c.args.keys.now c.args.lengths.now)) (key_lengths (keys_of c.args.keys.now c.args.lengths.now))
    c.args.values.now c.args.bytes.now c.bks_units_build.new.bytes c.bks_units_build.result
answers c =
    let keys = keys_of c.args.keys.now c.args.lengths.now in
    let units : c.deref.result.now ≡ key_units keys = c.deref.ensures.value ∙ c.in-Ok.ensures.units in
    let lengths : c.deref-in-Ok.result.now ≡ key_lengths keys = c.deref-in-Ok.ensures.value ∙ c.in-Ok.ensures.lengths in
    subst (λ us. AnswersUnits us (key_lengths keys) c.args.values.now c.args.bytes.now c.bks_units_build.new.bytes c.bks_units_build.result)
    units
    (subst
    (λ ns. AnswersUnits c.deref.result.now ns c.args.values.now c.args.bytes.now c.bks_units_build.new.bytes c.bks_units_build.result)
    lengths c.bks_units_build.ensures)

same : (c : After-drop-given-in-Ok) → to_z w64 (of_z w64 c.bks_units_build.result) ≡ c.bks_units_build.result
same c = to_z-of_z w64 c.bks_units_build.result (search rules)

pub returns-in-Ok-clause-built : goal.returns-in-Ok-clause-built
returns-in-Ok-clause-built c =
    subst (λ r. AnswersTextUnits c.args.keys.now c.args.lengths.now c.args.values.now c.args.bytes.now c.bks_units_build.new.bytes r)
    (sym (same c)) (inr (inr (given c, c.are_texts.ensures.0 c.if-not-are_texts.false, inl (answers c))))

pub returns-in-Ok-clause-bound : goal.returns-in-Ok-clause-bound
returns-in-Ok-clause-bound c = λ n e.
    few_bytes c.args.keys.now c.args.lengths.now c.args.values.now c.args.bytes.now c.bks_units_build.new.bytes c.bks_units_build.result n
    (given c).1 (c.are_texts.ensures.0 c.if-not-are_texts.false) (answers c) (sym (same c) ∙ e)
