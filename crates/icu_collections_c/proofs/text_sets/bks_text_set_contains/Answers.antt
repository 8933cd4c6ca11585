use Rattle.std.proofs.Common.{◌≡◌, ◌∙◌, ap, inl, refl, subst, sym, ℕ, Option}
use Rattle.icu_char16trie.specs.Matches.{text_units}
use Rattle.icu_char16trie.specs.UnitMap.{value_of}
use Rattle.icu_invlist.specs.InversionList.{holds}
use Rattle.icu_collections_c.specs.TextSets.{IsMemberAs}
use Rattle.icu_collections_c.specs.UnitTries.{units_of}
use Rattle.icu_collections_c.proofs.TextSetLemmas.{looked_up, stored_member}
use Rattle.icu_collections_c.proofs.text_sets.bks_text_set_contains.Goals as goal

pub returns-in-Some-clause-set : goal.returns-in-Some-clause-set
returns-in-Some-clause-set c = λ set s.
    let one = c.in-Some.ensures in
    let told = c.bks_frozen_contains.result in
    let held : told ≡ holds set.code_points c.in-Some.c =
    c.bks_frozen_contains.ensures.set set.code_points s.table s.rest s.frozen s.words_are ∙ ap (holds set.code_points) c.from.ensures in
    stored_member c.args.table.now (units_of c.args.units.now) set s c.args.text.now told
    (inl (
      one.0,
      subst (λ (o : Option ℕ). IsMemberAs (holds set.code_points) (λ w v. value_of s.map w ≡ v) c.args.text.now o told) (sym one.1) held,
    ))

pub returns-in-None-clause-set : goal.returns-in-None-clause-set
returns-in-None-clause-set c = λ set s.
    let text = c.args.text.now in
    stored_member c.args.table.now (units_of c.args.units.now) set s text c.bks_units_get_utf8.result
    (looked_up (holds set.code_points) (λ w v. value_of s.map w ≡ v) text c.in-None.ensures (value_of s.map (text_units text))
    refl _ _ c.bks_units_get_utf8.result (c.bks_units_get_utf8.ensures.keys s.map s.trie))
