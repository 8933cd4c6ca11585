-- The cursor is at the position that C holds.
use Rattle.std.proofs.Common.{◌≡◌, inl, inr, refl, sym, subst, ℤ, Option, Some, None, to_z, of_z, w32, rules}
use Rattle.std.proofs.lemmas.Int.{to_z-of_z}
use Rattle.icu_char16trie.specs.OneValue.{StandsForOneValue}
use Rattle.icu_collections_c.specs.UnitTries.{place_of, units_of}
use Rattle.icu_collections_c.proofs.unit_nodes.bks_units_unique.Goals as goal

pub returns-in-Ok-Some-clause-exact : goal.returns-in-Ok-Some-clause-exact
returns-in-Ok-Some-clause-exact c =
    let units : c.resume-here.result.units ≡ units_of c.args.units.now = search rules in
    let place : c.resume-here.result.place ≡ place_of c.args.cursor.now = search rules in
    let same : to_z w32 (of_z w32 c.in-Ok-Some.found) ≡ c.in-Ok-Some.found = to_z-of_z w32 c.in-Ok-Some.found (search rules) in
    let stands : StandsForOneValue c.resume-here.result.units c.resume-here.result.place c.in-Ok-Some.found =
    (c.in-Ok-Some.ensures.exact c.in-Ok-Some.found).0 c.in-Ok-Some.field-0-is in
    inl (
      refl,
      subst (λ v. StandsForOneValue (units_of c.args.units.now) (place_of c.args.cursor.now) v) (sym same)
          (subst (λ p. StandsForOneValue (units_of c.args.units.now) p c.in-Ok-Some.found) place
          (subst (λ us. StandsForOneValue us c.resume-here.result.place c.in-Ok-Some.found) units stands)),
    )

pub returns-in-Ok-None-clause-exact : goal.returns-in-Ok-None-clause-exact
returns-in-Ok-None-clause-exact c =
    let units : c.resume-here.result.units ≡ units_of c.args.units.now = search rules in
    let place : c.resume-here.result.place ≡ place_of c.args.cursor.now = search rules in
    inr (inl (
      refl,
      λ v h. cannot v
          ((c.in-Ok-None.ensures.exact v).1
          (subst (λ us. StandsForOneValue us c.resume-here.result.place v) (sym units)
          (subst (λ p. StandsForOneValue (units_of c.args.units.now) p v) (sym place) h)))
          c.in-Ok-None.field-0-is,
      refl,
    ))
  where
    cannot : {o : Option ℤ} (v : ℤ) → o ≡ Some v → o ≡ None → ⊥
    cannot v some none = cc
