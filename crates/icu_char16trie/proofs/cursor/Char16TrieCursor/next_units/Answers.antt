use Rattle.icu_zerovec.specs.Slice.{slice_values}
use Rattle.icu_char16trie.specs.UnitMap.{after_all}
use Rattle.icu_char16trie.specs.NextUnits.{GoesOnWith}
use Rattle.icu_char16trie.proofs.NextUnitLemmas.{added_alone, place_first}
use Rattle.icu_char16trie.proofs.OneMap.{stands_ascends}
use Rattle.icu_char16trie.proofs.AscendingUnits.{first_units-ascending}
use Rattle.icu_char16trie.proofs.cursor.Char16TrieCursor.next_units.Goals as goal

pub returns-clause-units : goal.returns-clause-units
returns-clause-units c = λ m w h.
    place_first _ _ _ (after_all w m) (added_alone (GoesOnWith (slice_values c.self.inside.units) c.self.inside.place) _ _
    c.new-list.ensures.items c.in_ok-add_units.ensures) (rw (← c.self.view_is) at h)

pub returns-clause-ascending : goal.returns-clause-ascending
returns-clause-ascending c = λ m w h.
    let stands = rw (← c.self.view_is) at h in
    let units = place_first _ _ _ (after_all w m) (added_alone (GoesOnWith (slice_values c.self.inside.units) c.self.inside.place) _ _
    c.new-list.ensures.items c.in_ok-add_units.ensures) stands in
    rw units (first_units-ascending (after_all w m) (stands_ascends _ _ (after_all w m) stands))

pub returns-clause-exact : goal.returns-clause-exact
returns-clause-exact c =
    rw (← c.self.view_is) (added_alone (GoesOnWith (slice_values c.self.inside.units) c.self.inside.place) _ _ c.new-list.ensures.items
    c.in_ok-add_units.ensures)
