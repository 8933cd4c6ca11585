use Rattle.icu_zerovec.specs.Slice.{slice_values}
use Rattle.std.proofs.Common.{inl, inr, refl, ◌≡◌, ℕ, ℤ, List, [], ◌⊎◌, None, slice_get}
use Rattle.icu_char16trie.specs.UnitMap.{after}
use Rattle.icu_char16trie.specs.Grammar.{Holds}
use Rattle.icu_char16trie.specs.UnitPlaces.{Stands}
use Rattle.icu_char16trie.specs.declared.place.Place.{Place}
use Rattle.icu_char16trie.specs.declared.place.Place.TheVariants.{Nowhere}
use Rattle.icu_char16trie.proofs.step.step.Goals as goal

pub returns-in-Nowhere-clause-stands : goal.returns-in-Nowhere-clause-stands
unfolding after
returns-in-Nowhere-clause-stands c = λ m h.
    let none : m ≡ [] = rw c.in-Nowhere.is at h in
    rw none refl

at_node : (units : List ℕ) (p : ℕ) (m : List (List ℕ × ℤ)) (u : ℕ) (result : Place)
    → Holds units p m ⊎ ((slice_get units p ≡ None) × (m ≡ []))
    → ((n : List (List ℕ × ℤ)) → Holds units p n → Stands units result (after u n)) → (slice_get units p ≡ None → result ≡ Nowhere)
    → Stands units result (after u m)
unfolding after
at_node units p m u result (inl h) stands absent = stands m h
at_node units p m u result (inr h) stands absent = rw (absent h.0, h.1) refl

pub returns-in-Node-clause-stands : goal.returns-in-Node-clause-stands
returns-in-Node-clause-stands c = λ m h. at_node (slice_values c.args.units) _ m c.args.unit _ (rw c.in-Node.is at h)
    c.step_in_node.ensures.stands c.step_in_node.ensures.absent
