-- What a cursor passes, one unit after the other.
use Rattle.std.proofs.Common.{◌≡◌, ℕ, ℤ, ◌+◌, ◌-◌, ◌/◌, ◌%◌, ◌≤◌, false, nat_lt, List, [], ◌∷◌, ◌++◌, refl, subst, ◌∙◌, arith, append_assoc}
use Rattle.std.specs.Char.Escape.{encode_utf16}
use Rattle.std.proofs.lemmas.Bool.Decides.{nat_tests}
use Rattle.icu_char16trie.specs.UnitPlaces.{At, HasPassed}
use Rattle.icu_char16trie.specs.Steps.{StepsTo, StepsAlong}
use Rattle.icu_char16trie.specs.Passed.{Passes}
use Rattle.icu_char16trie.specs.declared.place.Place.{Place}

pub along_then : (units : List ℕ) (from mid to : Place) (v w : List ℕ) → StepsAlong units from v mid
    → StepsAlong units mid w to → StepsAlong units from (v ++ w) to
along_then units from mid to [] w h k = subst (λ z. StepsAlong units z w to) h k
along_then units from mid to (u ∷ v) w h k = (h.0, h.1, along_then units h.0 mid to v w h.2 k)

pub passes_unit : (s t : At) (u : ℕ) → t.units ≡ s.units → StepsTo s.units s.place u t.place
    → ((m : List (List ℕ × ℤ)) (w : List ℕ) → HasPassed s m w → HasPassed t m (w ++ u ∷ [])) → Passes s (u ∷ []) t
passes_unit s t u e x a = record { units = e; exact = (t.place, x, refl); after = a }

pub passes_then : (s t r : At) (v w : List ℕ) → Passes s v t → Passes t w r → Passes s (v ++ w) r
passes_then s t r v w a b = record {
  units = b.units ∙ a.units;
  exact = along_then s.units s.place t.place r.place v w a.exact (subst (λ z. StepsAlong z t.place w r.place) a.units b.exact);
  after = λ m key h. let h' = b.after m (key ++ v) (a.after m key h) in rw append_assoc at h';
}

pub two_units : (c : ℕ) → 0x1_0000 ≤ c → encode_utf16 c ≡ (0xD800 + (c - 0x1_0000) / 0x400) ∷ (0xDC00 + (c - 0x1_0000) % 0x400) ∷ []
two_units c h = let t : nat_lt c 0x1_0000 ≡ false = grind (arith, nat_tests) in rw t refl
