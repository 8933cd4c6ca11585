-- The first units of the keys of a map strictly ascend.
use Rattle.std.proofs.Common.{◌≡◌, ℕ, ◌<◌, ◌≤◌, Bool, true, false, nat_eq, List, [], ◌∷◌, refl, arith, inl, inr, ◌⊎◌, eq-eqb}
use Rattle.std.specs.Prelude.{if◌then◌else◌}
use Rattle.std.proofs.lemmas.Bool.{cases_lt}
use Rattle.icu_char16trie.specs.UnitMap.{UnitMap, KeyBelow, KeyBelowAll, IsAscendingKeys}
use Rattle.icu_char16trie.specs.NextUnits.{AllAbove, AreAscending, first_units, without_first}

-- Every unit of the list is u or above.
abbrev AllFrom : ℕ → List ℕ → Type 0
AllFrom u [] = Unit {0}
AllFrom u (x ∷ us) = (u ≤ x) × AllFrom u us

from_without : (u x : ℕ) (us : List ℕ) → AllFrom u us → AllFrom u (without_first x us)
from_without u x [] h = tt
from_without u x (y ∷ us) h = by (nat_eq y x)
  where
    by : (b : Bool) → AllFrom u (if b then us else y ∷ us)
    by true = h.1
    by false = h

first_above : (u x : ℕ) (key rest : List ℕ) → KeyBelow (u ∷ key) (x ∷ rest) → u ≤ x
first_above u x key rest (inl h) = omega (arith, h)
first_above u x key rest (inr h) = omega (arith, h.0)

-- Keys that are above a key start with its first unit or a greater one.
first_from : (u : ℕ) (key : List ℕ) (m : UnitMap) → KeyBelowAll (u ∷ key) m → AllFrom u (first_units m)
unfolding first_units
first_from u key [] h = tt
first_from u key (([], v) ∷ m) h = absurd h.0
first_from u key ((x ∷ rest, v) ∷ m) h =
    (first_above u x key rest h.0, from_without u x (first_units m) (first_from u key m h.1))

above_less : (u y : ℕ) (us : List ℕ) → u ≤ y → AllAbove y us → AllAbove u us
above_less u y [] l h = tt
above_less u y (x ∷ us) l h = (omega (arith, l, h.0), above_less u y us l h.1)

unlike : (u y : ℕ) → u ≤ y → nat_eq y u ≡ false → u < y
unlike u y l e = by (cases_lt u y)
  where
    by : (u < y) ⊎ (y ≤ u) → u < y
    by (inl less) = less
    by (inr le) =
        let same : y ≡ u = omega (arith, l, le) in
        let yes : nat_eq y u ≡ true = eq-eqb y u same in absurd (cc)

above_without : (u : ℕ) (us : List ℕ) → AllFrom u us → AreAscending us
    → AllAbove u (without_first u us) × AreAscending (without_first u us)
above_without u [] h a = (tt, tt)
above_without u (y ∷ us) h a = by (nat_eq y u) refl
  where
    by : (b : Bool) → nat_eq y u ≡ b → AllAbove u (if b then us else y ∷ us) × AreAscending (if b then us else y ∷ us)
    by true e = (above_less u y us h.0 a.0, a.1)
    by false e = let less : u < y = unlike u y h.0 e in ((less, above_less u y us h.0 a.0), a)

pub first_units-ascending : (m : UnitMap) → IsAscendingKeys m → AreAscending (first_units m)
unfolding first_units
first_units-ascending [] h = tt
first_units-ascending (([], v) ∷ m) h = first_units-ascending m h.1
first_units-ascending ((u ∷ key, v) ∷ m) h =
    above_without u (first_units m) (first_from u key m h.0) (first_units-ascending m h.1)
