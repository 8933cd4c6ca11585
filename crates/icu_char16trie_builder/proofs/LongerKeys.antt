-- Whether a key of the entries with one more continues after some units.
use Rattle.std.proofs.Common.{◌≡◌, ℕ, ℤ, ◌||◌, Bool, true, false, List, [], ◌∷◌, refl, ap, ◌∙◌}
use Rattle.std.specs.Cmp.Lexicographic.{slice_cmp}
use Rattle.std.specs.declared.cmp.Ordering.{Ordering}
use Rattle.std.specs.declared.cmp.Ordering.TheVariants.{Less, Equal, Greater}
use Rattle.std.specs.Ordering.{nat_cmp, match_ordering}
use Rattle.icu_char16trie.specs.UnitMap.{UnitMap, goes_on, key_goes_on}
use Rattle.icu_char16trie_builder.specs.Entries.{with_entry}
use Rattle.icu_char16trie_builder.proofs.EntryLemmas.{IsCompared, compared}

goes_on_by : (key : List ℕ) (v : ℤ) (e : List ℕ × ℤ) (m rest : UnitMap) (w : List ℕ) (o : Ordering) → IsCompared key e.0 o
    → goes_on rest w ≡ (key_goes_on key w || goes_on m w)
    → goes_on (match_ordering o ((key, v) ∷ e ∷ m) ((key, v) ∷ m) (e ∷ rest)) w ≡ (key_goes_on key w || goes_on (e ∷ m) w)
unfolding goes_on
goes_on_by key v e m rest w Less h r = refl
goes_on_by key v e m rest w Equal h r = twice (key_goes_on key w) (key_goes_on e.0 w) (goes_on m w)
    (ap (λ z. key_goes_on z w) (h.equal refl))
  where
    twice : (p q b : Bool) → p ≡ q → (p || b) ≡ (p || (q || b))
    twice true q b s = refl
    twice false true b s = cc
    twice false false b s = refl
goes_on_by key v e m rest w Greater h r =
    ap (λ z. key_goes_on e.0 w || z) r ∙ swapped (key_goes_on e.0 w) (key_goes_on key w) (goes_on m w)
  where
    swapped : (p q b : Bool) → (p || (q || b)) ≡ (q || (p || b))
    swapped true true b = refl
    swapped true false b = refl
    swapped false true b = refl
    swapped false false b = refl

-- A key continues exactly if one of the others does or the added one does.
pub goes_on-with_entry : (key : List ℕ) (v : ℤ) (m : UnitMap) (w : List ℕ)
    → goes_on (with_entry key v m) w ≡ (key_goes_on key w || goes_on m w)
unfolding with_entry goes_on
goes_on-with_entry key v [] w = refl
goes_on-with_entry key v (e ∷ m) w =
    goes_on_by key v e m (with_entry key v m) w (slice_cmp nat_cmp key e.0) (compared key e.0) (goes_on-with_entry key v m w)
