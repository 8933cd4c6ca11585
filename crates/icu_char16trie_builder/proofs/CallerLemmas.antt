-- Lemmas for callers' proofs, on the definitions in `specs/Entries.antt` and on a run of `iter2`
-- over a trie that was built.
use Rattle.std.proofs.Common.{◌≡◌, ℕ, ℤ, ◌+◌, ◌*◌, Bool, true, false, cond, List, [], ◌∷◌, Option, Some, None, Ok, String, Global, length, refl, sym, ap, subst, ◌∙◌, arith, ◌⊎◌, inl, inr}
use Rattle.std.specs.Prelude.{map, string_bytes}
use Rattle.std.specs.Cmp.Lexicographic.{slice_cmp}
use Rattle.std.specs.declared.cmp.Ordering.{Ordering}
use Rattle.std.specs.declared.cmp.Ordering.TheVariants.{Less, Equal, Greater}
use Rattle.std.specs.Ordering.{nat_cmp, match_ordering}
use Rattle.icu_char16trie.specs.UnitMap.{UnitMap, value_of, same_key, KeyBelow}
use Rattle.icu_char16trie.specs.LossyText.{key_text}
use Rattle.icu_char16trie.specs.Entries.{AreEntries, AreCutShort}
use Rattle.icu_char16trie_builder.specs.Entries.{with_entry, most_units}
use Rattle.icu_char16trie_builder.proofs.EntryLemmas.{IsCompared, compared}
use Rattle.icu_char16trie.proofs.CallerLemmas.{below_itself, same_key_eq, same_key_self}
-- The keys still ascend, and which of them continue after some units.
pub use Rattle.icu_char16trie_builder.proofs.EntryLemmas.{IsAscendingKeys-with_entry}
pub use Rattle.icu_char16trie_builder.proofs.LongerKeys.{goes_on-with_entry}

-- ---- the entries with one more

not_below : (a b : List ℕ) → a ≡ b → KeyBelow b a → ⊥
not_below a b e h = below_itself b (subst (λ z. KeyBelow b z) e h)

-- If two keys differ, a third key equals at most one of them.
swapped : (a b w : List ℕ) (x y : Option ℤ) (o : Option ℤ) → (same_key a w ≡ true → same_key b w ≡ true → ⊥)
    → cond (same_key b w) y (cond (same_key a w) x o) ≡ cond (same_key a w) x (cond (same_key b w) y o)
swapped a b w x y o not_both = cases (same_key a w) (same_key b w) not_both
  where
    cases : (p q : Bool) → (p ≡ true → q ≡ true → ⊥) → cond q y (cond p x o) ≡ cond p x (cond q y o)
    cases true true h = absurd (h refl refl)
    cases true false h = refl
    cases false true h = refl
    cases false false h = refl

value_by : (key : List ℕ) (v : ℤ) (e : List ℕ × ℤ) (m rest : UnitMap) (w : List ℕ) (o : Ordering) → IsCompared key e.0 o
    → value_of rest w ≡ cond (same_key key w) (Some v) (value_of m w)
    → value_of (match_ordering o ((key, v) ∷ e ∷ m) ((key, v) ∷ m) (e ∷ rest)) w ≡ cond (same_key key w) (Some v) (value_of (e ∷ m) w)
unfolding value_of
value_by key v e m rest w Less h r = refl
value_by key v e m rest w Equal h r = twice (same_key key w) (same_key e.0 w) (ap (λ z. same_key z w) (h.equal refl))
  where
    twice : (p q : Bool) → p ≡ q → cond p (Some v) (value_of m w) ≡ cond p (Some v) (cond q (Some e.1) (value_of m w))
    twice true q h = refl
    twice false true h = cc
    twice false false h = refl
value_by key v e m rest w Greater h r =
    ap (λ z. cond (same_key e.0 w) (Some e.1) z) r
    ∙ swapped key e.0 w (Some v) (Some e.1) (value_of m w)
    (λ a b. not_below key e.0 (same_key_eq key w a ∙ sym (same_key_eq e.0 w b)) (h.greater refl))

-- The value of a key is the one that was added last for it.
pub value_of-with_entry : (key : List ℕ) (v : ℤ) (m : UnitMap) (w : List ℕ)
    → value_of (with_entry key v m) w ≡ cond (same_key key w) (Some v) (value_of m w)
unfolding with_entry value_of
value_of-with_entry key v [] w = refl
value_of-with_entry key v (e ∷ m) w =
    value_by key v e m (with_entry key v m) w (slice_cmp nat_cmp key e.0) (compared key e.0) (value_of-with_entry key v m w)

-- The key that was added has the value that it was added with.
pub value_of-added : (key : List ℕ) (v : ℤ) (m : UnitMap) → value_of (with_entry key v m) key ≡ Some v
value_of-added key v m = rw (value_of-with_entry key v m key, same_key_self key) refl

-- Each other key has the value that it had.
pub value_of-others : (key : List ℕ) (v : ℤ) (m : UnitMap) (w : List ℕ) → (key ≡ w → ⊥) → value_of (with_entry key v m) w ≡ value_of m w
value_of-others key v m w other = value_of-with_entry key v m w ∙ by (same_key key w) refl
  where
    by : (b : Bool) → same_key key w ≡ b → cond b (Some v) (value_of m w) ≡ value_of m w
    by true h = absurd (other (same_key_eq key w h))
    by false h = refl

most_by : (key : List ℕ) (v : ℤ) (e : List ℕ × ℤ) (m rest : UnitMap) (o : Ordering) → IsCompared key e.0 o → (o ≡ Equal → ⊥)
    → most_units rest ≡ 2 * length key + 16 + most_units m
    → most_units (match_ordering o ((key, v) ∷ e ∷ m) ((key, v) ∷ m) (e ∷ rest)) ≡ 2 * length key + 16 + most_units (e ∷ m)
unfolding most_units
most_by key v e m rest Less h new r = refl
most_by key v e m rest Equal h new r = absurd (new refl)
most_by key v e m rest Greater h new r = omega (arith, r)

-- A key that has no value is not that of the first entry.
not_first : (key : List ℕ) (e : List ℕ × ℤ) (m : UnitMap) → value_of (e ∷ m) key ≡ None → (key ≡ e.0 → ⊥) × (value_of m key ≡ None)
unfolding value_of
not_first key e m new =
    let other = neither (same_key e.0 key) (value_of m key) new in
    (λ s. both (same_key e.0 key) (subst (λ z. same_key e.0 z ≡ true) (sym s) (same_key_self e.0)) other.0, other.1)
  where
    neither : (p : Bool) (o : Option ℤ) → cond p (Some e.1) o ≡ None → (p ≡ false) × (o ≡ None)
    neither true o h = cc
    neither false o h = (refl, h)

    both : (p : Bool) → p ≡ true → p ≡ false → ⊥
    both p t f = cc

-- A new key adds its own bound.
pub most_units-with_entry : (key : List ℕ) (v : ℤ) (m : UnitMap) → value_of m key ≡ None
    → most_units (with_entry key v m) ≡ 2 * length key + 16 + most_units m
unfolding with_entry most_units
most_units-with_entry key v [] new = refl
most_units-with_entry key v (e ∷ m) new =
    let others = not_first key e m new in
    most_by key v e m (with_entry key v m) (slice_cmp nat_cmp key e.0) (compared key e.0)
    (λ o. others.0 ((compared key e.0).equal o)) (most_units-with_entry key v m others.1)

-- ---- the items of a trie that was built

never_cut : (ys : List (String Global × ℤ)) (m : UnitMap) → AreCutShort (map Ok ys) m → ⊥
never_cut [] m cut = cut
never_cut (y ∷ ys) m cut = never_cut ys cut.1 cut.4

-- If no item is an `Err`, the items are all the entries.
pub AreEntries-of_run : (ys : List (String Global × ℤ)) (m : UnitMap)
    → AreEntries (map Ok ys) m ⊎ AreCutShort (map Ok ys) m → AreEntries (map Ok ys) m
AreEntries-of_run ys m (inl all) = all
AreEntries-of_run ys m (inr cut) = absurd (never_cut ys m cut)

-- An item as its text and value, and the text and value that an entry has to show.
abbrev pub shown : String Global × ℤ → List ℕ × ℤ
shown y = (string_bytes y.0, y.1)

abbrev pub text_of : List ℕ × ℤ → List ℕ × ℤ
text_of e = (key_text e.0, e.1)

-- The items are the texts of the keys, with their values.
pub texts_of_entries : (ys : List (String Global × ℤ)) (m : UnitMap) → AreEntries (map Ok ys) m → map shown ys ≡ map text_of m
texts_of_entries [] m all = ap (map text_of) (sym all)
texts_of_entries (y ∷ ys) m all =
    ap (λ z. (string_bytes y.0, y.1) ∷ z) (texts_of_entries ys all.1 all.4)
    ∙ ap (λ z. (z, y.1) ∷ map text_of all.1) all.3
    ∙ ap (map text_of) (sym all.2)
