-- The prefixes of a text, and the longest one that has a value.
use Rattle.std.proofs.Common.{◌≡◌, ℕ, ℤ, zero, suc, ◌+◌, ◌<◌, ◌≤◌, true, false, List, [], ◌∷◌, ◌++◌, Option, Some, None, length, take, get_or, sym, ap, subst, refl, ◌∙◌, arith, ◌⊎◌, inl, inr}
use Rattle.std.specs.Prelude.{nat_le, slice_get}
use Rattle.std.proofs.lemmas.Bool.Decides.{nat_tests}
use Rattle.std.proofs.Math.Seq.{take-suc}
use Rattle.icu_char16trie.specs.UnitMap.{UnitMap, goes_on, value_of}
use Rattle.icu_char16trie.specs.UnitPlaces.{is_empty_at, ends_by}
use Rattle.icu_char16trie.specs.Steps.{InNode, StepsTo, StepsAlong, no_lead, at_final}
use Rattle.icu_char16trie.specs.Matches.{LongestWithin, HasFrontValue, HasFrontStepped, HasValueAlong}
use Rattle.icu_char16trie.specs.Inside.Fronts.{longer}
use Rattle.icu_char16trie.specs.declared.place.Place.{Place}
use Rattle.icu_char16trie.specs.declared.place.Place.TheVariants.{Nowhere, Node, Run}
use Rattle.icu_char16trie.proofs.MapLemmas.{none_beyond}
use Rattle.icu_char16trie.proofs.PassedLemmas.{along_then}

pub within_or_above : (k i : ℕ) → (k ≤ i) ⊎ (i < k)
within_or_above zero i = inl (omega arith)
within_or_above (suc k) zero = inr (omega arith)
within_or_above (suc k) (suc i) = step (within_or_above k i)
  where
    step : (k ≤ i) ⊎ (i < k) → (suc k ≤ suc i) ⊎ (suc i < suc k)
    step (inl h) = inl (omega (arith, h))
    step (inr h) = inr (omega (arith, h))

-- ---- the longest prefix with a value, as prefixes are looked up

-- The empty prefix is looked up.
pub LongestWithin-zero : (P : ℕ → Option ℤ → Type 0) (v : Option ℤ) → P 0 v → LongestWithin P 0 (longer 0 v None)
LongestWithin-zero P None e = λ k h. subst (λ z. P z None) (sym (no_less k h)) e
  where
    no_less : (k : ℕ) → k ≤ 0 → k ≡ 0
    no_less k h = omega (arith, h)
LongestWithin-zero P (Some v) e = (omega arith, e, λ k above within. absurd (omega (arith, above, within)))

-- A prefix of one more unit is looked up.
pub LongestWithin-suc : (P : ℕ → Option ℤ → Type 0) (i : ℕ) (v : Option ℤ) (found : Option (ℕ × ℤ)) → P (i + 1) v
    → LongestWithin P i found → LongestWithin P (i + 1) (longer (i + 1) v found)
LongestWithin-suc P i (Some v) found e h = (omega arith, e, λ k above within. absurd (omega (arith, above, within)))
LongestWithin-suc P i None None e h = λ k within. last k within (within_or_above k i)
  where
    last : (k : ℕ) → k ≤ i + 1 → (k ≤ i) ⊎ (i < k) → P k None
    last k within (inl few) = h k few
    last k within (inr more) =
        let same : i + 1 ≡ k = omega (arith, within, more) in
        subst (λ z. P z None) same e
LongestWithin-suc P i None (Some found) e h =
    (omega (arith, h.0), h.1, λ k above within. last k above within (within_or_above k i))
  where
    last : (k : ℕ) → found.0 < k → k ≤ i + 1 → (k ≤ i) ⊎ (i < k) → P k None
    last k above within (inl few) = h.2 k above few
    last k above within (inr more) =
        let same : i + 1 ≡ k = omega (arith, within, more) in
        subst (λ z. P z None) same e

-- No longer prefix has a value.
pub LongestWithin-more : (P : ℕ → Option ℤ → Type 0) (i n : ℕ) (found : Option (ℕ × ℤ)) → i ≤ n
    → ((k : ℕ) → i < k → k ≤ n → P k None) → LongestWithin P i found → LongestWithin P n found
LongestWithin-more P i n None within none h = λ k below. last k below (within_or_above k i)
  where
    last : (k : ℕ) → k ≤ n → (k ≤ i) ⊎ (i < k) → P k None
    last k below (inl few) = h k few
    last k below (inr more) = none k more below
LongestWithin-more P i n (Some found) within none h =
    (omega (arith, h.0, within), h.1, λ k above below. last k above below (within_or_above k i))
  where
    last : (k : ℕ) → found.0 < k → k ≤ n → (k ≤ i) ⊎ (i < k) → P k None
    last k above below (inl few) = h.2 k above few
    last k above below (inr more) = none k more below

-- ---- prefixes of a text

-- The next prefix is this one and its next unit.
pub take_next : (text : List ℕ) (i n : ℕ) → n ≡ i + 1 → i < length text → take i text ++ get_or text i 0 ∷ [] ≡ take n text
take_next text i n e within =
    let next : suc i ≡ n = omega (arith, e) in
    sym (take-suc text i 0 within) ∙ ap (λ (k : ℕ). take k text) next

-- A longer prefix starts with a shorter one.
pub front_more : (text : List ℕ) (i k : ℕ) → i < k → k ≤ length text
    → (x : ℕ) × (y : List ℕ) × (take k text ≡ take i text ++ x ∷ y)
front_more [] i k below within = absurd (omega (arith, below, within))
front_more (u ∷ text) i zero below within = absurd (omega (arith, below))
front_more (u ∷ text) zero (suc k) below within = (u, take k text, refl)
front_more (u ∷ text) (suc i) (suc k) below within =
    let more = front_more text i k (omega (arith, below)) (omega (arith, within)) in
    (more.0, more.1, ap (λ (z : List ℕ). u ∷ z) more.2)

-- If no key continues after a prefix, no longer prefix has a value.
pub no_longer_front : (m : UnitMap) (text : List ℕ) (i k : ℕ) → goes_on m (take i text) ≡ false → i < k → k ≤ length text
    → HasFrontValue m text k None
no_longer_front m text i k ends below within =
    let more = front_more text i k below within in
    ap (value_of m) more.2 ∙ none_beyond m (take i text) more.0 more.1 ends

-- ---- the same for steps on all units

-- From an empty position each unit leads nowhere.
ends_nowhere : (units : List ℕ) (place : Place) (u : ℕ) → is_empty_at units place ≡ true → StepsTo units place u Nowhere
ends_nowhere units Nowhere u e = refl
ends_nowhere units (Node p) u e = by (slice_get units p) refl e
  where
    from : (lead : ℕ) → nat_le 0x8000 lead ≡ true → 0x8000 ≤ lead
    from lead h = grind (arith, nat_tests)

    by : (o : Option ℕ) → slice_get units p ≡ o → ends_by o ≡ true → InNode units u p Nowhere
    by None g h = no_lead p Nowhere g refl
    by (Some lead) g h = at_final p lead Nowhere g (from lead h) refl
ends_nowhere units (Run p left) u e = cc

pub stays_nowhere : (units w : List ℕ) → StepsAlong units Nowhere w Nowhere
stays_nowhere units [] = refl
stays_nowhere units (u ∷ w) = (Nowhere, refl, stays_nowhere units w)

-- After an empty position nothing has a value.
pub none_along : (units w : List ℕ) (place : Place) (u : ℕ) (more : List ℕ) → StepsAlong units (Node 0) w place
    → is_empty_at units place ≡ true → HasValueAlong units (w ++ u ∷ more) None
none_along units w place u more steps ends =
    let on : StepsAlong units place (u ∷ more) Nowhere = (Nowhere, ends_nowhere units place u ends, stays_nowhere units more) in
    (Nowhere, along_then units (Node 0) place Nowhere w (u ∷ more) steps on, refl)

pub no_longer_step : (units text : List ℕ) (place : Place) (i k : ℕ) → StepsAlong units (Node 0) (take i text) place
    → is_empty_at units place ≡ true → i < k → k ≤ length text → HasFrontStepped units text k None
no_longer_step units text place i k steps ends below within =
    let more = front_more text i k below within in
    rw more.2 (none_along units (take i text) place more.0 more.1 steps ends)
