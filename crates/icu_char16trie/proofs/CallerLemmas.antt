-- Lemmas for callers' proofs, on the maps in `specs/UnitMap.antt`, the matches in
-- `specs/Matches.antt`, and loops over the characters of a text.
use Rattle.std.proofs.Common.{◌≡◌, ℕ, ℤ, ◌+◌, ◌<◌, zero, suc, List, [], ◌∷◌, ◌++◌, Option, Some, None, length, take, refl, sym, ap, subst, ◌∙◌, append-nil, arith, ◌⊎◌, inl, inr}
use Rattle.std.proofs.Math.Seq.{take-suc}
use Rattle.std.proofs.lemmas.Grind.{flat_map-append}
use Rattle.std.proofs.lemmas.Iterator.{YieldsList}
use Rattle.std.proofs.lemmas.Iterator.Consumers.{YieldsList-end, YieldsList-so_far, YieldsList-turn}
use Rattle.std.proofs.lemmas.List.{map-id}
use Rattle.std.specs.Char.Escape.{encode_utf16}
use Rattle.std.specs.Iterator.{Yields}
use Rattle.std.specs.List.{flat_map}
use Rattle.std.proofs.lemmas.Option.{none-some}
use Rattle.icu_char16trie.specs.UnitMap.{UnitMap}
use Rattle.icu_char16trie.specs.Matches.{HasFrontValue, IsLongestMatch, LongestWithin}
-- If no key continues after some units, no longer key has a value.
pub use Rattle.icu_char16trie.proofs.MapLemmas.{none_beyond}
-- The first units of a text, and steps along units.
pub use Rattle.icu_char16trie.proofs.PassedLemmas.{along_then}
pub use Rattle.icu_char16trie.proofs.FrontLemmas.{front_more, none_along}
-- The units and the bytes of the first characters of a text.
pub use Rattle.icu_char16trie.proofs.CharFronts.{bytes_next, units_more}
-- The entries of a map and the values of its keys.
pub use Rattle.icu_char16trie.proofs.ListedKeys.{Contains-value_of, below_itself, same_key_eq, same_key_self, value_of-listed, value_of-some}
-- The keys of the map of a trie ascend, and so do their first units.
pub use Rattle.icu_char16trie.proofs.OneMap.{trie_ascends}
pub use Rattle.icu_char16trie.proofs.AscendingUnits.{first_units-ascending}

-- ---- the longest match is unique

above_or_same : (j k : ℕ) → (j < k) ⊎ (k < j) ⊎ (j ≡ k)
above_or_same zero zero = inr (inr refl)
above_or_same zero (suc k) = inl (omega arith)
above_or_same (suc j) zero = inr (inl (omega arith))
above_or_same (suc j) (suc k) = step (above_or_same j k)
  where
    step : (j < k) ⊎ (k < j) ⊎ (j ≡ k) → (suc j < suc k) ⊎ (suc k < suc j) ⊎ (suc j ≡ suc k)
    step (inl h) = inl (omega (arith, h))
    step (inr (inl h)) = inr (inl (omega (arith, h)))
    step (inr (inr h)) = inr (inr (ap suc h))

found_same : (i j : ℕ) (v w : ℤ) → i ≡ j → ◌≡◌ {A = Option ℤ} (Some v) (Some w) → ◌≡◌ {A = Option (ℕ × ℤ)} (Some (i, v)) (Some (j, w))
found_same i j v w e f = cc

-- If each prefix has at most one value, the longest prefix with a value is unique.
pub LongestWithin-one : (P : ℕ → Option ℤ → Type 0) (most : ℕ) (a b : Option (ℕ × ℤ)) → ((k : ℕ) (v w : Option ℤ) → P k v → P k w → v ≡ w)
    → LongestWithin P most a → LongestWithin P most b → a ≡ b
LongestWithin-one P most None None one h k = refl
LongestWithin-one P most None (Some b) one h k = absurd (none-some b.1 (one b.0 None (Some b.1) (h b.0 k.0) k.1))
LongestWithin-one P most (Some a) None one h k = absurd (none-some a.1 (one a.0 None (Some a.1) (k a.0 h.0) h.1))
LongestWithin-one P most (Some a) (Some b) one h k = by (above_or_same a.0 b.0)
  where
    by : (a.0 < b.0) ⊎ (b.0 < a.0) ⊎ (a.0 ≡ b.0) → Some a ≡ Some b
    by (inl less) = absurd (none-some b.1 (one b.0 None (Some b.1) (h.2 b.0 less k.0) k.1))
    by (inr (inl more)) = absurd (none-some a.1 (one a.0 None (Some a.1) (k.2 a.0 more h.0) h.1))
    by (inr (inr same)) =
        let value : Some a.1 ≡ Some b.1 = one b.0 (Some a.1) (Some b.1) (subst (λ z. P z (Some a.1)) same h.1) k.1 in
        found_same a.0 b.0 a.1 b.1 same value

-- Two longest matches in a map are the same.
pub IsLongestMatch-one : (m : UnitMap) (text : List ℕ) (a b : Option (ℕ × ℤ)) → IsLongestMatch m text a → IsLongestMatch m text b → a ≡ b
IsLongestMatch-one m text a b h k = LongestWithin-one (HasFrontValue m text) (length text) a b (λ j v w e f. sym e ∙ f) h k

-- ---- the characters of a text, one after the other

-- The characters so far are the first ones, and they still are with the next one.
pub first_chars : {S : Type 0} {steps : S → Option ℕ → S → Type 0} {s : S} {cs : List ℕ} → YieldsList steps (λ c. c) s cs
    → (ys : List ℕ) (t : S) → Yields steps s ys t → (r : Option ℕ) (u : S) (c : ℕ) → r ≡ Some c → steps t r u
    → (ys ≡ take (length ys) cs) × (length ys < length cs) × (ys ++ c ∷ [] ≡ take (length ys + 1) cs)
first_chars {cs = cs} e ys t y r u c is by =
    let so_far : ys ≡ take (length ys) cs = sym (map-id ys) ∙ YieldsList-so_far e ys t y in
    let turn = YieldsList-turn e ys t y r u c is by in
    let next : suc (length ys) ≡ length ys + 1 = omega arith in (
      so_far,
      turn.0,
      ap (λ (z : List ℕ). z ++ c ∷ []) so_far ∙ ap (λ (z : ℕ). take (length ys) cs ++ z ∷ []) turn.1
          ∙ sym (take-suc cs (length ys) c turn.0) ∙ ap (λ (k : ℕ). take k cs) next,
    )

-- At the end they are all.
pub all_chars : {S : Type 0} {steps : S → Option ℕ → S → Type 0} {s : S} {cs : List ℕ} → YieldsList steps (λ c. c) s cs
    → (ys : List ℕ) (t : S) → Yields steps s ys t → (r : Option ℕ) (u : S) → r ≡ None → steps t r u → ys ≡ cs
all_chars e ys t y r u is by = sym (map-id ys) ∙ (YieldsList-end e ys t y r u is by).0

-- The units of one more character.
pub units_next : (cs : List ℕ) (c : ℕ) → flat_map encode_utf16 (cs ++ c ∷ []) ≡ flat_map encode_utf16 cs ++ encode_utf16 c
units_next cs c = flat_map-append encode_utf16 cs (c ∷ []) ∙ ap (λ z. flat_map encode_utf16 cs ++ z) (append-nil (encode_utf16 c))
