-- The index of a text among others.
use Rattle.std.specs.Prelude.{◌≡◌, ℕ, ◌<◌, ◌≤◌, List, [], length, Result, Ok, Err, slice_index_or}
use Rattle.std.specs.declared.cmp.Ordering.TheVariants.{Less, Equal, Greater}
use Rattle.icu_text_sets.specs.TextSet.{text_cmp}

-- The index of the text, or the index at which it can be inserted: after all smaller texts and
-- before all greater ones.
abbrev pub IsPlaceOf : List (List ℕ) → List ℕ → Result ℕ ℕ → Type 0
IsPlaceOf texts text (Ok i) =
    (i < length texts) × (text_cmp (slice_index_or texts i []) text ≡ Equal)
IsPlaceOf texts text (Err i) =
    (i ≤ length texts) × ((k : ℕ) → k < i → text_cmp (slice_index_or texts k []) text ≡ Less)
    × ((k : ℕ) → i ≤ k → k < length texts → text_cmp (slice_index_or texts k []) text ≡ Greater)
