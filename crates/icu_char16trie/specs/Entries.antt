-- What an iterator over the entries of a trie has left.
use Rattle.std.specs.Prelude.{◌≡◌, ℕ, ℤ, List, [], ◌∷◌, Option, Result, Ok, Err, string_bytes, String}
use Rattle.std.specs.Global.{Global}
use Rattle.icu_zerovec.specs.declared.memory.MemoryError.{MemoryError}
use Rattle.icu_char16trie.specs.UnitMap.{UnitMap}
use Rattle.icu_char16trie.specs.LossyText.{key_text}
use Rattle.icu_char16trie.specs.Walk.{WalkGives, IsWalked, Gives}
use Rattle.icu_char16trie.specs.declared.entries.Iter2.{Iter2}

-- The entries m are still to come.
abbrev pub IsLeft : Iter2 → UnitMap → Type 0
IsLeft it m = WalkGives it.walk m

-- Nothing is to come, on any units.
abbrev pub IsDone : Iter2 → Type 0
IsDone it = IsWalked it.walk

-- The contract of one call of `next`.
abbrev pub GivesNext : Iter2 → Option (Result (String Global × ℤ) MemoryError) → Iter2 → Type 0
GivesNext s r t = Gives s.walk r t.walk

-- The items are the entries m, each once and in order.
abbrev pub AreEntries : List (Result (String Global × ℤ) MemoryError) → UnitMap → Type 0
AreEntries [] m = m ≡ []
AreEntries (Ok y ∷ xs) m =
    (key : List ℕ) × (rest : UnitMap) × (m ≡ (key, y.1) ∷ rest) × (string_bytes y.0 ≡ key_text key)
    × AreEntries xs rest
AreEntries (Err e ∷ xs) m = ⊥

-- The items are the first of the entries m, each once and in order, and then one `Err`.
abbrev pub AreCutShort : List (Result (String Global × ℤ) MemoryError) → UnitMap → Type 0
AreCutShort [] m = ⊥
AreCutShort (Ok y ∷ xs) m =
    (key : List ℕ) × (rest : UnitMap) × (m ≡ (key, y.1) ∷ rest) × (string_bytes y.0 ≡ key_text key)
    × AreCutShort xs rest
AreCutShort (Err e ∷ xs) m = xs ≡ []
