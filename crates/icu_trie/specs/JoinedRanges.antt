-- Joining the adjacent ranges of a list.
use Rattle.std.specs.Prelude.{◌≡◌, ◌+◌, ◌==◌, ◌&&◌, nat_lt, if◌then◌else◌, Bool, true, false, List, [], ◌∷◌, ◌++◌}
use Rattle.icu_trie_core.specs.declared.range.CodePointMapRange.{CodePointMapRange}
use Rattle.icu_trie_core.specs.Range.{first_of, last_of}

module _ {A : Type 0} (eq : A → A → Bool) where
  -- True if x continues r: x starts right after the last code point of r, and its value equals r's.
  -- Nothing continues a range that ends at 0xFFFFFFFF.
  abbrev pub continues : CodePointMapRange A → CodePointMapRange A → Bool
  continues r x = nat_lt (last_of r) 0xFFFFFFFF && (first_of x == last_of r + 1)
      && eq x.value r.value

  -- The range from the start of r to the end of x, with the value of r.
  abbrev pub merged_range : CodePointMapRange A → CodePointMapRange A → CodePointMapRange A
  merged_range r x = record
      { range = record { start = first_of r; end = last_of x; exhausted = false }; value = r.value }

  -- The joined ranges from r on, where r is the group joined so far. A range that continues r is
  -- joined to it; the first one that does not starts the next group.
  abbrev pub joined_ranges_from : CodePointMapRange A → List (CodePointMapRange A)
      → List (CodePointMapRange A)
  joined_ranges_from r [] = r ∷ []
  joined_ranges_from r (x ∷ xs) =
      if continues r x then joined_ranges_from (merged_range r x) xs
      else r ∷ joined_ranges_from x xs

  -- The joined ranges: one for each group of ranges that continue one another, with the value of
  -- the group's first range.
  abbrev pub joined_ranges : List (CodePointMapRange A) → List (CodePointMapRange A)
  joined_ranges [] = []
  joined_ranges (x ∷ xs) = joined_ranges_from x xs

  -- ---- The same, as a property instead of a computation.
  --
  -- Each of the ranges continues the group of r and the ranges before it.
  abbrev pub GoOn : CodePointMapRange A → List (CodePointMapRange A) → Type 0
  GoOn r [] = Unit {0}
  GoOn r (x ∷ xs) = (continues r x ≡ true) × GoOn (merged_range r x) xs

  -- r and the ranges that continue it, joined into one range with the value of r.
  abbrev pub group_of : CodePointMapRange A → List (CodePointMapRange A) → CodePointMapRange A
  group_of r [] = r
  group_of r (x ∷ xs) = group_of (merged_range r x) xs

  -- The first of the ranges, if there is one, does not continue r.
  abbrev pub StopsAt : CodePointMapRange A → List (CodePointMapRange A) → Type 0
  StopsAt r [] = Unit {0}
  StopsAt r (x ∷ xs) = continues r x ≡ false

  -- ys are the joined ranges of xs: xs is split into groups of ranges that continue one another. A
  -- group ends when the next range does not continue it. Each group is one range of ys.
  abbrev pub AreJoined : List (CodePointMapRange A) → List (CodePointMapRange A) → Type 0
  AreJoined xs [] = xs ≡ []
  AreJoined xs (y ∷ ys) =
      (r : CodePointMapRange A) × (others : List (CodePointMapRange A))
      × (rest : List (CodePointMapRange A))
      × (xs ≡ r ∷ (others ++ rest)) × GoOn r others × (y ≡ group_of r others) × StopsAt y rest
      × AreJoined rest ys
