-- There is one joined range for each group.
use Rattle.std.proofs.Common.{◌≡◌, ℕ, ◌≤◌, List, [], ◌∷◌, ◌++◌, length, Bool, true, false, refl, ap, arith, zero, suc}
use Rattle.std.proofs.lemmas.List.{length-append}
use Rattle.icu_trie_core.specs.declared.range.CodePointMapRange.{CodePointMapRange}
use Rattle.icu_trie.specs.JoinedRanges.{AreJoined, GoOn, StopsAt, continues, group_of, joined_ranges, joined_ranges_from, merged_range}

module _ {A : Type 0} (eq : A → A → Bool) where
  -- The first group, which is r and the ranges that continue it, and the ranges after the group.
  record FirstGroup (r : CodePointMapRange A) (xs : List (CodePointMapRange A)) : Type 0 where
    pub others : List (CodePointMapRange A)
    pub rest : List (CodePointMapRange A)
    pub parts : xs ≡ others ++ rest
    pub go_on : GoOn eq r others
    pub stops : StopsAt eq (group_of eq r others) rest
    pub first : joined_ranges_from eq r xs ≡ group_of eq r others ∷ joined_ranges eq rest

  group_with : (r x : CodePointMapRange A) (xs : List (CodePointMapRange A)) (b : Bool) → continues eq r x ≡ b
      → FirstGroup (merged_range eq r x) xs → FirstGroup r (x ∷ xs)
  group_with r x xs true e g = record {
    others = x ∷ g.others;
    rest = g.rest;
    parts = ap (λ ys. x ∷ ys) g.parts;
    go_on = (e, g.go_on);
    stops = g.stops;
    first = rw e g.first;
  }
  group_with r x xs false e g = record { others = []; rest = x ∷ xs; parts = refl; go_on = tt; stops = e; first = rw e refl }

  first_group : (r : CodePointMapRange A) (xs : List (CodePointMapRange A)) → FirstGroup r xs
  first_group r [] = record { others = []; rest = []; parts = refl; go_on = tt; stops = tt; first = refl }
  first_group r (x ∷ xs) = group_with r x xs (continues eq r x) refl (first_group (merged_range eq r x) xs)

  groups : (n : ℕ) (xs : List (CodePointMapRange A)) → length xs ≤ n → AreJoined eq xs (joined_ranges eq xs)
  groups n [] h = refl
  groups zero (x ∷ xs) h = absurd (omega arith)
  groups (suc n) (x ∷ xs) h =
      let g = first_group x xs in
      let l : length g.rest ≤ n = (let a = ap length g.parts in let b = length-append g.others g.rest in omega arith) in
      rw g.first (x, g.others, g.rest, ap (λ ys. x ∷ ys) g.parts, g.go_on, refl, g.stops, groups n g.rest l)

  -- There is one joined range for each group of ranges that continue one another.
  pub joined_ranges-are : (xs : List (CodePointMapRange A)) → AreJoined eq xs (joined_ranges eq xs)
  joined_ranges-are xs = groups (length xs) xs (omega arith)
