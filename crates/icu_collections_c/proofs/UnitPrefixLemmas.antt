-- The prefixes of a text that have a value, as a cursor passes the text.
use Rattle.std.proofs.Common.{◌≡◌, ◌∙◌, refl, sym, ap, subst, ℕ, ℤ, zero, suc, ◌+◌, ◌-◌, ◌<◌, ◌≤◌, Bool, true, false, not, List, [], ◌∷◌, ◌++◌, Option, Some, None, length, append-nil, length-append, arith}
use Rattle.std.specs.Prelude.{map}
use Rattle.std.proofs.lemmas.List.{map-append}
use Rattle.icu_char16trie.specs.Grammar.{IsTrieOf}
use Rattle.icu_char16trie.specs.Matches.{HasValueAlong, match_at}
use Rattle.icu_char16trie.specs.Steps.{StepsAlong}
use Rattle.icu_char16trie.specs.UnitMap.{UnitMap, goes_on, value_of}
use Rattle.icu_char16trie.specs.UnitPlaces.{At, HasPassed, is_empty_at, value_at}
use Rattle.icu_char16trie.specs.declared.place.Place.TheVariants.{Node}
use Rattle.icu_char16trie.proofs.CallerLemmas.{none_along, none_beyond}
use Rattle.icu_zerovec.specs.Buffers.{written}
use Rattle.icu_collections_c.proofs.BufferLemmas.{written-none}
use Rattle.icu_collections_c.specs.UnitPrefixes.{AreValued, HasFound, prefix_of}
use Rattle.icu_collections_c.specs.declared.unit_prefixes.Prefix.{Prefix}

-- ---- prefixes in a buffer

-- One more prefix was found.
pub HasFound-more : (xs : List (ℕ × ℤ)) (all old new : List Prefix) (n : ℕ) (x : ℕ × ℤ) → HasFound xs all old n
    → new ≡ written (map prefix_of xs ++ prefix_of x ∷ []) all → HasFound (xs ++ x ∷ []) all new (n + 1)
HasFound-more xs all old new n x was is = record {
  count = omega (arith, length-append xs (x ∷ []), was.count);
  buffer = is ∙ ap (λ z. written z all) (sym (map-append prefix_of xs (x ∷ [])));
}

-- Before anything is found.
pub HasFound-none : (all : List Prefix) → HasFound [] all all 0
HasFound-none all = record { count = refl; buffer = written-none all }

-- ---- prefixes, one after another

-- If no longer prefix has a value, no more are found.
AreValued-none : (P : ℕ → Option ℤ → Type 0) (size : ℕ → ℕ) (i j : ℕ) (xs : List (ℕ × ℤ)) → AreValued P size i xs
    → ((k : ℕ) → i ≤ k → k < i + j → P k None) → AreValued P size (i + j) xs
AreValued-none P size i zero xs h none = subst (λ n. AreValued P size n xs) (same i) h
  where
    same : (n : ℕ) → n ≡ n + zero
    same n = omega arith
AreValued-none P size i (suc j) xs h none =
    subst (λ n. AreValued P size n xs) last (
      xs,
      None,
      AreValued-none P size i j xs h (λ k a b. none k a (omega (arith, b))),
      none (i + j) (omega arith) (omega arith),
      sym (append-nil xs),
    )
  where
    last : suc (i + j) ≡ i + suc j
    last = omega arith

-- There are no more prefixes with a value than prefixes.
pub few-valued : (P : ℕ → Option ℤ → Type 0) (size : ℕ → ℕ) (n : ℕ) (xs : List (ℕ × ℤ)) → AreValued P size n xs → length xs ≤ n
few-valued P size zero xs h = omega (arith, ap length h)
few-valued P size (suc n) xs h =
    let before = few-valued P size n h.0 h.2 in
    omega (arith, before, ap length h.4, length-append h.0 (match_at (size n) h.1), at_most_one (size n) h.1)
  where
    at_most_one : (k : ℕ) (v : Option ℤ) → length (match_at k v) ≤ 1
    at_most_one k None = omega arith
    at_most_one k (Some v) = omega arith

-- Found holds for all prefixes with a value of a text of `most` items.
abbrev pub AllValued : (ℕ → Option ℤ → Type 0) → (ℕ → ℕ) → ℕ → (List (ℕ × ℤ) → Type 0) → Type 0
AllValued HasValue size most Found = (xs : List (ℕ × ℤ)) × AreValued HasValue size (suc most) xs × Found xs

-- The cursor has passed the first k items of a text: `front k` are their units. Found holds for the prefixes with a value among the
-- first k + 1.
pub record HasLooked (units : List ℕ) (front : ℕ → List ℕ) (size : ℕ → ℕ) (k : ℕ) (cursor : At)
    (Found : List (ℕ × ℤ) → Type 0) : Type 0 where
  pub units_are : cursor.units ≡ units
  pub steps : StepsAlong units (Node 0) (front k) cursor.place
  pub after : (m : UnitMap) → IsTrieOf units m → HasPassed cursor m (front k)
  pub xs : List (ℕ × ℤ)
  pub exact : AreValued (λ j v. HasValueAlong units (front j) v) size (suc k) xs
  pub keys : (m : UnitMap) → IsTrieOf units m → AreValued (λ j v. value_of m (front j) ≡ v) size (suc k) xs
  pub are : Found xs

-- Found holds for all prefixes with a value of a text of `most` items: by the steps, and by each map.
pub record HasAll (units : List ℕ) (front : ℕ → List ℕ) (size : ℕ → ℕ) (most : ℕ) (Found : List (ℕ × ℤ) → Type 0) : Type 0 where
  pub exact : AllValued (λ j v. HasValueAlong units (front j) v) size most Found
  pub keys : (m : UnitMap) → IsTrieOf units m → AllValued (λ j v. value_of m (front j) ≡ v) size most Found

-- There are no more of them than prefixes.
pub few-looked : {units : List ℕ} {front : ℕ → List ℕ} {size : ℕ → ℕ} {k : ℕ} {cursor : At} {Found : List (ℕ × ℤ) → Type 0}
    (was : HasLooked units front size k cursor Found) → length was.xs ≤ suc k
few-looked {units = units} {front = front} {size = size} {k = k} was =
    few-valued (λ j v. HasValueAlong units (front j) v) size (suc k) was.xs was.exact

module _ (units : List ℕ) (front : ℕ → List ℕ) (size : ℕ → ℕ) where
  -- Before the first item.
  pub looked_first : (cursor : At) (Found : List (ℕ × ℤ) → Type 0) (v : Option ℤ) → cursor.units ≡ units
      → front 0 ≡ [] → cursor.place ≡ Node 0 → ((m : UnitMap) → IsTrieOf units m → HasPassed cursor m [])
      → v ≡ value_at cursor.units cursor.place
      → ((m : UnitMap) (w : List ℕ) → HasPassed cursor m w → v ≡ value_of m w)
      → Found (match_at (size 0) v) → HasLooked units front size 0 cursor Found
  looked_first cursor Found v same none at root value values are =
      let steps : StepsAlong units (Node 0) (front 0) cursor.place = rw none at in
      record {
        units_are = same;
        steps = steps;
        after = λ m h. rw none (root m h);
        xs = match_at (size 0) v;
        exact = ([], v, refl, (cursor.place, steps, rw (← same) (sym value)), refl);
        keys = λ m h. ([], v, refl, rw none (sym (values m [] (root m h))), refl);
        are = are;
      }

  -- After one more item.
  pub looked_next : (k next : ℕ) → next ≡ suc k → (old new : At) (Found Found' : List (ℕ × ℤ) → Type 0) (v : Option ℤ)
      → HasLooked units front size k old Found → new.units ≡ units
      → StepsAlong units (Node 0) (front next) new.place
      → ((m : UnitMap) → IsTrieOf units m → HasPassed new m (front next))
      → v ≡ value_at new.units new.place
      → ((m : UnitMap) (w : List ℕ) → HasPassed new m w → v ≡ value_of m w)
      → ((xs : List (ℕ × ℤ)) → Found xs → Found' (xs ++ match_at (size next) v))
      → HasLooked units front size next new Found'
  looked_next k next is old new Found Found' v was same steps after value values found = record {
    units_are = same;
    steps = steps;
    after = after;
    xs = was.xs ++ match_at (size next) v;
    exact = (
      was.xs,
      v,
      subst (λ j. AreValued (λ i o. HasValueAlong units (front i) o) size j was.xs) (sym is) was.exact,
      (new.place, steps, rw (← same) (sym value)),
      refl,
    );
    keys = λ m h. (
      was.xs,
      v,
      subst (λ j. AreValued (λ i o. value_of m (front i) ≡ o) size j was.xs) (sym is) (was.keys m h),
      sym (values m (front next) (after m h)),
      refl,
    );
    are = found was.xs was.are;
  }

  -- All items are passed.
  module _ (k : ℕ) (cursor : At) (Found : List (ℕ × ℤ) → Type 0) (was : HasLooked units front size k cursor Found) where
    pub looked_all : HasAll units front size k Found
    looked_all = record { exact = (was.xs, was.exact, was.are); keys = λ m h. (was.xs, was.keys m h, was.are) }

    -- No key continues after the items so far.
    module _ (most : ℕ) (within : k ≤ most) (ends : is_empty_at cursor.units cursor.place ≡ true)
        (none : (m : UnitMap) (w : List ℕ) → HasPassed cursor m w → goes_on m w ≡ false)
        (longer : (j : ℕ) → k < j → j ≤ most → (u : ℕ) × (more : List ℕ) × (front j ≡ front k ++ u ∷ more)) where
      no_longer : (P : ℕ → Option ℤ → Type 0) → AreValued P size (suc k) was.xs
          → ((j : ℕ) → (u : ℕ) × (more : List ℕ) × (front j ≡ front k ++ u ∷ more) → P j None) → AllValued P size most Found
      no_longer P valued step =
          let all : suc k + (most - k) ≡ suc most = omega (arith, within) in (
            was.xs,
            subst (λ i. AreValued P size i was.xs) all (AreValued-none P size (suc k) (most - k) was.xs valued
                (λ j a b. step j (longer j (omega (arith, a)) (omega (arith, b, within))))),
            was.are,
          )

      pub looked_ends : HasAll units front size most Found
      looked_ends = record {
        exact = no_longer (λ j v. HasValueAlong units (front j) v) was.exact
            (λ j more. rw more.2 (none_along units (front k) cursor.place more.0 more.1 was.steps (rw was.units_are at ends)));
        keys = λ m h. no_longer (λ j v. value_of m (front j) ≡ v) (was.keys m h)
            (λ j more. ap (value_of m) more.2 ∙ none_beyond m (front k) more.0 more.1 (none m (front k) (was.after m h)));
      }

pub no_more : (b : Bool) → not b ≡ true → b ≡ false
no_more true e = cc
no_more false e = refl
