-- After few writes, a map has few distinct blocks.
use Rattle.std.proofs.Common.{◌≡◌, ℕ, ◌+◌, ◌*◌, ◌/◌, ◌%◌, ◌<◌, ◌≤◌, ◌⊎◌, Bool, true, false, cond, ◌&&◌, nat_le, List, [], ◌∷◌, ◌++◌, length, map, replicate, refl, arith, ◌∙◌, sym, ap, subst, inl, inr, length-append, suc, zero, add-zero, true≢false, Some, None}
use Rattle.std.specs.Prelude.{nat_eq}
use Rattle.std.specs.Option.{option_or, unwrap_or}
use Rattle.std.specs.List.{range_with_len, Contains, count_by}
use Rattle.std.specs.Cmp.Lexicographic.{pointwise}
use Rattle.std.proofs.lemmas.Bool.{cases_lt}
use Rattle.std.proofs.lemmas.Bool.Decides.{nat_tests}
use Rattle.std.proofs.lemmas.List.{same_lists, length-map, length-replicate, get_or-replicate, get_or_append_left, get_or-append-add}
use Rattle.std.proofs.lemmas.List.Sums.{sum_by-cons}
use Rattle.std.proofs.lemmas.List.FromFn.{length-map-range_with_len, get_or-map-range_with_len}
use Rattle.std.proofs.lemmas.Map.Made.{distinct_count-le}
use Rattle.icu_trie_core.specs.Blocks.{block_of, count_different}
use Rattle.icu_trie_builder.specs.declared.writes.Write.{Write}
use Rattle.icu_trie_builder.specs.Bounds.{IsTooLarge}
use Rattle.icu_trie_builder.specs.Writes.{write_first, write_last, write_value, is_accepted, covers, last_written, value_after}
use Rattle.icu_trie_builder.proofs.AfterLemmas.{unwrap_or-option_or}
use Rattle.icu_trie_builder.proofs.CompactionLemmas.Counts.{distinct_count-mono}
use Rattle.icu_trie_builder.proofs.CompactionLemmas.Windows.{list_laws, list_decides, times-below}

-- p is an element of the list.
abbrev Has : {A : Type 0} → List A → A → Type 0
Has [] p = ⊥
Has (x ∷ xs) p = (x ≡ p) ⊎ Has xs p

Contains-more : {A : Type 0} (x : A) (xs : List A) (p : A) → Contains xs p → Contains (x ∷ xs) p
Contains-more x xs p h = (suc h.0, omega (arith, h.1), h.2)

-- The image of an element is an element of the images.
Contains-map-Has : {A B : Type 0} (g : A → B) (xs : List A) (p : A) → Has xs p → Contains (map g xs) (g p)
Contains-map-Has g [] p h = absurd h
Contains-map-Has g (x ∷ xs) p (inl e) = (0, omega arith, ap g e)
Contains-map-Has g (x ∷ xs) p (inr h) = Contains-more (g x) (map g xs) (g p) (Contains-map-Has g xs p h)

Contains-left : {A : Type 0} (xs ys : List A) (p : A) → Contains xs p → Contains (xs ++ ys) p
Contains-left xs ys p h = (h.0, omega (arith, h.1, length-append xs ys), get_or_append_left xs ys p h.0 h.1 ∙ h.2)

Contains-right : {A : Type 0} (xs ys : List A) (p : A) → Contains ys p → Contains (xs ++ ys) p
Contains-right xs ys p h = (length xs + h.0, omega (arith, h.1, length-append xs ys), get_or-append-add xs ys h.0 p ∙ h.2)

-- Either the list has a number strictly between two numbers, or it has none.
find-between : (low high : ℕ) (bs : List ℕ) → ((p : ℕ) × Has bs p × (low < p) × (p < high)) ⊎ ((p : ℕ) → Has bs p → low < p → p < high → ⊥)
find-between low high [] = inr (λ p h. absurd h)
find-between low high (b ∷ bs) = by (cases_lt low b) (cases_lt b high) (find-between low high bs)
  where
    by : ((low < b) ⊎ (b ≤ low)) → ((b < high) ⊎ (high ≤ b))
        → (((p : ℕ) × Has bs p × (low < p) × (p < high)) ⊎ ((p : ℕ) → Has bs p → low < p → p < high → ⊥))
        → ((p : ℕ) × Has (b ∷ bs) p × (low < p) × (p < high)) ⊎ ((p : ℕ) → Has (b ∷ bs) p → low < p → p < high → ⊥)
    by (inl m) (inl n) r = inl (b, inl refl, m, n)
    by m n (inl w) = inl (w.0, inr w.1, w.2, w.3)
    by (inr m) n (inr none) = inr (λ p h l l'. elim h [ inl e ↦ omega (arith, e, m, l) | inr t ↦ none p t l l' ])
    by (inl m) (inr n) (inr none) = inr (λ p h l l'. elim h [ inl e ↦ omega (arith, e, n, l') | inr t ↦ none p t l l' ])

covers-same : (a b c : ℕ) → (a ≡ c + 1 → ⊥) → (b + 1 ≡ c + 1 → ⊥) → (nat_le a (c + 1) && nat_le (c + 1) b) ≡ (nat_le a c && nat_le c b)
covers-same a b c h k = grind (arith, nat_tests)

module _ {T : Type 0} (number : T → ℕ) (d : T) where
  -- The first code point of each accepted write, and the first one after it.
  borders : List (Write T) → List ℕ
  borders [] = []
  borders (w ∷ ws) = cond (is_accepted w) (write_first w ∷ (write_last w + 1) ∷ borders ws) (borders ws)

  -- The values of the accepted writes.
  written : List (Write T) → List T
  written [] = []
  written (w ∷ ws) = cond (is_accepted w) (write_value w ∷ written ws) (written ws)

  length-borders : (ws : List (Write T)) → length (borders ws) ≡ 2 * count_by (is_accepted) ws
  unfolding borders
  length-borders [] = refl
  length-borders (w ∷ ws) = by (is_accepted w) (length-borders ws)
      ∙ ap (λ n. 2 * n) (sym (sum_by-cons (λ x. cond (is_accepted x) 1 0) w ws))
    where
      by : (b : Bool) → length (borders ws) ≡ 2 * count_by (is_accepted) ws
          → length (cond b (write_first w ∷ (write_last w + 1) ∷ borders ws) (borders ws)) ≡ 2 * (cond b 1 0 + count_by (is_accepted) ws)
      by true h = omega (arith, h)
      by false h = omega (arith, h)

  length-written : (ws : List (Write T)) → length (written ws) ≡ count_by (is_accepted) ws
  unfolding written
  length-written [] = refl
  length-written (w ∷ ws) = by (is_accepted w) (length-written ws) ∙ sym (sum_by-cons (λ x. cond (is_accepted x) 1 0) w ws)
    where
      by : (b : Bool) → length (written ws) ≡ count_by (is_accepted) ws
          → length (cond b (write_value w ∷ written ws) (written ws)) ≡ (cond b 1 0 + count_by (is_accepted) ws)
      by true h = omega (arith, h)
      by false h = omega (arith, h)

  -- The value changes from one code point to the next only at a border.
  steady : (ws : List (Write T)) (c : ℕ) → (Has (borders ws) (c + 1) → ⊥) → last_written ws (c + 1) ≡ last_written ws c
  unfolding borders
  steady [] c h = refl
  steady (w ∷ ws) c h = by (is_accepted w) refl h (steady ws c)
    where
      by : (b : Bool) → is_accepted w ≡ b → (Has (cond b (write_first w ∷ (write_last w + 1) ∷ borders ws) (borders ws)) (c + 1) → ⊥)
          → ((Has (borders ws) (c + 1) → ⊥) → last_written ws (c + 1) ≡ last_written ws c)
          → last_written (w ∷ ws) (c + 1) ≡ last_written (w ∷ ws) c
      by true a h r =
          let e : covers w (c + 1) ≡ covers w c =
          ap (λ x. is_accepted w && x) (covers-same (write_first w) (write_last w) c (λ e. h (inl e)) (λ e. h (inr (inl e)))) in
          ap (λ o. option_or o (cond (covers w (c + 1)) (Some (write_value w)) None)) (r (λ t. h (inr (inr t))))
          ∙ ap (λ x. option_or (last_written ws c) (cond x (Some (write_value w)) None)) e
      by false a h r =
          let e : covers w (c + 1) ≡ covers w c = ap (λ x. x && (nat_le (write_first w) (c + 1) && nat_le (c + 1) (write_last w))) a
          ∙ sym (ap (λ x. x && (nat_le (write_first w) c && nat_le c (write_last w))) a) in
          ap (λ o. option_or o (cond (covers w (c + 1)) (Some (write_value w)) None)) (r h)
          ∙ ap (λ x. option_or (last_written ws c) (cond x (Some (write_value w)) None)) e

  -- Each value is the old one or one that was written.
  value_after-written : (ws : List (Write T)) (old : T) (c : ℕ) → Has (old ∷ written ws) (value_after ws old c)
  unfolding written
  value_after-written [] old c = inl refl
  value_after-written (w ∷ ws) old c =
      by (is_accepted w) (covers w c) (value_after (w ∷ ws) old c) refl refl
      (unwrap_or-option_or (last_written ws c) (cond (covers w c) (Some (write_value w)) None) old) (λ o. value_after-written ws o c)
    where
      by : (acc cov : Bool) (x : T) → is_accepted w ≡ acc → covers w c ≡ cov
          → x ≡ value_after ws (unwrap_or (cond (covers w c) (Some (write_value w)) None) old) c
          → ((o : T) → Has (o ∷ written ws) (value_after ws o c)) → Has (old ∷ cond acc (write_value w ∷ written ws) (written ws)) x
      by true true x a v e r = inr (subst (λ y. Has (write_value w ∷ written ws) y) (sym (rw v at e)) (r (write_value w)))
      by true false x a v e r = let h = subst (λ y. Has (old ∷ written ws) y) (sym (rw v at e)) (r old) in
          elim h as (λ _. Has (old ∷ write_value w ∷ written ws) x) [ inl q ↦ inl q | inr t ↦ inr (inr t) ]
      by false true x a v e r = absurd (true≢false (sym v ∙ ap (λ y. y && (nat_le (write_first w) c && nat_le c (write_last w))) a))
      by false false x a v e r = subst (λ y. Has (old ∷ written ws) y) (sym (rw v at e)) (r old)

  module _ (ws : List (Write T)) where
    -- The numbers of the map after the writes.
    of : ℕ → ℕ
    of c = number (value_after ws d c)

    -- A block without a border inside has one value.
    steady-block : (low high : ℕ) → ((p : ℕ) → Has (borders ws) p → low < p → p < high → ⊥) → (i : ℕ) → low + i < high
        → of (low + i) ≡ of low
    unfolding of
    steady-block low high h zero l = ap (λ c. number (value_after ws d c)) (add-zero low)
    steady-block low high h (suc i) l =
        let step = steady ws (low + i) (λ t. h (low + i + 1) t (omega arith) (omega (arith, l))) in
        let at : low + suc i ≡ low + i + 1 = omega arith in
        ap (λ c. number (value_after ws d c)) at ∙ ap (λ o. number (unwrap_or o d)) step ∙ steady-block low high h i (omega (arith, l))

    -- The block that contains p.
    around : ℕ → ℕ → List ℕ
    around k p = block_of k (λ c. number (value_after ws d c)) (p / k)

    -- The block of one value.
    flat : ℕ → T → List ℕ
    flat k x = replicate k (number x)

    candidates : ℕ → List (List ℕ)
    candidates k = map (flat k) (d ∷ written ws) ++ map (around k) (borders ws)

    length-candidates : (k : ℕ) → length (candidates k) ≡ 3 * count_by (is_accepted) ws + 1
    unfolding candidates
    length-candidates k = omega (
      arith,
      length-append (map (flat k) (d ∷ written ws)) (map (around k) (borders ws)),
      length-map (d ∷ written ws) (flat k),
      length-map (borders ws) (around k),
      length-borders ws,
      length-written ws,
    )

    -- Every block is one of the candidates.
    has-block : (k j : ℕ) → 0 < k → Contains (candidates k) (block_of k (λ c. number (value_after ws d c)) j)
    unfolding candidates around flat block_of of
    has-block k j pos = elim (find-between (k * j) (k * j + k) (borders ws)) [
      | inl w ↦
          let p : ℕ = w.0 in
          let whole : k * (p / k) + p % k ≡ p = omega (arith, pos) in
          let rest : p % k < k = omega (arith, pos) in
          let up : p / k < j → ⊥ = λ l. omega (arith, times-below k (p / k) j l, whole, rest, w.2) in
          let down : j < p / k → ⊥ = λ l. omega (arith, times-below k j (p / k) l, whole, rest, w.3) in
          let same : p / k ≡ j = omega (arith, up, down) in
          Contains-right (map (flat k) (d ∷ written ws))
          (map (around k) (borders ws)) _ (subst
          (λ i. Contains (map (around k) (borders ws)) (block_of k (λ c. number (value_after ws d c)) i)) same
          (Contains-map-Has (around k) (borders ws) p w.1))
      | inr none ↦
          let f : ℕ → ℕ = λ c. number (value_after ws d c) in
          let level : replicate k (f (k * j)) ≡ map f (range_with_len (k * j) k) =
          same_lists (replicate k (f (k * j))) (map f (range_with_len (k * j) k))
          (length-replicate k (f (k * j)) ∙ sym (length-map-range_with_len f (k * j) k))
          (λ i e l. let lt : i < k = omega (arith, l, length-replicate k (f (k * j))) in
          get_or-replicate k i (f (k * j)) e lt ∙ sym (steady-block (k * j) (k * j + k) none i (omega (arith, lt)))
          ∙ sym (get_or-map-range_with_len f (k * j) k i (k * j + i) e lt refl)) in
          Contains-left (map (flat k) (d ∷ written ws))
          (map (around k) (borders ws)) _ (subst (λ b. Contains (map (flat k) (d ∷ written ws)) b) level
          (Contains-map-Has (flat k) (d ∷ written ws) (value_after ws d (k * j)) (value_after-written ws d (k * j))))
    ]

    -- After n accepted writes there are at most 3 n + 1 distinct blocks of any one length.
    pub count_different-few : (k first count : ℕ) → 0 < k
        → count_different (block_of k (λ c. number (value_after ws d c))) first count ≤ 3 * count_by (is_accepted) ws + 1
    unfolding count_different
    count_different-few k first count pos =
        let b : ℕ → List ℕ = block_of k (λ c. number (value_after ws d c)) in
        omega (
          arith,
          distinct_count-mono list_laws list_decides (map b (range_with_len first count)) (candidates k)
              (λ q w. let lt : w.0 < count = omega (arith, w.1, length-map-range_with_len b first count) in
              subst (λ x. Contains (candidates k) x) (sym (get_or-map-range_with_len b first count w.0 (first + w.0) q lt refl) ∙ w.2)
              (has-block k (first + w.0) pos)),
          distinct_count-le (pointwise nat_eq) (candidates k),
          length-candidates k,
        )

    -- So a map after at most 256 accepted writes is never too large.
    pub few_too_large : count_by (is_accepted) ws ≤ 256 → IsTooLarge (λ c. number (value_after ws d c)) → ⊥
    few_too_large h (inl l) = omega (arith, h, l, count_different-few 512 0 2176 (omega arith))
    few_too_large h (inr l) = omega (arith, h, l, count_different-few 16 0 69632 (omega arith))
