-- The iterator of a value yields those of all ranges that have it.
use Rattle.std.proofs.Common.{◌≡◌, ℕ, List, [], ◌∷◌, ◌++◌, map, Bool, true, false, Option, Some, None, IfSome, option_map, rules, sym, ap, subst, ◌∙◌, refl}
use Rattle.std.specs.Iterator.{Yields, YieldsThen, Drains}
use Rattle.std.specs.declared.ops.RangeInclusive.{RangeInclusive}
use Rattle.std.proofs.lemmas.List.Elements.{filter-append}
use Rattle.icu_trie_core.specs.declared.range.CodePointMapRange.{CodePointMapRange}
use Rattle.icu_trie.specs.declared.ranges.CodePointMapRangeIterator.{CodePointMapRangeIterator}
use Rattle.icu_trie.specs.declared.ranges_of_value.IterRangesForValue.{IterRangesForValue}
use Rattle.icu_trie.specs.Iterators.{GivesNextRange}
use Rattle.icu_trie.specs.RangesOfValue.{with_value, GivesNextOfValue, value_iterator_source, value_iterator_value}

module _ {S A : Type 0} (steps : S → Option A → S → Type 0) where
  pub Yields-append : (s : S) (xs : List A) (t : S) (ys : List A) (u : S) → Yields steps s xs t → Yields steps t ys u
      → Yields steps s (xs ++ ys) u
  Yields-append s [] t ys u a b = subst (λ k. Yields steps k ys u) (sym a) b
  Yields-append s (x ∷ xs) t ys u a b = (a.0, a.1, Yields-append a.0 xs t ys u a.2 b)

  -- One more call.
  pub Yields-one_more : (s : S) (xs : List A) (t : S) (x : A) (u : S) → Yields steps s xs t → steps t (Some x) u
      → Yields steps s (xs ++ x ∷ []) u
  Yields-one_more s xs t x u a b = Yields-append s xs t (x ∷ []) u a (u, b, refl)

module _ {A : Type 0} {m : _} (of_number : ℕ → Option A) (eq : A → A → Bool) where
  -- A call that returned a range skipped other ranges and then took one with the value.
  found : (v : A) (s j : CodePointMapRangeIterator A m) (passed : List (CodePointMapRange A)) (last : Option (CodePointMapRange A))
      (x : RangeInclusive ℕ) → Some x ≡ option_map (λ y. y.range) last → IfSome last (λ y. eq y.value v ≡ true)
      → YieldsThen (GivesNextRange of_number) s passed last j → (y : CodePointMapRange A) × (x ≡ y.range) × (eq y.value v ≡ true)
      × YieldsThen (GivesNextRange of_number) s passed (Some y) j
  found v s j passed None x e h c = absurd (let no : Some x ≡ None = e in search rules)
  found v s j passed (Some y) x e h c = (y, (let same : x ≡ y.range = cc in same), h, c)

  ended : (s j : CodePointMapRangeIterator A m) (passed : List (CodePointMapRange A)) (last : Option (CodePointMapRange A))
      → None ≡ option_map (λ y. y.range) last
      → YieldsThen (GivesNextRange of_number) s passed last j → YieldsThen (GivesNextRange of_number) s passed None j
  ended s j passed None e c = c
  ended s j passed (Some y) e c = absurd (let no : None ≡ Some y.range = e in search rules)

  -- The iterator of a value yields exactly the ranges with the value.
  pub selected-from_run : (xs : List (RangeInclusive ℕ)) (s t u : IterRangesForValue A m) → Yields (GivesNextOfValue of_number eq) s xs t
      → GivesNextOfValue of_number eq t None u
      → (all : List (CodePointMapRange A)) × Drains (GivesNextRange of_number) (value_iterator_source s) all
      × (xs ≡ map (λ x. x.range) (with_value eq (value_iterator_value s) all))
  selected-from_run [] s t u y none' =
      let none : GivesNextOfValue of_number eq s None u = rw y none' in
      let e = ended _ _ none.passed none.last none.gives none.calls in
      (none.passed, (_, e), rw none.others refl)
  selected-from_run (x ∷ xs) s t u y none =
      let step = y.1 in
      let f = found _ _ _ step.passed step.last x step.gives step.has step.calls in
      let rest = selected-from_run xs y.0 t u y.2 none in
      let tail : xs ≡ map (λ x. x.range) (with_value eq (value_iterator_value s) rest.0) = rw (sym step.same) rest.2 in (
        step.passed ++ f.0 ∷ rest.0,
        (
          rest.1.0,
          (
            rest.1.1.0,
            Yields-append (GivesNextRange of_number)
                (value_iterator_source s) step.passed f.3.0 (f.0 ∷ rest.0) rest.1.1.0 f.3.1 (value_iterator_source y.0, f.3.2, rest.1.1.1),
            rest.1.1.2,
          ),
        ),
        rw (filter-append (λ r. eq r.value (value_iterator_value s)) step.passed (f.0 ∷ rest.0), step.others, f.2)
            (ap (λ r. r ∷ xs) f.1 ∙ ap (λ l. f.0.range ∷ l) tail),
      )

-- One more range with another value.
pub passed_more : {A : Type 0} (eq : A → A → Bool) (v : A) (passed : List (CodePointMapRange A)) (x : CodePointMapRange A)
    → with_value eq v passed ≡ [] → eq x.value v ≡ false → with_value eq v (passed ++ x ∷ []) ≡ []
passed_more eq v passed x none other = rw (filter-append (λ r. eq r.value v) passed (x ∷ []), none, other) refl
