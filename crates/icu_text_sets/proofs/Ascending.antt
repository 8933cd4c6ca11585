-- Sorted texts: the index of a text or of a new one, and that they stay sorted with the new one.
use Rattle.std.proofs.Common.{◌≡◌, ℕ, zero, suc, ◌<◌, ◌≤◌, List, [], ◌∷◌, false, Result, Ok, Err, refl, sym, ap, ◌∙◌, arith, length, get_or, add-one, inl, inr, subst, String, Global, string_bytes}
use Rattle.std.specs.Str.{bytes_eq}
use Rattle.std.specs.List.Sorted.{IsNonDecreasingBy, IsBinarySearchResult, IsSearchInRange}
use Rattle.std.specs.Ordering.{ordering_index, ordering_reverse, is_eq}
use Rattle.std.specs.Cmp.{IsTotalOrder}
use Rattle.std.specs.Cmp.Lexicographic.{texts_ties}
use Rattle.std.specs.Fn.{Called, ReturnsEach, AlwaysReturns}
use denote.Param.Members.{Mut}
use Rattle.std.specs.Result.{is_ok}
use Rattle.std.specs.declared.cmp.Ordering.{Ordering}
use Rattle.std.specs.declared.cmp.Ordering.TheVariants.{Less, Equal, Greater}
use Rattle.std.proofs.lemmas.Cmp.{nat_list_cmp_total, alike_right}
use Rattle.std.proofs.lemmas.List.{get_or-map, get_or_default}
use Rattle.std.proofs.lemmas.Bool.{cases_lt}
use Rattle.std.proofs.lemmas.List.Folds.{list_any_none, list_any_at}
use Rattle.std.proofs.lemmas.List.Sorted.{IsNonDecreasingBy-from_all_adjacent}
use Rattle.icu_text_sets.specs.TextSet.{text_cmp, is_among, texts_of, IsStringList}
use Rattle.icu_text_sets.specs.Inside.StringPlaces.{IsPlaceOf}

-- ---- the order of texts
total : IsTotalOrder text_cmp
total = nat_list_cmp_total

-- Any text less than another comes before it.
turned : (a b : List ℕ) → text_cmp a b ≡ Greater → text_cmp b a ≡ Less
turned a b h = total.antisymm b a ∙ ap ordering_reverse h

-- The greater of two texts does not compare as less with a third.
ranks_as : (a b x : List ℕ) (o : Ordering) → text_cmp b x ≡ o → text_cmp a b ≡ Less
    → ordering_index (text_cmp a x) ≤ ordering_index (text_cmp b x)
ranks_as a b x Less e h = let k : text_cmp a x ≡ Less = total.trans a b x h e in rw (k, e) (omega arith)
ranks_as a b x Equal e h = let k : text_cmp a x ≡ Less = sym (alike_right total b x a e) ∙ h in rw (k, e) (omega arith)
ranks_as a b x Greater e h = rw e (at_most_two (text_cmp a x))
  where
    at_most_two : (o : Ordering) → ordering_index o ≤ 2
    at_most_two Less = omega arith
    at_most_two Equal = omega arith
    at_most_two Greater = omega arith

ranks : (a b x : List ℕ) → text_cmp a b ≡ Less → ordering_index (text_cmp a x) ≤ ordering_index (text_cmp b x)
ranks a b x h = ranks_as a b x (text_cmp b x) refl h

-- ---- neighbours
next_to : (ts : List (List ℕ)) → IsStringList ts → (k : ℕ) (d : List ℕ) → suc k < length ts
    → text_cmp (get_or ts k d) (get_or ts (suc k) d) ≡ Less
next_to [] s k d h = absurd (omega arith)
next_to (t ∷ []) s k d h = absurd (omega arith)
next_to (t ∷ u ∷ ts) s zero d h = s.1
next_to (t ∷ u ∷ ts) s (suc k) d h = next_to (u ∷ ts) s.2 k d (omega arith)

length-texts : (strings : List (String Global)) → length (texts_of strings) ≡ length strings
length-texts [] = refl
length-texts (s ∷ strings) = ap suc (length-texts strings)

rises : (strings : List (String Global)) (text : List ℕ) → IsStringList (texts_of strings)
    → IsNonDecreasingBy (λ s. ordering_index (text_cmp (string_bytes s) text)) strings
rises strings text s =
    IsNonDecreasingBy-from_all_adjacent (λ s. ordering_index (text_cmp (string_bytes s) text)) strings
    (λ k d h.
    let l = length-texts strings in
    let step : text_cmp (get_or (texts_of strings) k (string_bytes d)) (get_or (texts_of strings) (suc k) (string_bytes d)) ≡ Less =
    next_to (texts_of strings) s k (string_bytes d) (omega arith) in
    let here : get_or (texts_of strings) k (string_bytes d) ≡ string_bytes (get_or strings k d) =
    get_or-map (λ s. string_bytes s) strings k d (string_bytes d) (omega arith) in
    let next : get_or (texts_of strings) (suc k) (string_bytes d) ≡ string_bytes (get_or strings (suc k) d) =
    get_or-map (λ s. string_bytes s) strings (suc k) d (string_bytes d) (omega arith) in
    rw add-one (ranks (string_bytes (get_or strings k d)) (string_bytes (get_or strings (suc k) d)) text (rw (here, next) at step)))

-- ---- the search
-- What holds for the string at k, with any default past the end, holds for the text there.
at_text : (P : List ℕ → Type 0) (strings : List (String Global)) (k : ℕ) → k < length strings
    → ((d : String Global) → P (string_bytes (get_or strings k d))) → P (get_or (texts_of strings) k [])
at_text P [] k h p = absurd (omega arith)
at_text P (s ∷ strings) k h p = rw (get_or-map (λ z. string_bytes z) (s ∷ strings) k s [] h) (p s)

pub found_place : (strings : List (String Global)) (text : List ℕ) (r : Result ℕ ℕ) → IsStringList (texts_of strings)
    → IsSearchInRange r (length strings)
    → IsBinarySearchResult (λ s. text_cmp (string_bytes s) text) strings r → IsPlaceOf (texts_of strings) text r
found_place strings text (Ok i) s b p = (rw (length-texts strings) b, at_text (λ t. text_cmp t text ≡ Equal) strings i b p)
found_place strings text (Err i) s b p =
    let parts = p (rises strings text s) in
    let l = length-texts strings in (
      omega arith,
      λ k h. at_text (λ t. text_cmp t text ≡ Less) strings k (omega arith) (λ d. parts.0 k d (omega arith) h),
      λ k h g. at_text (λ t. text_cmp t text ≡ Greater) strings k (omega arith) (λ d. parts.1 k d h (omega arith)),
    )

same_as : (t text : List ℕ) (o : Ordering) → text_cmp t text ≡ o → bytes_eq t text ≡ is_eq o
same_as t text o h = texts_ties t text ∙ ap is_eq h

before_or_after : (ts : List (List ℕ)) (text : List ℕ) (i k : ℕ) → k < length ts → IsPlaceOf ts text (Err i)
    → bytes_eq (get_or ts k []) text ≡ false
before_or_after ts text i k h p = elim (cases_lt k i) [
  | inl g ↦ same_as (get_or ts k []) text Less (p.1 k g)
  | inr g ↦ same_as (get_or ts k []) text Greater (p.2 k g h)
]

pub found_among : (ts : List (List ℕ)) (text : List ℕ) (r : Result ℕ ℕ) → IsPlaceOf ts text r → is_ok r ≡ is_among ts text
found_among ts text (Ok i) p = sym (list_any_at (λ t. bytes_eq t text) ts i [] p.0 (same_as (get_or ts i []) text Equal p.1))
found_among ts text (Err i) p =
    sym (list_any_none (λ t. bytes_eq t text) ts (λ k d h. rw (get_or_default ts k d [] h) (before_or_after ts text i k h p)))

-- ---- a closure that is unchanged by each call
each_call : {F X R : Type 0} (g : Mut F X R) (P : X → R → Type 0) (f : F)
    → ((a : X) (r : R) (f' : F) → Called g f a r f' → P a r × (f' ≡ f)) → (xs : List X) → ReturnsEach g P f xs
each_call g P f h [] = tt
each_call g P f h (a ∷ xs) = λ r f' k. let p = h a r f' k in (p.0, subst (λ z. ReturnsEach g P z xs) (sym p.1) (each_call g P f h xs))

pub always_same : {F X R : Type 0} (g : Mut F X R) (P : X → R → Type 0) (f : F)
    → ((a : X) (r : R) (f' : F) → Called g f a r f' → P a r × (f' ≡ f)) → AlwaysReturns g P f
always_same g P f h = record { at = λ xs. each_call g P f h xs }
