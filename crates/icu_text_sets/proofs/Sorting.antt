-- Strings that are sorted, without duplicates, are a list of a set's strings with the same members.
use Rattle.std.proofs.Common.{◌≡◌, ℕ, List, [], ◌∷◌, Bool, true, false, ◌||◌, None, refl, sym, ap, ◌∙◌, String, Global, string_bytes, cond}
use Rattle.std.specs.Str.{bytes_eq}
use Rattle.std.specs.String.{string_cmp, string_eq, string_cmp_total}
use Rattle.std.specs.List.{list_any, dedup, dedup_from}
use Rattle.std.specs.List.Sorted.{IsSorted, IsStrictlySortedBy, IsPermutation}
use Rattle.std.specs.Cmp.Lexicographic.{texts_ties}
use Rattle.std.proofs.Math.Bool.{or-true}
use Rattle.std.proofs.lemmas.Slice.Eq.{bytes_eq-Decides}
use Rattle.std.proofs.lemmas.List.Kept.{IsStrictlySortedBy-dedup}
use Rattle.std.proofs.lemmas.List.Sorted.{list_any-IsPermutation}
use Rattle.icu_text_sets.specs.TextSet.{only_char, is_among, texts_of, IsStringList}

-- ---- the order
pub strictly_sorted : (xs : List (String Global)) → IsSorted string_cmp xs → IsStrictlySortedBy string_cmp (dedup string_eq xs)
strictly_sorted xs s = IsStrictlySortedBy-dedup string_cmp_total (λ x y. texts_ties (string_bytes x) (string_bytes y)) xs s

first : (t : List ℕ) (ts : List (List ℕ)) → is_among (t ∷ ts) t ≡ true
first t ts = ap (λ z. z || is_among ts t) ((bytes_eq-Decides t t).1 refl)

later : (t u : List ℕ) (ts : List (List ℕ)) → is_among ts u ≡ true → is_among (t ∷ ts) u ≡ true
later t u ts h = ap (λ z. bytes_eq t u || z) h ∙ or-true (bytes_eq t u)

-- Sorted strings, none of which has exactly one character, are the strings of a set.
pub strict_list : (xs : List (String Global)) → ((t : List ℕ) → is_among (texts_of xs) t ≡ true → only_char t ≡ None)
    → IsStrictlySortedBy string_cmp xs → IsStringList (texts_of xs)
unfolding IsStrictlySortedBy
strict_list [] p s = tt
strict_list (x ∷ []) p s = p (string_bytes x) (first (string_bytes x) [])
strict_list (x ∷ y ∷ xs) p s = (
  p (string_bytes x) (first (string_bytes x) (texts_of (y ∷ xs))),
  s.0.0,
  strict_list (y ∷ xs) (λ t h. p t (later (string_bytes x) t (texts_of (y ∷ xs)) h)) s.1,
)

-- ---- the members
among_strings : (xs : List (String Global)) (t : List ℕ)
    → is_among (texts_of xs) t ≡ list_any (λ (s : String Global). bytes_eq (string_bytes s) t) xs
among_strings [] t = refl
among_strings (x ∷ xs) t = ap (λ z. bytes_eq (string_bytes x) t || z) (among_strings xs t)

or_again : (a b c : Bool) → b ≡ a → (a || c) ≡ (a || (b || c))
or_again true b c e = refl
or_again false b c e = sym (ap (λ z. z || c) e)

kept_step : (p : String Global → Bool) (k x : String Global) (xs : List (String Global)) (b : Bool) → (b ≡ true → p x ≡ p k)
    → list_any p (dedup_from string_eq k xs) ≡ (p k || list_any p xs) → list_any p (dedup_from string_eq x xs) ≡ (p x || list_any p xs)
    → list_any p (cond b (dedup_from string_eq k xs) (k ∷ dedup_from string_eq x xs)) ≡ (p k || (p x || list_any p xs))
kept_step p k x xs true r h g = h ∙ or_again (p k) (p x) (list_any p xs) (r refl)
kept_step p k x xs false r h g = ap (λ z. p k || z) g

-- If a test gives the same result for equal strings, some string passes it after removing
-- duplicates if and only if some string did before.
kept_from : (p : String Global → Bool) → ((x y : String Global) → string_eq x y ≡ true → p x ≡ p y)
    → (k : String Global) (xs : List (String Global))
    → list_any p (dedup_from string_eq k xs) ≡ (p k || list_any p xs)
kept_from p r k [] = refl
kept_from p r k (x ∷ xs) = kept_step p k x xs (string_eq x k) (r x k) (kept_from p r k xs) (kept_from p r x xs)

kept : (p : String Global → Bool) → ((x y : String Global) → string_eq x y ≡ true → p x ≡ p y) → (xs : List (String Global))
    → list_any p (dedup string_eq xs) ≡ list_any p xs
kept p r [] = refl
kept p r (x ∷ xs) = kept_from p r x xs

alike : (t : List ℕ) (x y : String Global) → string_eq x y ≡ true → bytes_eq (string_bytes x) t ≡ bytes_eq (string_bytes y) t
alike t x y h = ap (λ z. bytes_eq z t) ((bytes_eq-Decides (string_bytes x) (string_bytes y)).0 h)

-- The members of strings that were sorted.
pub same_among : (xs ys : List (String Global)) → IsPermutation xs ys → (t : List ℕ)
    → is_among (texts_of (dedup string_eq ys)) t ≡ is_among (texts_of xs) t
same_among xs ys m t =
    among_strings (dedup string_eq ys) t ∙ kept (λ s. bytes_eq (string_bytes s) t) (alike t) ys
    ∙ sym (list_any-IsPermutation (λ (s : String Global). bytes_eq (string_bytes s) t) xs ys m) ∙ sym (among_strings xs t)
