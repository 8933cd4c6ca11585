-- Two lists of strings of a set with the same members are equal.
use Rattle.std.proofs.Common.{◌≡◌, ℕ, List, [], ◌∷◌, Bool, true, false, ◌||◌, ◌&&◌, refl, sym, ap, subst, ◌∙◌, inl, inr, String, Global, string_bytes, Decides, nat_eq}
use Rattle.std.specs.Str.{bytes_eq}
use Rattle.std.specs.Ordering.{ordering_reverse, is_eq}
use Rattle.std.specs.String.{string_eq}
use Rattle.std.specs.Cmp.{IsTotalOrder}
use Rattle.std.specs.Cmp.Lexicographic.{texts_ties, pointwise, pointwise_decides}
use Rattle.std.specs.declared.cmp.Ordering.{Ordering}
use Rattle.std.specs.declared.cmp.Ordering.TheVariants.{Less, Equal, Greater}
use Rattle.std.proofs.lemmas.Cmp.{nat_list_cmp_total, tied_itself}
use Rattle.std.proofs.lemmas.Slice.Eq.{bytes_eq-Decides}
use Rattle.std.proofs.lemmas.Bool.{or_cases, false_from_ne_true}
use Rattle.std.proofs.lemmas.Bool.Decides.{Decides-and}
use Rattle.icu_text_sets.specs.TextSet.{TextSet, text_cmp, is_among, member, texts_of, IsStringList, same_set}

total : IsTotalOrder text_cmp
total = nat_list_cmp_total

equal : (x y : List ℕ) → bytes_eq x y ≡ true → x ≡ y
equal x y h = (bytes_eq-Decides x y).0 h

-- ---- what a list contains
first_among : (x : List ℕ) (xs : List (List ℕ)) → is_among (x ∷ xs) x ≡ true
first_among x xs = ap (λ z. z || is_among xs x) ((bytes_eq-Decides x x).1 refl)

tail : (x : List ℕ) (xs : List (List ℕ)) → IsStringList (x ∷ xs) → IsStringList xs
tail x [] s = tt
tail x (y ∷ xs) s = s.2

-- The first is less than the others.
leads : (x : List ℕ) (xs : List (List ℕ)) (t : List ℕ) → IsStringList (x ∷ xs) → is_among xs t ≡ true → text_cmp x t ≡ Less
leads x [] t s h = absurd cc
leads x (y ∷ xs) t s h = elim (or_cases (bytes_eq y t) (is_among xs t) h) [
  | inl e ↦ ap (text_cmp x) (sym (equal y t e)) ∙ s.1
  | inr g ↦ total.trans x y t s.1 (leads y xs t s.2 g)
]

no_less_equal : (x y : List ℕ) → text_cmp x y ≡ Less → text_cmp x y ≡ Equal → ⊥
no_less_equal x y h e = let k : Less ≡ Equal = sym h ∙ e in cc

-- A text less than the first of a list is not in the list.
not_before : (x y : List ℕ) (ys : List (List ℕ)) → IsStringList (y ∷ ys) → text_cmp x y ≡ Less → is_among (y ∷ ys) x ≡ true → ⊥
not_before x y ys s h a = elim (or_cases (bytes_eq y x) (is_among ys x) a) [
  | inl e ↦ no_less_equal x y h (ap (text_cmp x) (equal y x e) ∙ tied_itself total x)
  | inr g ↦ let k : Greater ≡ Less = sym (total.antisymm y x ∙ ap ordering_reverse h) ∙ leads y ys x s g in cc
]

-- ---- equal lists
same_rest : (x : List ℕ) (xs ys : List (List ℕ)) → IsStringList (x ∷ xs) → IsStringList (x ∷ ys)
    → ((t : List ℕ) → is_among (x ∷ xs) t ≡ is_among (x ∷ ys) t) → (t : List ℕ) (b : Bool)
    → bytes_eq x t ≡ b → is_among xs t ≡ is_among ys t
same_rest x xs ys s r a t true e =
    let gone : (zs : List (List ℕ)) → IsStringList (x ∷ zs) → is_among zs t ≡ false =
    λ zs q. false_from_ne_true (is_among zs t)
    (λ h. no_less_equal x t (leads x zs t q h) (ap (text_cmp x) (sym (equal x t e)) ∙ tied_itself total x)) in
    gone xs s ∙ sym (gone ys r)
same_rest x xs ys s r a t false e = sym (ap (λ z. z || is_among xs t) e) ∙ a t ∙ ap (λ z. z || is_among ys t) e

same_first : (x : List ℕ) (xs : List (List ℕ)) (y : List ℕ) (ys : List (List ℕ)) → IsStringList (x ∷ xs) → IsStringList (y ∷ ys)
    → ((t : List ℕ) → is_among (x ∷ xs) t ≡ is_among (y ∷ ys) t) → (o : Ordering) → text_cmp x y ≡ o → x ≡ y
same_first x xs y ys s r a Less e = absurd (not_before x y ys r e (sym (a x) ∙ first_among x xs))
same_first x xs y ys s r a Equal e = equal x y (texts_ties x y ∙ ap is_eq e)
same_first x xs y ys s r a Greater e = absurd (not_before y x xs s (total.antisymm y x ∙ ap ordering_reverse e) (a y ∙ first_among y ys))

pub same_strings : (xs ys : List (List ℕ)) → IsStringList xs → IsStringList ys → ((t : List ℕ) → is_among xs t ≡ is_among ys t) → xs ≡ ys
same_strings [] [] s r a = refl
same_strings [] (y ∷ ys) s r a = let k : false ≡ true = a y ∙ first_among y ys in absurd cc
same_strings (x ∷ xs) [] s r a = let k : false ≡ true = sym (a x) ∙ first_among x xs in absurd cc
same_strings (x ∷ xs) (y ∷ ys) s r a =
    let e : x ≡ y = same_first x xs y ys s r a (text_cmp x y) refl in
    rw e (ap (λ (zs : List (List ℕ)). y ∷ zs)
    (same_strings xs ys (tail x xs s) (tail y ys r)
    (λ t. same_rest y xs ys (subst (λ z. IsStringList (z ∷ xs)) e s) r (λ u. subst (λ z. is_among (z ∷ xs) u ≡ is_among (y ∷ ys) u) e (a u))
    t (bytes_eq y t) refl)))

-- ---- equal sets
pub texts_decide : (xs ys : List (List ℕ)) → Decides (pointwise bytes_eq xs ys) (xs ≡ ys)
texts_decide xs ys = pointwise_decides (λ x y. bytes_eq-Decides x y) xs ys

pub sets_decide : (a b : TextSet) → Decides (same_set a b) (a ≡ b)
sets_decide a b =
    let parts = Decides-and (pointwise nat_eq a.code_points b.code_points) (pointwise bytes_eq a.strings b.strings)
    (bytes_eq-Decides a.code_points b.code_points) (texts_decide a.strings b.strings) in (
      λ h. let p = parts.0 h in λ i. record { code_points = p.0 i; strings = p.1 i },
      λ e. parts.1 (ap (λ s. s.code_points) e, ap (λ s. s.strings) e),
    )

-- Equal sets contain the same texts.
pub equal_sets_hold_alike : (a b : TextSet) (text : List ℕ) → same_set a b ≡ true → member a text ≡ member b text
equal_sets_hold_alike a b text h = ap (λ s. member s text) ((sets_decide a b).0 h)

pub strings_as_texts : (xs ys : List (String Global)) → pointwise string_eq xs ys ≡ pointwise bytes_eq (texts_of xs) (texts_of ys)
strings_as_texts [] [] = refl
strings_as_texts [] (y ∷ ys) = refl
strings_as_texts (x ∷ xs) [] = refl
strings_as_texts (x ∷ xs) (y ∷ ys) = ap (λ z. bytes_eq (string_bytes x) (string_bytes y) && z) (strings_as_texts xs ys)
