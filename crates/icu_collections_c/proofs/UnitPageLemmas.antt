-- Pages of a listing, as they are gathered.
use Rattle.std.proofs.Common.{◌≡◌, ◌↔◌, ◌∙◌, refl, sym, ap, subst, ℕ, ℤ, suc, ◌+◌, ◌-◌, ◌<◌, ◌≤◌, min, ◌⊎◌, inl, inr, Bool, true, false, cond, ◌&&◌, nat_le, List, [], ◌∷◌, ◌++◌, length, take, drop, map, append-nil, append_assoc, length-append, arith}
use Rattle.std.specs.Prelude.{nat_lt}
use Rattle.std.proofs.lemmas.Bool.Decides.{nat_tests}
use Rattle.std.proofs.Math.Seq.{drop-nil, take-append_seam}
use Rattle.std.proofs.lemmas.List.{drop-drop, take_all}
use Rattle.icu_char16trie.specs.LossyText.{key_text}
use Rattle.icu_char16trie.specs.UnitMap.{UnitMap}
use Rattle.icu_zerovec.specs.Buffers.{written}
use Rattle.icu_collections_c.specs.Listing.{fitting, texts_of, words_from}
use Rattle.icu_collections_c.specs.UnitPages.{HasPage, shown_below}
use Rattle.icu_collections_c.specs.Inside.Pages.{Holds, IsPage, IsPushed}
use Rattle.icu_collections_c.specs.declared.listing.Word.{Word}
use Rattle.icu_collections_c.specs.declared.unit_pages.Page.{Page}
use Rattle.icu_collections_c.proofs.ListingLemmas.{fitting-all, texts-push, word_at, words-push}

abbrev pub Item : Type 0
Item = List ℕ × ℤ

-- ---- what is left of a list

-- The next one is passed.
pub drop-next : {A : Type 0} (n next : ℕ) (xs rest : List A) (x : A) → next ≡ suc n → drop n xs ≡ x ∷ rest → drop next xs ≡ rest
drop-next n next xs rest x is e = sym (drop-drop 1 n xs ∙ ap (λ k. drop k xs) (omega (arith, is))) ∙ ap (drop 1) e

-- If nothing is left, nothing is left further on.
pub drop-past : {A : Type 0} (xs : List A) (i n : ℕ) → drop i xs ≡ [] → i ≤ n → drop n xs ≡ []
drop-past xs i n e l = sym (drop-drop (n - i) i xs ∙ ap (λ k. drop k xs) (omega (arith, l))) ∙ ap (drop (n - i)) e ∙ drop-nil (n - i)

-- ---- one more item

pub Holds-push : (items : List Item) (e : Item) (p p' : Page) → Holds items p → IsPushed p e.0 e.1 p' → Holds (items ++ e ∷ []) p'
Holds-push items e p p' was pushed = record {
  words_are =
      pushed.words_are ∙ ap (λ ws. ws ++ word_at (length p.texts.items) e ∷ []) was.words_are
      ∙ ap (λ n. words_from 0 items ++ word_at n e ∷ []) (ap length was.texts_are)
      ∙ ap (λ n. words_from 0 items ++ word_at n e ∷ []) (from_zero (length (texts_of items)))
      ∙ sym (words-push 0 items e);
  texts_are = pushed.texts_are ∙ ap (λ t. t ++ e.0) was.texts_are ∙ sym (texts-push items e);
}
  where
    from_zero : (n : ℕ) → n ≡ 0 + n
    from_zero n = omega arith

-- ---- where a page ends

none_fit : (words bytes : ℕ) (e : Item) (es : List Item) → (words ≡ 0) ⊎ (bytes < length e.0) → fitting words bytes (e ∷ es) ≡ []
none_fit words bytes e es h = ap (λ b. cond b (e ∷ fitting (words - 1) (bytes - length e.0) es) []) (test h)
  where
    test : (words ≡ 0) ⊎ (bytes < length e.0) → (nat_lt 0 words && nat_le (length e.0) bytes) ≡ false
    test (inl w) = grind (arith, nat_tests)
    test (inr b) = grind (arith, nat_tests)

fits : (words bytes x : ℕ) → 0 < words → x ≤ bytes → (nat_lt 0 words && nat_le x bytes) ≡ true
fits words bytes x l m = grind (arith, nat_tests)

-- These items fit, and the next one does not.
fitting-front : (words bytes : ℕ) (items : List Item) (e : Item) (es : List Item) → length items ≤ words
    → length (texts_of items) ≤ bytes → (words ≡ length items) ⊎ (bytes < length (texts_of items) + length e.0)
    → fitting words bytes (items ++ e ∷ es) ≡ items
fitting-front words bytes [] e es l m (inl h) = none_fit words bytes e es (inl h)
fitting-front words bytes [] e es l m (inr h) = none_fit words bytes e es (inr (omega (arith, h)))
fitting-front words bytes (x ∷ items) e es l m h =
    let long = length-append x.0 (texts_of items) in
    ap (λ b. cond b (x ∷ fitting (words - 1) (bytes - length x.0) (items ++ e ∷ es)) [])
    (fits words bytes (length x.0) (omega (arith, l)) (omega (arith, m, long)))
    ∙ ap (λ zs. x ∷ zs)
    (fitting-front (words - 1) (bytes - length x.0) items e es (omega (arith, l)) (omega (arith, m, long)) (less h long))
  where
    less : (words ≡ length (x ∷ items)) ⊎ (bytes < length (texts_of (x ∷ items)) + length e.0)
        → length (texts_of (x ∷ items)) ≡ length x.0 + length (texts_of items)
        → (words - 1 ≡ length items) ⊎ (bytes - length x.0 < length (texts_of items) + length e.0)
    less (inl w) long = inl (omega (arith, w))
    less (inr b) long = inr (omega (arith, b, long, m))

module _ (words bytes : ℕ) (items : List Item) (p : Page) (held : Holds items p) (few : length items ≤ words)
    (short : length (texts_of items) ≤ bytes) where
  page_of : (all : List Item) → fitting words bytes all ≡ items → p.size ≡ length (texts_of (take (min (length items + 1) words) all))
      → IsPage all words bytes p
  page_of all is size = record {
    held = subst (λ es. Holds es p) (sym is) held;
    size_is = size ∙ ap (λ es. length (texts_of (take (min (length es + 1) words) all))) (sym is);
  }

  -- There is no further item.
  pub page_ended : p.size ≡ length (texts_of items) → IsPage items words bytes p
  page_ended size =
      page_of items (fitting-all words bytes items few short)
      (size ∙ ap (λ es. length (texts_of es)) (sym (take_all (min (length items + 1) words) items (omega (arith, few)))))

  -- There is no room for a further word.
  pub page_full : (rest : List Item) → words ≡ length items → p.size ≡ length (texts_of items) → IsPage (items ++ rest) words bytes p
  page_full [] many size = subst (λ es. IsPage es words bytes p) (sym (append-nil items)) (page_ended size)
  page_full (e ∷ es) many size =
      page_of (items ++ e ∷ es) (fitting-front words bytes items e es few short (inl many))
      (size ∙ ap (λ zs. length (texts_of zs)) (sym (ap (λ n. take n (items ++ e ∷ es)) all ∙ take-append_seam items (e ∷ es))))
    where
      all : min (length items + 1) words ≡ length items
      all = omega (arith, many)

  -- The text of the next item does not fit.
  pub page_short : (e : Item) (es : List Item) → length items < words → bytes < length (texts_of items) + length e.0
      → p.size ≡ length (texts_of items) + length e.0 → IsPage (items ++ e ∷ es) words bytes p
  page_short e es more large size =
      page_of (items ++ e ∷ es) (fitting-front words bytes items e es few short (inr large))
      (size ∙ sym (ap (λ n. length (texts_of (take n (items ++ e ∷ es)))) one
      ∙ ap (λ zs. length (texts_of zs)) (ap (take (length (items ++ e ∷ []))) (sym (append_assoc items (e ∷ []) es))
      ∙ take-append_seam (items ++ e ∷ []) es)
      ∙ ap length (texts-push items e) ∙ length-append (texts_of items) e.0))
    where
      one : min (length items + 1) words ≡ length (items ++ e ∷ [])
      one = omega (arith, more, length-append items (e ∷ []))

-- ---- the entries of a map

-- The next entry, whose text is known, is the first of those that are left.
pub next_shown : (prefix text key : List ℕ) (v : ℤ) (m left others : UnitMap) (items : List Item)
    → map (shown_below prefix) m ≡ items ++ map (shown_below prefix) left → left ≡ (key, v) ∷ others → text ≡ key_text key
    → map (shown_below prefix) m ≡ items ++ ((prefix ++ text, v) ∷ map (shown_below prefix) others)
next_shown prefix text key v m left others items e is same =
    e ∙ ap (λ r. items ++ map (shown_below prefix) r) is
    ∙ ap (λ t. items ++ ((prefix ++ t, v) ∷ map (shown_below prefix) others)) (sym same)

-- It is visited.
pub next_visited : (items : List Item) (e : Item) (all others : List Item) → all ≡ items ++ (e ∷ others) → all ≡ (items ++ e ∷ []) ++ others
next_visited items e all others is = is ∙ sym (append_assoc items (e ∷ []) others)

pub length-words : (start : ℕ) (items : List Item) → length (words_from start items) ≡ length items
length-words start [] = refl
length-words start (e ∷ es) = ap suc (length-words (start + length e.0) es)

-- If there is room for a further word, the size is at most the number of bytes exactly if all items
-- fit.
end_known : (words bytes : ℕ) (items : List Item) → length (fitting words bytes items) < words
    → (length (texts_of (take (min (length (fitting words bytes items) + 1) words) items)) ≤ bytes)
    ↔ (length (fitting words bytes items) ≡ length items)
end_known words bytes [] l =
    let size : length (texts_of (take (min (0 + 1) words) [])) ≡ 0 =
    ap (λ es. length (texts_of es)) (take_all (min (0 + 1) words) [] (omega arith)) in
    ((λ h. refl), (λ h. omega (arith, size)))
end_known words bytes (e ∷ es) l =
    by (nat_lt 0 words && nat_le (length e.0) bytes) refl (λ m. end_known (words - 1) (bytes - length e.0) es m) l
  where
    rest : List Item
    rest = fitting (words - 1) (bytes - length e.0) es

    by : (b : Bool) → (nat_lt 0 words && nat_le (length e.0) bytes) ≡ b
        → (length rest < words - 1
        → (length (texts_of (take (min (length rest + 1) (words - 1)) es)) ≤ bytes - length e.0) ↔ (length rest ≡ length es))
        → length (cond b (e ∷ rest) []) < words
        → (length (texts_of (take (min (length (cond b (e ∷ rest) []) + 1) words) (e ∷ es))) ≤ bytes)
        ↔ (length (cond b (e ∷ rest) []) ≡ length (e ∷ es))
    by true h known l =
        let within : length e.0 ≤ bytes = grind (arith, nat_tests) in
        let one : min (suc (length rest) + 1) words ≡ suc (min (length rest + 1) (words - 1)) = omega (arith, l) in
        let size : length (texts_of (take (min (suc (length rest) + 1) words) (e ∷ es)))
        ≡ length e.0 + length (texts_of (take (min (length rest + 1) (words - 1)) es)) =
        ap (λ i. length (texts_of (take i (e ∷ es)))) one
        ∙ length-append e.0 (texts_of (take (min (length rest + 1) (words - 1)) es)) in
        let k = known (omega (arith, l)) in
        ((λ m. ap suc (k.0 (omega (arith, m, size, within)))), (λ m. omega (arith, k.1 (omega (arith, m)), size, within)))
    by false h known l =
        let past : bytes < length e.0 = grind (arith, nat_tests) in
        let one : min (0 + 1) words ≡ 1 = omega (arith, l) in
        let size : length (texts_of (take (min (0 + 1) words) (e ∷ es))) ≡ length e.0 =
        ap (λ i. length (texts_of (take i (e ∷ es)))) one ∙ ap length (append-nil e.0) in
        ((λ m. absurd (omega (arith, m, size, past))), (λ m. absurd (omega (arith, m))))

-- What fits is written.
pub has_page : (items : List Item) (words : List Word) (texts : List ℕ) (p : Page) → IsPage items (length words) (length texts) p
    → HasPage items words (written p.words.items words) texts (written p.texts.items texts) p.size (length p.words.items)
has_page items words texts p is =
    let count : length p.words.items ≡ length (fitting (length words) (length texts) items) =
    ap length is.held.words_are ∙ length-words 0 (fitting (length words) (length texts) items) in
    record {
      count = count;
      size_is = is.size_is ∙ ap (λ n. length (texts_of (take (min (n + 1) (length words)) items))) (sym count);
      ended = λ more.
          let known = end_known (length words) (length texts) items (omega (arith, more, count)) in
          ((λ h. count ∙ known.0 (omega (arith, h, is.size_is))), (λ h. omega (arith, known.1 (sym count ∙ h), is.size_is)));
      words_are = ap (λ ws. written ws words) is.held.words_are;
      texts_are = ap (λ ts. written ts texts) is.held.texts_are;
    }
