-- The items that an iterator over the entries of a trie gave, none of them a failed allocation.
use Rattle.std.proofs.Common.{◌≡◌, ◌∙◌, sym, ap, subst, ℕ, ℤ, List, [], ◌∷◌, ◌++◌, Ok, Result, String, map}
use Rattle.std.specs.Prelude.{All, string_bytes}
use Rattle.std.specs.Global.{Global}
use Rattle.std.specs.Str.{IsUtf8}
use Rattle.std.proofs.lemmas.List.{map-append}
use Rattle.std.proofs.lemmas.List.Elements.{All-cons, All-nil}
use Rattle.std.proofs.lemmas.Str.{IsUtf8-string_bytes}
use Rattle.icu_zerovec.specs.declared.memory.MemoryError.{MemoryError}
use Rattle.icu_char16trie_builder.proofs.CallerLemmas.{shown}
use Rattle.icu_collections_c.specs.Inside.Listed.{IsListingOf}
use Rattle.icu_collections_c.specs.declared.listing.Listing.{Listing}

-- The items are these texts and values, and they were visited.
pub record HasGone (items : List (Result (String Global × ℤ) MemoryError)) (most_words most_bytes : ℕ) (l : Listing) : Type 0 where
  pub entries : List (String Global × ℤ)
  pub items_are : items ≡ map Ok entries
  pub kept : IsListingOf (map shown entries) most_words most_bytes l

-- One more item.
module _ (items : List (Result (String Global × ℤ) MemoryError)) (W B : ℕ) (l m : Listing) (text : String Global) (v : ℤ)
    (was : HasGone items W B l)
    (t : List ℕ) (n : ℤ) (t-is : t ≡ string_bytes text) (n-is : n ≡ v)
    (step : (shown_so_far : List (List ℕ × ℤ)) → IsListingOf shown_so_far l.most_words l.most_bytes l
    → IsListingOf (shown_so_far ++ (t, n) ∷ []) l.most_words l.most_bytes m) where
  kept_more : IsListingOf (map shown was.entries ++ (string_bytes text, v) ∷ []) W B m
  kept_more =
      let before : IsListingOf (map shown was.entries) l.most_words l.most_bytes l =
      subst (λ w. IsListingOf (map shown was.entries) w l.most_bytes l) (sym was.kept.words_room)
      (subst (λ b. IsListingOf (map shown was.entries) W b l) (sym was.kept.bytes_room) was.kept) in
      rw (was.kept.words_room, was.kept.bytes_room, t-is, n-is) at (step (map shown was.entries) before)

  pub HasGone-more : HasGone (items ++ Ok (text, v) ∷ []) W B m
  HasGone-more = record {
    entries = was.entries ++ (text, v) ∷ [];
    items_are = ap (λ xs. xs ++ Ok (text, v) ∷ []) was.items_are ∙ sym (map-append Ok was.entries ((text, v) ∷ []));
    kept = subst (λ es. IsListingOf es W B m) (sym (map-append shown was.entries ((text, v) ∷ []))) kept_more;
  }

-- The keys that are listed are texts.
pub texts-shown : (ys : List (String Global × ℤ)) → All (λ e. IsUtf8 e.0) (map shown ys)
texts-shown [] = All-nil (λ e. IsUtf8 e.0)
texts-shown (y ∷ ys) = All-cons (λ e. IsUtf8 e.0) (shown y) (map shown ys) (IsUtf8-string_bytes y.0) (texts-shown ys)
