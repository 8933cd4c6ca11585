use Rattle.std.proofs.Common.{◌≡◌, [], ◌∷◌, Ok, Err, Some, None, Option, Result, String, List, ℕ, ℤ, Vec, pos, map, ap, subst, ◌∙◌, refl}
use Rattle.std.specs.Prelude.{OnOk, IfOk, IfSome, codes}
use Rattle.std.specs.Result.{result_ok}
use Rattle.std.specs.Global.{Global}
use Rattle.std.specs.Char.{encode_utf8}
use Rattle.std.specs.Char.Utf16.{utf16_chars}
use Rattle.icu_collections.specs.Char16Trie.{UnitMap}
use Rattle.icu_collections.specs.Char16Trie.{IsTrieOf}
use Rattle.icu_collections.specs.Char16Trie.{AreEntries}
use Rattle.icu_collections.specs.Char16Trie.{with_entry}
use Rattle.icu_collections.proofs.CallerLemmas.{texts_of_entries, text_of}
use Rattle.examples.specs.Listing.{bytes_and_number}
use Rattle.examples.proofs.words.two_words.Goals as goal

ok_fact : {A E : Type 0} (r : Result A E) (x : A) (P : Type 0) → Some x ≡ result_ok r → OnOk r P → P
ok_fact (Ok y) x P e h = h
ok_fact (Err y) x P e h = cc

ok_value : {A E : Type 0} (r : Result A E) (x : A) (P : A → Type 0) → Some x ≡ result_ok r → IfOk r P → P x
ok_value {A} (Ok y) x P e h = subst P (some_eq e) h
  where
    some_eq : ◌≡◌ {A = Option A} (Some x) (Some y) → y ≡ x
    some_eq h = cc
ok_value (Err y) x P e h = cc

-- The two words in unit order.
abbrev words : UnitMap
words = (97 ∷ [], pos 1) ∷ (97 ∷ 98 ∷ [], pos 2) ∷ []

sorted : with_entry (97 ∷ []) (pos 1) (with_entry (97 ∷ 98 ∷ []) (pos 2) []) ≡ words
unfolding with_entry
sorted = refl

shown_words : map text_of words ≡ (codes "a", pos 1) ∷ (codes "ab", pos 2) ∷ []
unfolding utf16_chars encode_utf8
shown_words = refl

listed : (r : Option (Vec (String Global × ℤ) Global)) (units : List ℕ) → IsTrieOf units words
    → IfSome r (λ list. (m : UnitMap) → IsTrieOf units m → AreEntries (map Ok list.items) m)
    → IfSome r (λ list. map bytes_and_number list.items ≡ (codes "a", pos 1) ∷ (codes "ab", pos 2) ∷ [])
listed None units trie h = h
listed (Some list) units trie h = texts_of_entries list.items words (h words trie) ∙ shown_words

pub returns : goal.returns
returns c =
    let one : c.add.new.self ≡ with_entry (97 ∷ 98 ∷ []) (pos 2) c.new-builder.result =
    ok_fact c.add.result _ _ c.in_ok-ok.ensures.value c.add.ensures.added in
    let two : c.add-2.new.self ≡ with_entry (97 ∷ []) (pos 1) c.add.new.self =
    ok_fact c.add-2.result _ _ c.in_ok-ok-2.ensures.value c.add-2.ensures.added in
    let all : c.add-2.new.self ≡ words =
    two ∙ ap (with_entry (97 ∷ []) (pos 1)) (one ∙ ap (with_entry (97 ∷ 98 ∷ []) (pos 2)) c.new-builder.ensures) ∙ sorted in
    let trie : IsTrieOf c.in_ok-trie.trie c.add-2.new.self =
    ok_value c.build.result c.in_ok-trie.trie (λ trie. IsTrieOf trie c.add-2.new.self) c.in_ok-trie.ensures.value c.build.ensures.trie in
    listed c.list_of.result c.in_ok-trie.trie (subst (λ z. IsTrieOf c.in_ok-trie.trie z) all trie) c.list_of.ensures
