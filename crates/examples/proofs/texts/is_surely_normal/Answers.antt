use Rattle.std.proofs.Common.{◌≡◌, ◌↔◌, ◌∙◌, ◌==◌, ap, sym, refl, not, IsTrue, Some, None, Option, ℕ, Bool, true, false, List, [], ◌∷◌, ◌++◌, rules, arith}
use Rattle.std.specs.Prelude.{IfNone, IfSome}
use Rattle.std.specs.Option.{is_none}
use Rattle.std.specs.List.{All, Contains}
use Rattle.std.specs.Str.{chars}
use Rattle.std.proofs.lemmas.Bool.Decides.{nat_tests}
use Rattle.std.proofs.lemmas.List.Elements.{All-contains, Contains-append_left, Contains-append_right, Contains-push}
use Rattle.icu_collections.specs.CodePointTrie.{Parts, trie_value}
use Rattle.icu_collections.specs.CodePointTrieText.{AreRefused, IsFirstAccepted}
use Rattle.icu_collections.specs.declared.codepointtrie.text.Found.{Found}
use Rattle.examples.proofs.texts.is_surely_normal.Goals as goal

is_one : (v : ℕ) (r : Bool) → r ≡ not (v == 1) → r ≡ false → v ≡ 1
is_one v r e h = grind (arith, nat_tests)

is_other : (v : ℕ) (r : Bool) → r ≡ not (v == 1) → r ≡ true → v ≡ 1 → ⊥
is_other v r e h one = grind (arith, nat_tests)

one : (v : ℕ) (r : Option ℕ) → r ≡ Some v → r ≡ Some 1 → v ≡ 1
one v r e h = cc

turned : (b s : Bool) → s ≡ not b → b ≡ not s
turned true s e = sym (ap not e)
turned false s e = sym (ap not e)

-- The result of `find_value` with a closure that rejects only 1.
module _ {F : Type 0} (post : F → ℕ → Bool → Type 0) (f : F) (trie : Parts ℕ) (text : List ℕ) where
  none_found : (r : Option (Found ℕ)) → IfNone r (AreRefused post f trie (chars text))
      → ((v : ℕ) (a : Bool) → post f v a → a ≡ not (v == 1)) → IsTrue (is_none r)
      → All (λ c. trie_value trie c ≡ Some 1) (chars text)
  none_found None refused told h = λ k d l.
      let answer = refused k d l in answer.1 ∙ ap Some (is_one answer.0 false (told answer.0 false answer.2) refl)
  none_found (Some found) refused told h = cc

  all_one : (r : Option (Found ℕ)) → IfSome r (IsFirstAccepted post f trie text) → ((v : ℕ) (a : Bool) → post f v a → a ≡ not (v == 1))
      → All (λ c. trie_value trie c ≡ Some 1) (chars text)
      → IsTrue (is_none r)
  all_one None first told all = refl
  all_one (Some found) first told all =
      let here : Contains (found.character ∷ first.after) found.character =
      Contains-append_left (found.character ∷ []) first.after found.character (Contains-push [] found.character) in
      let held : Contains (first.before ++ found.character ∷ first.after) found.character =
      Contains-append_right first.before (found.character ∷ first.after) found.character here in
      let value = All-contains (λ c. trie_value trie c ≡ Some 1)
      (first.before ++ found.character ∷ first.after) found.character (rw first.characters at all) held in
      absurd (is_other found.value true (told found.value true first.accepted) refl
      (one found.value (trie_value trie found.character) first.value value))

  exactly : (r : Option (Found ℕ)) (b : Bool) → IfSome r (IsFirstAccepted post f trie text) → IfNone r (AreRefused post f trie (chars text))
      → b ≡ is_none r
      → ((v : ℕ) (a : Bool) → post f v a → a ≡ not (v == 1)) → IsTrue b ↔ All (λ c. trie_value trie c ≡ Some 1) (chars text)
  exactly r b found none same told = (λ t. none_found r none told (sym same ∙ t), λ all. same ∙ all_one r found told all)

pub returns : goal.returns
returns c =
    exactly _ _ c.args.table.now c.args.text.now c.find_value.result c.is_none.result c.find_value.ensures.found c.find_value.ensures.none
    (turned c.is_none.result _ c.is_none.ensures) (λ v a h. search rules)
