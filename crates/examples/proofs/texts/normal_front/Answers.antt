use Rattle.std.proofs.Common.{◌≡◌, ◌∙◌, ◌==◌, ap, refl, Some, ℕ, Bool, true, false, List, [], ◌∷◌, rules, arith}
use Rattle.std.specs.List.{All}
use Rattle.std.proofs.lemmas.Bool.Decides.{nat_tests}
use Rattle.icu_collections.specs.CodePointTrie.{Parts, trie_value}
use Rattle.icu_collections.specs.CodePointTrieText.{AreAccepted, IsAcceptedFront, IsFirstRefused}
use Rattle.examples.specs.Fronts.{IsLongestWithValue, StartsOtherwise}
use Rattle.examples.proofs.texts.normal_front.Goals as goal

is_one : (v : ℕ) (r : Bool) → r ≡ (v == 1) → r ≡ true → v ≡ 1
is_one v r e h = grind (arith, nat_tests)

is_other : (v : ℕ) (r : Bool) → r ≡ (v == 1) → r ≡ false → v ≡ 1 → ⊥
is_other v r e h one = grind (arith, nat_tests)

-- The result of `span_of_values` with a closure that accepts only 1.
module _ {F : Type 0} (post : F → ℕ → Bool → Type 0) (f : F) (trie : Parts ℕ) (told : (v : ℕ) (a : Bool) → post f v a → a ≡ (v == 1)) where
  all_one : (cs : List ℕ) → AreAccepted post f trie cs → All (λ c. trie_value trie c ≡ Some 1) cs
  all_one cs accepted = λ k d l. let answer = accepted k d l in answer.1 ∙ ap Some (is_one answer.0 true (told answer.0 true answer.2) refl)

  starts_otherwise : (cs : List ℕ) → IsFirstRefused post f trie cs → StartsOtherwise trie 1 cs
  starts_otherwise [] refused = tt
  starts_otherwise (c ∷ cs) refused = λ e. is_other refused.0 false (told refused.0 false refused.2) refl (one refused.1 e) where
    one : trie_value trie c ≡ Some refused.0 → trie_value trie c ≡ Some 1 → refused.0 ≡ 1
    one is e = cc

  pub longest : (text : List ℕ) (end : ℕ) → IsAcceptedFront post f trie text end → IsLongestWithValue trie 1 text end
  longest text end found = record {
    front = found.front;
    after = found.after;
    characters = found.characters;
    end_is = found.end_is;
    all = all_one found.front found.accepted;
    longest = starts_otherwise found.after found.longest;
  }

pub returns-clause-front : goal.returns-clause-front
returns-clause-front c = longest _ _ c.args.table.now (λ v a h. search rules) c.args.text.now _ c.span_of_values.ensures.front
