-- A trie that is built from a map is built from any map that is equal on all code points.
use Rattle.std.proofs.Common.{◌≡◌, ℕ, ◌<◌, Option, arith, ap, subst, ◌∙◌}
use Rattle.std.proofs.lemmas.Bool.Decides.{nat_tests}
use Rattle.icu_trie_core.specs.declared.header.TrieType.{TrieType}
use Rattle.icu_trie.specs.Parts.{Parts}
use Rattle.icu_trie_builder.specs.Built.{IsBuiltFrom}
use Rattle.icu_trie_builder.specs.MapAnswers.{AnswersMap}
use Rattle.icu_trie_builder.specs.NullBlock.{HasDefaultNull}
use Rattle.icu_trie_builder.proofs.RangesOfMap.{HasRangesOf-alike}
use Rattle.icu_trie_builder.proofs.SameMapLemmas.{HasDefaultNull-alike}
use Rattle.icu_trie_builder.proofs.TypedLemmas.{IsWellBuilt-alike}

module _ {T : Type 0} (f g : ℕ → T) (same : (k : ℕ) → k < 0x110000 → f k ≡ g k) (e d : T) (errors : e ≡ d) (t : Parts T) where
  AnswersMap-alike : AnswersMap f e t → AnswersMap g d t
  AnswersMap-alike of = record {
    look_up = λ u. let s = same u in grind (arith, nat_tests, of.look_up u);
    value = λ u. let s = same u in grind (arith, nat_tests, of.value u);
  }

  pub IsBuiltFrom-alike : (number : T → ℕ) (of_number : ℕ → Option T) (x y : T) → x ≡ y → (a b : TrieType) → a ≡ b
      → IsBuiltFrom number of_number f x e a t → IsBuiltFrom number of_number g y d b t
  IsBuiltFrom-alike number of_number x y defaults a b kind of = record {
    answers = AnswersMap-alike of.answers;
    ranges = HasRangesOf-alike f g same t of.ranges;
    trie_type = of.trie_type ∙ kind;
    null_value = HasDefaultNull-alike (λ c. number (f c)) (λ c. number (g c)) (λ k l. ap number (same k l)) (number y) t.header
        of.built.header.within
        (subst (λ z. HasDefaultNull (number z) t.header (λ c. number (f c))) defaults of.null_value);
    built = IsWellBuilt-alike of_number (λ c. number (f c)) (λ c. number (g c)) (λ k l. ap number (same k l)) t of.built;
  }
