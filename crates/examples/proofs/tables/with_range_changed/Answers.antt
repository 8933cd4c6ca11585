use Rattle.std.proofs.Common.{◌≡◌, ℕ, ◌<◌, ◌≤◌, ◌⊎◌, inl, inr, [], ◌∷◌, Some, ap, arith, sym, ◌∙◌}
use Rattle.std.proofs.lemmas.Bool.{cases_lt}
use Rattle.std.proofs.lemmas.Bool.Decides.{nat_tests}
use Rattle.std.proofs.lemmas.Result.{IfOk-weaker}
use Rattle.std.specs.Range.{range_inclusive_start, range_inclusive_end}
use Rattle.std.specs.declared.ops.RangeInclusive.{RangeInclusive}
use Rattle.icu_collections.specs.CodePointTrie.{Parts, trie_value}
use Rattle.icu_collections.specs.CodePointTrieBuilder.{AnswersMap, CodePointMap, IsAfter, map_answer, map_value, value_after}
use Rattle.icu_collections.specs.declared.codepointtrie.Write.{Write}
use Rattle.examples.proofs.tables.with_range_changed.Goals as goal

-- The trie s of the map `new`, which is `old` after one write.
module _ (r : RangeInclusive ℕ) (v : ℕ) (old new : CodePointMap ℕ) (s : Parts ℕ) (after : IsAfter (Write.Range r v ∷ []) old new)
    (of : AnswersMap (map_value new) new.error s) where
  in_space : (u : ℕ) → u ≤ 0x10FFFF → trie_value s u ≡ Some (value_after (Write.Range r v ∷ []) (map_value old u) u)
  in_space u l =
      let a : trie_value s u ≡ Some (map_value new u) = grind (arith, nat_tests, of.value u) in
      a ∙ ap Some (after.values u l)

  covered : (old u : ℕ) → range_inclusive_start r ≤ u → u ≤ range_inclusive_end r → u ≤ 0x10FFFF
      → value_after (Write.Range r v ∷ []) old u ≡ v
  covered old u low high l = grind (arith, nat_tests)

  beside : (old u : ℕ) → (u < range_inclusive_start r) ⊎ (range_inclusive_end r < u) → value_after (Write.Range r v ∷ []) old u ≡ old
  beside old u (inl low) = grind (arith, nat_tests)
  beside old u (inr high) = grind (arith, nat_tests)

  inside : (u : ℕ) → u ≤ 0x10FFFF → range_inclusive_start r ≤ u → u ≤ range_inclusive_end r → trie_value s u ≡ Some v
  inside u l low high = in_space u l ∙ ap Some (covered (map_value old u) u low high l)

  answered : (u : ℕ) → (u < range_inclusive_start r) ⊎ ((range_inclusive_end r < u) ⊎ (0x10FFFF < u))
      → trie_value s u ≡ Some (map_answer old u)
  answered u out = elim (cases_lt 0x10FFFF u) [
    | inl above ↦ let a : trie_value s u ≡ Some new.error = grind (arith, nat_tests, of.value u) in
        let b : map_answer old u ≡ old.error = grind (arith, nat_tests) in
        a ∙ ap Some (after.error ∙ sym b)
    | inr l ↦ let b : map_answer old u ≡ map_value old u = grind (arith, nat_tests) in
        in_space u l ∙ ap Some (beside (map_value old u) u (elim out [
          | inl low ↦ inl low
          | inr high ↦ elim high [ inl past ↦ inr past | inr above ↦ absurd (omega (arith, above, l)) ]
        ]) ∙ sym b)
  ]

after : (c : goal.After-build) → IsAfter (Write.Range c.args.range c.args.value ∷ []) c.in_ok-builder.builder c.set_range_value.new.self
after c = c.in_ok-set_range_value.ensures.ok

pub returns-clause-inside : goal.returns-clause-inside
returns-clause-inside c =
    let new = c.set_range_value.new.self in
    IfOk-weaker c.build.result _ _ (λ t of. inside c.args.range c.args.value c.in_ok-builder.builder new t (after c) of.answers)
    c.build.ensures.trie

pub returns-clause-outside : goal.returns-clause-outside
returns-clause-outside c =
    let new = c.set_range_value.new.self in
    IfOk-weaker c.build.result _ _
    (λ t of u out. answered c.args.range c.args.value c.in_ok-builder.builder new t (after c) of.answers u out
    ∙ c.in_ok-builder.ensures.values u)
    c.build.ensures.trie
