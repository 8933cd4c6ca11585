use Rattle.std.proofs.Common.{◌≡◌, [], ◌∷◌, length, refl, sym, ap, ◌∙◌, arith}
use Rattle.icu_char16trie.specs.UnitMap.{UnitMap}
use Rattle.icu_char16trie_builder.proofs.EntryLemmas.{length-entry_map}
use Rattle.icu_char16trie_builder.proofs.builder.Char16TrieBuilder.is_empty.Goals as goal

none : (m : UnitMap) → length m ≡ 0 → m ≡ []
none [] h = refl
none (e ∷ m) h = absurd (omega (arith, h))

pub returns : goal.returns
returns c =
    let same : length c.self.inside.entries.entries ≡ length c.args.self.now = sym (length-entry_map c.self.inside.entries.entries)
    ∙ ap length c.self.view_is in (
      λ h. none c.args.self.now (sym same ∙ c.is_empty.ensures.0 h),
      λ h. c.is_empty.ensures.1 (same ∙ ap length h),
    )
