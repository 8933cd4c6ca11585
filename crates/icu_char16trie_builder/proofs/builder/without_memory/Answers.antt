use Rattle.std.proofs.Common.{◌≡◌, true, false, rules, sym, ◌∙◌, refl}
use Rattle.std.proofs.lemmas.Bool.{false≢true}
use Rattle.icu_char16trie_builder.proofs.EntryLemmas.{found}
use Rattle.icu_char16trie_builder.proofs.builder.without_memory.Goals as goal

pub returns-then-contains_key-clause-duplicate : goal.returns-then-contains_key-clause-duplicate
returns-then-contains_key-clause-duplicate c =
    let yes : c.contains_key.result ≡ true = search rules in
    (λ _. sym (c.contains_key.ensures ∙ found c.args.key.now c.args.entries.now.entries) ∙ yes, λ _. refl)

pub returns-clause-duplicate : goal.returns-clause-duplicate
returns-clause-duplicate c =
    let no : c.contains_key.result ≡ false = search rules in (
      λ e. cc,
      λ some. absurd (false≢true (sym no ∙ c.contains_key.ensures
          ∙ found c.args.key.now c.args.entries.now.entries ∙ some)),
    )
