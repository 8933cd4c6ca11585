use Rattle.std.proofs.Common.{◌≡◌, ap, sym, ◌∙◌, to_z, of_z, w32, refl, rules, None, true}
use Rattle.std.proofs.lemmas.Bool.{false≢true}
use Rattle.std.proofs.lemmas.Int.{to_z-of_z}
use Rattle.std.specs.Option.{is_some}
use Rattle.std.specs.BTreeMap.{get}
use Rattle.icu_char16trie_builder.specs.Entries.{entry_map, with_entry}
use Rattle.icu_char16trie_builder.proofs.EntryLemmas.{key_cmp, found, inserted}
use Rattle.icu_char16trie_builder.proofs.builder.insert.Goals as goal

pub returns-in-Vacant-clause-added : goal.returns-in-Vacant-clause-added
returns-in-Vacant-clause-added c =
    ap entry_map (search rules)
    ∙ inserted c.args.key.items (to_z w32 (of_z w32 c.args.value)) c.args.key c.args.entries.now.entries refl
    ∙ ap (λ z. with_entry c.args.key.items z (entry_map c.args.entries.now.entries)) (to_z-of_z w32 c.args.value c.ranges.value)

pub returns-in-Vacant-clause-duplicate : goal.returns-in-Vacant-clause-duplicate
returns-in-Vacant-clause-duplicate c =
    let none : get key_cmp c.args.entries.now c.args.key ≡ None = search rules in (
      λ e. cc,
      λ some. absurd (false≢true (sym (ap is_some none)
          ∙ found c.args.key.items c.args.entries.now.entries ∙ some)),
    )

pub returns-in-Occupied-clause-same : goal.returns-in-Occupied-clause-same
returns-in-Occupied-clause-same c = ap entry_map (search rules)

pub returns-in-Occupied-clause-duplicate : goal.returns-in-Occupied-clause-duplicate
returns-in-Occupied-clause-duplicate c =
    let some : is_some (get key_cmp c.args.entries.now c.args.key) ≡ true = search rules in
    (λ _. sym (found c.args.key.items c.args.entries.now.entries) ∙ some, λ _. refl)

pub returns-in_default-clause-duplicate : goal.returns-in_default-clause-duplicate
returns-in_default-clause-duplicate c =
    let none : get key_cmp c.args.entries.now c.args.key ≡ None = search rules in (
      λ e. cc,
      λ some. absurd (false≢true (sym (ap is_some none)
          ∙ found c.args.key.items c.args.entries.now.entries ∙ some)),
    )
