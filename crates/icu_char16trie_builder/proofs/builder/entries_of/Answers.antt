use Rattle.std.proofs.Common.{rules, ◌≡◌, ◌∷◌, ◌++◌, ap, sym, ◌∙◌, to_z, of_z, w32}
use Rattle.std.specs.Map.Iter.{deref_pair}
use Rattle.std.proofs.lemmas.Map.Iter.{rest_more}
use Rattle.std.proofs.lemmas.Int.{to_z-of_z}
use Rattle.icu_char16trie_builder.specs.Inside.Cuts.{cut}
use Rattle.icu_char16trie_builder.specs.Entries.{entry_map}
use Rattle.icu_char16trie_builder.proofs.EntryLemmas.{cut_pushed}
use Rattle.icu_char16trie_builder.proofs.builder.entries_of.Goals as goal

pub loop-key-preserved : goal.loop-key-preserved
loop-key-preserved c =
    let more : c.loop-key.key-iterator ≡ (c.in-Some.key.now, c.in-Some.value.now) ∷ c.next.new.self =
    rest_more deref_pair c.loop-key.key-iterator c.next.new.self c.next.result (c.in-Some.key, c.in-Some.value) c.in-Some.is
    c.next.ensures.steps in
    let all : cut 0 c.loop-key.list.items ++ (c.in-Some.key.now.items, c.in-Some.value.now) ∷ entry_map c.next.new.self
    ≡ entry_map c.args.entries.now.entries =
    ap (λ z. cut 0 c.loop-key.list.items ++ entry_map z) (sym more) ∙ c.loop-key.invariant in
    let same : (c.as_slice.result.now, to_z w32 (of_z w32 c.in-Some.value.now)) ≡ (c.in-Some.key.now.items, c.in-Some.value.now) =
    ap (λ z. (z, to_z w32 (of_z w32 c.in-Some.value.now))) c.as_slice.ensures.value
    ∙ ap (λ z. (c.in-Some.key.now.items, z)) (to_z-of_z w32 c.in-Some.value.now (search rules)) in
    ap (λ z. cut 0 z ++ entry_map c.next.new.self) c.in_ok-push.ensures.items
    ∙ cut_pushed c.loop-key.list.items _ (c.in-Some.key.now.items, c.in-Some.value.now) (entry_map c.next.new.self)
    (entry_map c.args.entries.now.entries) all same
