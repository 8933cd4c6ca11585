-- The width says which trie was asked.
use Rattle.std.proofs.Common.{◌≡◌, refl, rules, w64}
use Rattle.std.proofs.lemmas.Int.{to_z-of_z}
use Rattle.icu_collections_c.specs.BytesTrie.{value_width}
use Rattle.icu_collections_c.proofs.value_sets.bks_trie_set.Goals as goal

pub returns-in-1 : goal.returns-in-1
returns-in-1 c =
    let wide : value_width c.args.trie.now.width ≡ 1 = rw c.in-1.is refl in
    rw (wide, to_z-of_z w64 c.set_answered.result (search rules)) c.set_answered.ensures

pub returns-in-2 : goal.returns-in-2
returns-in-2 c =
    let wide : value_width c.args.trie.now.width ≡ 2 = rw c.in-2.is refl in
    rw (wide, to_z-of_z w64 c.set_answered-in-2.result (search rules)) c.set_answered-in-2.ensures

pub returns-in_default : goal.returns-in_default
returns-in_default c =
    let wide : value_width c.args.trie.now.width ≡ 4 = search rules in
    rw (wide, to_z-of_z w64 c.set_answered-in_default.result (search rules)) c.set_answered-in_default.ensures
