use Rattle.std.proofs.Common.{◌≡◌, Err, ℕ, Some, ap, refl, rules, sym}
use Rattle.icu_trie.specs.Parts.{Parts}
use Rattle.icu_trie_builder.specs.CodePointMap.{map_value}
use Rattle.ucptrie_tables.specs.Rebuilt.{IsRebuiltTrie, IsWhyNotRebuilt}
use Rattle.ucptrie_tables.specs.ValueWidth.{first_wider}
use Rattle.ucptrie_tables.proofs.TableLemmas.{built-why}
use Rattle.ucptrie_tables.proofs.WideLemmas.{too_wide}
use Rattle.ucptrie_tables.proofs.rebuild.rebuilt.Goals as goal

pub returns-in_err-trie-clause-err : goal.returns-in_err-trie-clause-err
returns-in_err-trie-clause-err c =
    let values = c.in_ok-builder.ensures.values in
    built-why (IsWhyNotRebuilt c.args.table.now.trie c.args.trie_type c.args.width c.args.error) c.in_err-trie.field-0.0 _
    c.from_residual-in_err-trie.ensures.1
    (λ large. (map_value c.in_ok-builder.builder, (values, c.in_err-trie.ensures.too_large (ap Err large)))) tt

pub returns-in-Some-clause-err : goal.returns-in-Some-clause-err
returns-in-Some-clause-err c =
    let trie : Parts ℕ = c.in_ok-trie.trie in
    let rebuilt : IsRebuiltTrie c.args.table.now.trie c.args.trie_type c.args.error trie = search rules in
    let first : first_wider c.args.width trie.values ≡ Some c.in-Some.value = sym c.in-Some.ensures.first in
    let wide = too_wide rebuilt.value c.args.error trie rebuilt.answers rebuilt.built c.args.width c.in-Some.value first in
    record {
      trie = trie;
      rebuilt = rebuilt;
      same = refl;
      first = first;
      wide = wide.0;
      source = wide.1;
    }
