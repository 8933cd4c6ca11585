use Rattle.std.proofs.Common.{◌≡◌, Err, Some, ap, refl, sym}
use Rattle.icu_trie_builder.specs.Writes.{value_after}
use Rattle.ucptrie_tables.specs.Tables.{IsWhyNoTableOfWrites}
use Rattle.ucptrie_tables.specs.ValueWidth.{first_wider}
use Rattle.ucptrie_tables.proofs.TableLemmas.{built-why}
use Rattle.ucptrie_tables.proofs.WideLemmas.{too_wide}
use Rattle.ucptrie_tables.proofs.table.table_of_writes.Goals as goal

pub returns-in_err-trie-clause-err : goal.returns-in_err-trie-clause-err
returns-in_err-trie-clause-err c = built-why (IsWhyNoTableOfWrites c.args.writes.now c.args.options) c.in_err-trie.field-0.0 _
    c.from_residual.ensures.1 (λ large. c.in_err-trie.ensures.too_large (ap Err large)) tt

pub returns-in-Some-clause-err : goal.returns-in-Some-clause-err
returns-in-Some-clause-err c =
    let options = c.args.options in
    let trie = c.in_ok-trie.trie in
    let of = c.in_ok-trie.ensures.trie in
    let first : first_wider options.width trie.values ≡ Some c.in-Some.value = sym c.in-Some.ensures.first in
    let wide = too_wide (value_after c.args.writes.now options.default) options.error trie of.answers of.built options.width
    c.in-Some.value first in
    record {
      trie = trie;
      of_writes = record { answers = of.answers; built = of.built; trie_type = of.trie_type; null_value = of.null_value };
      asked = refl;
      first = first;
      wide = wide.0;
      source = wide.1;
    }
