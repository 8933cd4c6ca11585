use Rattle.std.proofs.Common.{rules, ◌∙◌, map, sym, ap, arith}
use Rattle.std.proofs.lemmas.List.{nil_from_length}
use Rattle.toml.specs.View.{table_view}
use Rattle.ucptrie_readers.specs.Inside.ReadProperties.{as_read}
use Rattle.ucptrie_readers.specs.Properties.{listed}
use Rattle.ucptrie_readers.proofs.PropertyLemmas.{asked_of-none}
use Rattle.ucptrie_readers.proofs.properties.asked_trie.Goals as goal

pub returns-in-empty-Some-clause-err : goal.returns-in-empty-Some-clause-err
returns-in-empty-Some-clause-err c =
    let all = c.in_ok-all-in-empty-Some.ensures ∙ asked_of-none (table_view c.args.file.now) in
    let names = c.in_ok-listed-in-empty-Some.ensures ∙ (ap (λ ps. listed (map as_read ps)) c.deref.ensures.value ∙ ap listed all) in
    let empty = nil_from_length c.in_ok-found.found.items (omega (arith, c.in-empty-Some.len_below, c.as_slice.ensures.len)) in
    (search rules, sym c.in_ok-found.ensures ∙ ap (map as_read) empty, names)
