use Rattle.std.proofs.Common.{◌≡◌, ◌∙◌, ◌++◌, ◌∷◌, [], None, Some, map, option_map, sym, ap, rules}
use Rattle.std.proofs.lemmas.List.{map-append}
use Rattle.std.proofs.lemmas.Map.Iter.{rest_so_far, rest_more, iter_end}
use Rattle.std.specs.Map.Iter.{deref}
use Rattle.toml.specs.View.{table_view, view}
use Rattle.ucptrie_readers.specs.TomlFiles.{trie_of_property}
use Rattle.ucptrie_readers.proofs.TomlLemmas.{first_among-last, trie_table-found, trie_table-none}
use Rattle.ucptrie_readers.proofs.read.trie_table.Goals as goal

pub returns-in-Some-trie_of_property : goal.returns-in-Some-trie_of_property
returns-in-Some-trie_of_property c =
    let start = c.into_iter-property-iterator.ensures.into_iter_gives ∙ c.values-property-items.ensures.rest in
    let so_far = rest_so_far deref c.loop-property.yielded _ _ c.loop-property.yielded_by in
    let more = rest_more deref _ _ _ c.in-Some.property c.in-Some.is c.next.ensures.steps in
    let here : trie_of_property (view c.in-Some.property.now) ≡ Some (table_view c.in-Some-trie_of_property.table.now) =
    sym c.trie_of_property.ensures ∙ ap (option_map (λ t. table_view t.now)) c.in-Some-trie_of_property.is in
    sym (trie_table-found c.args.file.now (map deref c.loop-property.yielded) _ _ _
    (sym start ∙ (so_far ∙ ap (λ l. map deref c.loop-property.yielded ++ l) more)) c.loop-property.invariant here)

pub loop-property-preserved : goal.loop-property-preserved
loop-property-preserved c =
    let nothing : c.trie_of_property.result ≡ None = search rules in
    let none : trie_of_property (view c.in-Some.property.now) ≡ None =
    sym c.trie_of_property.ensures ∙ ap (option_map (λ t. table_view t.now)) nothing in
    rw (map-append (λ v. v.now) c.loop-property.yielded (c.in-Some.property ∷ []))
    (first_among-last (map (λ v. v.now) c.loop-property.yielded) c.in-Some.property.now c.loop-property.invariant none)

pub returns : goal.returns
returns c =
    let start = c.into_iter-property-iterator.ensures.into_iter_gives ∙ c.values-property-items.ensures.rest in
    let all = iter_end deref _ c.loop-property.yielded _ _ _ _ start c.loop-property.yielded_by c.in-None.is c.next.ensures.steps in
    sym (trie_table-none c.args.file.now (rw all.0 at c.loop-property.invariant))
