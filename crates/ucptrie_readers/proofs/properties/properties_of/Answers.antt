use Rattle.std.proofs.Common.{◌∙◌, ℕ, List, ◌∷◌, [], ◌++◌, map, option_map, sym, ap}
use Rattle.std.proofs.lemmas.List.{map-append}
use Rattle.std.specs.Map.Iter.{deref_pair}
use Rattle.std.specs.Prelude.{filter}
use Rattle.toml.specs.View.{members_view, view}
use Rattle.ucptrie_readers.specs.Properties.{TrieProperty, asked_of, is_asked, properties_at}
use Rattle.ucptrie_readers.proofs.PropertyLemmas.{asked_of-last}
use Rattle.ucptrie_readers.proofs.properties.properties_of.Goals as goal

pub loop-key-preserved : goal.loop-key-preserved
loop-key-preserved c =
    let name = option_map (λ name. name.now) c.args.name in
    let before = map deref_pair c.loop-key.yielded in
    let here : List ℕ → List TrieProperty = λ key. filter (is_asked name) (properties_at key (view c.in-Some.value.now)) in
    rw (map-append deref_pair c.loop-key.yielded ((c.in-Some.key, c.in-Some.value) ∷ []))
    (c.in_ok-push_properties.ensures ∙ (ap (λ found. found ++ here c.as_str.result.now) c.loop-key.invariant
    ∙ (ap (λ key. asked_of name (members_view before) ++ here key) c.as_str.ensures.value
    ∙ sym (asked_of-last name before (c.in-Some.key.now, c.in-Some.value.now)))))
