use Rattle.std.proofs.Common.{◌≡◌, ◌∙◌, ◌++◌, List, [], ◌∷◌, ap, refl, rules, map, string_bytes, String, Global}
use Rattle.std.proofs.lemmas.List.{map-append}
use Rattle.serde_json.specs.declared.value.Value as Value
use Rattle.serde_json.specs.declared.value.Value.{the_lemmas}
use Rattle.serde_json.specs.Data.{Data, string}
use Rattle.serde_json.specs.View.{view}
use Rattle.icu_text_sets.specs.TextSet.{texts_of}
use Rattle.icu_text_sets.proofs.Copies.{copy_step, copy_end}
use Rattle.icu_text_sets.proofs.codepointinvliststringlist.json.items_of.Goals as goal

view-String : (s : String Global) → view (Value.String s) ≡ string (string_bytes s)
view-String s = search (rules, the_lemmas)

abbrev shown : List (String Global) → List Data
shown strings = map (λ t. string t) (texts_of strings)

pub loop-text-preserved : goal.loop-text-preserved
loop-text-preserved c =
    copy_step shown (λ s. string (string_bytes s))
    (λ x xs. refl) c.args.strings.now c.loop-text.text-index c.text-item.result (map view c.loop-text.items.items)
    (map view c.push.new.self.items) _
    c.loop-text-test.true c.text-item.is c.loop-text.invariant
    (ap (map view) c.in_ok-push.ensures.items ∙ map-append view c.loop-text.items.items (Value.String c.in_ok-from_str.field-0 ∷ [])
    ∙ ap (λ (d : Data). map view c.loop-text.items.items ++ d ∷ [])
    (view-String c.in_ok-from_str.field-0 ∙ ap string (c.in_ok-from_str.ensures.ok ∙ c.as_str.ensures.value)))

pub returns : goal.returns
returns c = copy_end shown refl c.args.strings.now c.loop-text.text-index (map view c.loop-text.items.items) _ c.loop-text-test.false
    c.loop-text.invariant
