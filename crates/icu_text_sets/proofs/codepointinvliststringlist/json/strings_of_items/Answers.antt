use Rattle.std.proofs.Common.{sym, ◌∙◌, ◌++◌, ap, List, ℕ, [], ◌∷◌, map, string_bytes}
use Rattle.std.specs.Option.{ok_or}
use Rattle.std.proofs.lemmas.List.{map-append}
use Rattle.serde_json.specs.View.{view}
use Rattle.icu_zerovec.specs.FirstFault.{read_from}
use Rattle.icu_zerovec.proofs.CallerLemmas.{with_front, stops, goes_on, at_end, at_start}
use Rattle.icu_text_sets.specs.TextSet.{texts_of}
use Rattle.icu_text_sets.specs.TextSetJson.{no_string, text_or}
use Rattle.icu_invlist.proofs.CallerLemmas.{list_of-items_view}
use Rattle.icu_text_sets.proofs.codepointinvliststringlist.json.strings_of_items.Goals as goal

pub loop-i-init : goal.loop-i-init
loop-i-init c =
    ap (λ z. with_front (texts_of z) (read_from text_or 0 (map view c.args.items.now))) c.in-Ok.ensures.items
    ∙ at_start (read_from text_or 0 (map view c.args.items.now))
    ∙ ap (read_from text_or 0) (sym (list_of-items_view c.args.items.now))

pub loop-i-preserved : goal.loop-i-preserved
loop-i-preserved c =
    goes_on text_or view c.args.items.now c.loop-i.i c.index-items-i.result (texts_of c.loop-i.strings.items)
    (texts_of c.push.new.self.items) _ c.in-Some.text.now
    c.loop-i-test.true c.index-items-i.is c.loop-i.invariant (ap (λ o. ok_or o (no_string c.loop-i.i)) (sym c.in-Some.ensures))
    (ap texts_of c.in-Ok-push.ensures.items ∙ map-append (λ s. string_bytes s) c.loop-i.strings.items (c.in-Ok-from_str.string ∷ [])
    ∙ ap (λ (t : List ℕ). texts_of c.loop-i.strings.items ++ t ∷ []) c.in-Ok-from_str.ensures.ok)

pub returns-in_default-as_str-clause-err : goal.returns-in_default-as_str-clause-err
returns-in_default-as_str-clause-err c =
    stops text_or view c.args.items.now c.loop-i.i c.index-items-i.result (texts_of c.loop-i.strings.items) _ (no_string c.loop-i.i)
    c.loop-i-test.true c.index-items-i.is c.loop-i.invariant (ap (λ o. ok_or o (no_string c.loop-i.i)) (sym c.in_default-as_str.ensures))

pub returns-clause-ok : goal.returns-clause-ok
returns-clause-ok c = at_end text_or view c.args.items.now c.loop-i.i (texts_of c.loop-i.strings.items) _ c.loop-i-test.false
    c.loop-i.invariant
