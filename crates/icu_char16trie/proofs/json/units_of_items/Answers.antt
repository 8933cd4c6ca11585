use Rattle.std.proofs.Common.{sym, ap, ◌∙◌, inr, map}
use Rattle.std.specs.Option.{ok_or}
use Rattle.serde_json.specs.View.{view}
use Rattle.icu_zerovec.specs.FirstFault.{read_from}
use Rattle.icu_zerovec.proofs.CallerLemmas.{with_front, stops, goes_on, at_end, at_start}
use Rattle.icu_char16trie.specs.Char16Json.{unit_or}
use Rattle.icu_char16trie.specs.declared.json.Char16JsonError.TheVariants as errors
use Rattle.icu_char16trie.proofs.JsonLemmas.{list_of-items_view}
use Rattle.icu_char16trie.proofs.json.units_of_items.Goals as goal

pub loop-i-init : goal.loop-i-init
loop-i-init c =
    ap (λ z. with_front z (read_from unit_or 0 (map view c.args.items.now))) c.in-Ok.ensures.items
    ∙ at_start (read_from unit_or 0 (map view c.args.items.now))
    ∙ ap (read_from unit_or 0) (sym (list_of-items_view c.args.items.now))

pub returns-in_default-unit_of-clause-err : goal.returns-in_default-unit_of-clause-err
returns-in_default-unit_of-clause-err c =
    inr (stops unit_or view c.args.items.now c.loop-i.i c.index-items-i.result c.loop-i.units.items _ (errors.Number c.loop-i.i)
    c.loop-i-test.true c.index-items-i.is c.loop-i.invariant
    (ap (λ o. ok_or o (errors.Number c.loop-i.i)) (sym c.in_default-unit_of.ensures)))

pub loop-i-preserved : goal.loop-i-preserved
loop-i-preserved c =
    goes_on unit_or view c.args.items.now c.loop-i.i c.index-items-i.result c.loop-i.units.items c.push.new.self.items _ c.in-Some.unit
    c.loop-i-test.true c.index-items-i.is c.loop-i.invariant
    (ap (λ o. ok_or o (errors.Number c.loop-i.i)) (sym c.in-Some.ensures)) c.in-Ok-push.ensures.items

pub returns-clause-ok : goal.returns-clause-ok
returns-clause-ok c = at_end unit_or view c.args.items.now c.loop-i.i c.loop-i.units.items _ c.loop-i-test.false c.loop-i.invariant
