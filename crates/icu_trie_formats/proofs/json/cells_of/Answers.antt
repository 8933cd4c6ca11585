use Rattle.std.proofs.Common.{◌^◌, sym, ap, ◌∙◌}
use Rattle.std.specs.Prelude.{codes, option_and_then}
use Rattle.std.specs.Option.{ok_or}
use Rattle.serde_json.specs.View.{view}
use Rattle.icu_trie_core.specs.ValueNumbers.{fitting}
use Rattle.icu_trie_formats.specs.TrieJson.{number_or, no_number}
use Rattle.icu_zerovec.proofs.CallerLemmas.{stops, goes_on, at_end}
use Rattle.icu_trie_formats.proofs.json.cells_of.Goals as goal

pub returns-in_default-number_of-clause-err : goal.returns-in_default-number_of-clause-err
returns-in_default-number_of-clause-err c =
    stops (λ _ d. number_or (fitting (2 ^ 16)) (codes "index") d) view c.args.items.now c.loop-item.item-index c.item-item.result
    c.loop-item.cells.items _ (no_number (codes "index")) c.loop-item-test.true c.item-item.is c.loop-item.invariant
    (ap (λ o. ok_or (option_and_then (fitting (2 ^ 16)) o) (no_number (codes "index"))) (sym c.in_default-number_of.ensures))

pub returns-in_default-try_from_u32-clause-err : goal.returns-in_default-try_from_u32-clause-err
returns-in_default-try_from_u32-clause-err c =
    stops (λ _ d. number_or (fitting (2 ^ 16)) (codes "index") d) view c.args.items.now c.loop-item.item-index c.item-item.result
    c.loop-item.cells.items _ (no_number (codes "index")) c.loop-item-test.true c.item-item.is c.loop-item.invariant
    (ap (λ o. ok_or (option_and_then (fitting (2 ^ 16)) o) (no_number (codes "index"))) (sym c.in-Some.ensures)
    ∙ ap (λ o. ok_or o (no_number (codes "index"))) c.in_default-try_from_u32.ensures.err)

pub loop-item-preserved : goal.loop-item-preserved
loop-item-preserved c =
    goes_on (λ _ d. number_or (fitting (2 ^ 16)) (codes "index") d) view c.args.items.now c.loop-item.item-index c.item-item.result
    c.loop-item.cells.items c.push.new.self.items _ c.in-Ok-try_from_u32.cell c.loop-item-test.true c.item-item.is c.loop-item.invariant
    (ap (λ o. ok_or (option_and_then (fitting (2 ^ 16)) o) (no_number (codes "index"))) (sym c.in-Some.ensures)
    ∙ ap (λ o. ok_or o (no_number (codes "index"))) c.in-Ok-try_from_u32.ensures.ok) c.in-Ok-push.ensures.items

pub returns-clause-ok : goal.returns-clause-ok
returns-clause-ok c =
    at_end (λ _ d. number_or (fitting (2 ^ 16)) (codes "index") d) view c.args.items.now c.loop-item.item-index c.loop-item.cells.items _
    c.loop-item-test.false c.loop-item.invariant
