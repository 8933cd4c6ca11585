use Rattle.std.proofs.Common.{sym, ap, ◌∙◌}
use Rattle.std.specs.Prelude.{codes}
use Rattle.std.specs.Option.{ok_or}
use Rattle.icu_trie_formats.specs.TrieToml.{value_of, unread}
use Rattle.icu_zerovec.proofs.CallerLemmas.{stops, goes_on, at_end}
use Rattle.icu_trie_formats.proofs.trie_toml.values_of.Goals as goal

pub returns-in_default-try_from_u32-clause-err : goal.returns-in_default-try_from_u32-clause-err
returns-in_default-try_from_u32-clause-err g c =
    stops (λ _ n. value_of g.T.TrieValue.of_number n) g.N.TrieValue.number c.args.cells.now c.loop-cell.cell-index c.cell-item.result
    c.loop-cell.values.items _ (unread (codes "Could not parse data array to typed array")) c.loop-cell-test.true c.cell-item.is
    c.loop-cell.invariant
    (ap (value_of g.T.TrieValue.of_number) (sym c.to_u32.ensures)
    ∙ ap (λ o. ok_or o (unread (codes "Could not parse data array to typed array"))) c.in_default-try_from_u32.ensures.err)

pub loop-cell-preserved : goal.loop-cell-preserved
loop-cell-preserved g c =
    goes_on (λ _ n. value_of g.T.TrieValue.of_number n) g.N.TrieValue.number c.args.cells.now c.loop-cell.cell-index c.cell-item.result
    c.loop-cell.values.items c.push.new.self.items _ c.in-Ok-try_from_u32.value c.loop-cell-test.true c.cell-item.is
    c.loop-cell.invariant
    (ap (value_of g.T.TrieValue.of_number) (sym c.to_u32.ensures)
    ∙ ap (λ o. ok_or o (unread (codes "Could not parse data array to typed array"))) c.in-Ok-try_from_u32.ensures.ok)
    c.in-Ok-push.ensures.items

pub returns-clause-ok : goal.returns-clause-ok
returns-clause-ok g c =
    at_end (λ _ n. value_of g.T.TrieValue.of_number n) g.N.TrieValue.number c.args.cells.now c.loop-cell.cell-index c.loop-cell.values.items
    _ c.loop-cell-test.false c.loop-cell.invariant
