use Rattle.std.proofs.Common.{sym, ap, ◌∙◌}
use Rattle.std.specs.Prelude.{codes}
use Rattle.std.specs.Option.{ok_or}
use Rattle.serde_json.specs.View.{view}
use Rattle.icu_zerovec.specs.FirstFault.{and_then}
use Rattle.icu_trie_formats.specs.TrieJson.{value_of, no_number, no_value}
use Rattle.icu_zerovec.proofs.CallerLemmas.{stops, goes_on, at_end}
use Rattle.icu_trie_formats.proofs.json.values_of.Goals as goal

pub returns-in_default-number_of-clause-err : goal.returns-in_default-number_of-clause-err
returns-in_default-number_of-clause-err g c =
    stops (value_of g.T.TrieValue.of_number) view c.args.items.now c.loop-i.i c.index-items-i.result c.loop-i.values.items _
    (no_number (codes "data")) c.loop-i-test.true c.index-items-i.is c.loop-i.invariant
    (ap (λ o. and_then (ok_or o (no_number (codes "data"))) (λ n. ok_or (g.T.TrieValue.of_number n) (no_value c.loop-i.i)))
    (sym c.in_default-number_of.ensures))

pub returns-in_default-try_from_u32-clause-err : goal.returns-in_default-try_from_u32-clause-err
returns-in_default-try_from_u32-clause-err g c =
    stops (value_of g.T.TrieValue.of_number) view c.args.items.now c.loop-i.i c.index-items-i.result c.loop-i.values.items _
    (no_value c.loop-i.i) c.loop-i-test.true c.index-items-i.is c.loop-i.invariant
    (ap (λ o. and_then (ok_or o (no_number (codes "data"))) (λ n. ok_or (g.T.TrieValue.of_number n) (no_value c.loop-i.i)))
    (sym c.in-Some.ensures) ∙ ap (λ o. ok_or o (no_value c.loop-i.i)) c.in_default-try_from_u32.ensures.err)

pub loop-i-preserved : goal.loop-i-preserved
loop-i-preserved g c =
    goes_on (value_of g.T.TrieValue.of_number) view c.args.items.now c.loop-i.i c.index-items-i.result c.loop-i.values.items
    c.push.new.self.items _ c.in-Ok-try_from_u32.value c.loop-i-test.true c.index-items-i.is c.loop-i.invariant
    (ap (λ o. and_then (ok_or o (no_number (codes "data"))) (λ n. ok_or (g.T.TrieValue.of_number n) (no_value c.loop-i.i)))
    (sym c.in-Some.ensures) ∙ ap (λ o. ok_or o (no_value c.loop-i.i)) c.in-Ok-try_from_u32.ensures.ok) c.in-Ok-push.ensures.items

pub returns-clause-ok : goal.returns-clause-ok
returns-clause-ok g c =
    at_end (value_of g.T.TrieValue.of_number) view c.args.items.now c.loop-i.i c.loop-i.values.items _ c.loop-i-test.false
    c.loop-i.invariant
