use Rattle.std.proofs.Common.{rules, of_calls, None, arith, [], append-nil, length, ap, refl}
use Rattle.std.proofs.lemmas.List.{length-append}
use Rattle.icu_trie.proofs.MappedTrieLemmas.{onward-answered, onward-refused}
use Rattle.icu_trie.proofs.map_value.map_cells.Goals as goal

pub loop-value-preserved : goal.loop-value-preserved
loop-value-preserved g c =
    let inv = c.loop-value.invariant in
    let items = c.in-Some.ensures.steps in
    let grown = c.in_ok-push-in-Ok.ensures.items in
    let count = inv.count in
    record {
      callable = search of_calls;
      onward = onward-answered (goal.F-step g) _ _ _ _ _ _ _ _ items inv.onward c.in-Ok.answer (search rules) _ grown;
      count = omega (arith, count, ap length items, simp length-append at (ap length grown));
    }

pub returns-in-Err-clause-err : goal.returns-in-Err-clause-err
returns-in-Err-clause-err g c =
    let inv = c.loop-value.invariant in
    let items = c.in-Some.ensures.steps in
    record {
      answers = c.loop-value.answers.items;
      refusal = _;
      last = c.f.new.self;
      calls =
          onward-refused (goal.F-step g) _ _ _ _ _ _ _ _ items inv.onward c.in-Err.error (search rules);
      why = refl;
    }

pub returns-clause-ok : goal.returns-clause-ok
returns-clause-ok g c =
    let inv = c.loop-value.invariant in
    let none = c.in-None.ensures.steps in
    let count = inv.count in
    let all = inv.onward [] None c.loop-value.f refl in
    record {
      last = c.loop-value.f;
      calls = rw (append-nil c.loop-value.answers.items) at all;
      whole =
          omega (arith, count, ap length none.0);
    }
