use Rattle.std.proofs.Common.{rules, arith, sym, ◌∙◌, ◌≡◌, ◌≤◌, length, true, false}
use Rattle.std.proofs.lemmas.Bool.{eq-eqb, ne_eqb}
use Rattle.icu_invlist.specs.InversionList.{is_odd}
use Rattle.icu_trie_core.specs.Range.{first_of, last_of}
use Rattle.icu_trie.proofs.SetLemmas.{Gathers-kept, Gathers-turned, kept_tells, turned_tells, members-closed, members-opened}
use Rattle.icu_trie.proofs.cptrie.CodePointTrie.ends_of_value.Goals.{then-is_same-is_inside+in_ok-push, else-is_same-is_inside, then-len-eq1+in_ok-push-2, else-len-eq1}
use Rattle.icu_trie.proofs.cptrie.CodePointTrie.ends_of_value.Goals as goal

pub loop-run-preserved : goal.loop-run-preserved
loop-run-preserved g c =
    let step = c.in-Some.ensures.steps in
    let shape = step.gives.shape in
    let at = c.loop-run.invariant.next in
    let first : first_of c.in-Some.run' ≡ c.loop-run.next = shape.0 ∙ sym at in
    let order : c.loop-run.next ≤ last_of c.in-Some.run' = rw at shape.1 in
    let last : c.end.result.now ≡ last_of c.in-Some.run' = c.end.ensures in
    let within = shape.2 in
    let len : c.len.result ≡ length c.loop-run.ends.items = omega arith in
    record {
      next = rw last (sym step.moves);
      within = omega (arith, last, within);
      gathers = elim c.if-is_same-is_inside.branch [
        | then-is_same-is_inside+in_ok-push w ↦
            let test = rw len at w.if-is_same-is_inside.true in
            let start : w.start.result.now ≡ c.loop-run.next = w.start.ensures ∙ first in
            rw (w.ends-is, w.in_ok-push.ensures.items, start, last)
            (Gathers-turned c.loop-run.invariant.gathers c.in-Some.run' first order
            (turned_tells c.is_same.result (is_odd (length c.loop-run.ends.items)) c.is_same.ensures test))
        | else-is_same-is_inside w ↦
            let test = rw len at w.if-is_same-is_inside.false in
            rw (w.ends-is, last) (Gathers-kept c.loop-run.invariant.gathers c.in-Some.run' first order
            (kept_tells c.is_same.result (is_odd (length c.loop-run.ends.items)) c.is_same.ensures test))
      ];
    }

pub returns-clause-set : goal.returns-clause-set
returns-clause-set g c =
    let gathers = c.loop-run.invariant.gathers in
    let within = c.loop-run.invariant.within in
    let len : c.len-2.result ≡ length c.loop-run.ends.items = omega arith in (
      c.loop-run.yielded,
      search rules,
      λ u _. elim c.if-len-eq1.branch [
        | then-len-eq1+in_ok-push-2 w ↦
            let odd : is_odd (length c.loop-run.ends.items) ≡ true = eq-eqb _ _ (rw len at w.if-len-eq1.true) in
            rw (w.ends-is, w.in_ok-push-2.ensures.items) (members-opened gathers within odd u)
        | else-len-eq1 w ↦
            let even : is_odd (length c.loop-run.ends.items) ≡ false = ne_eqb _ _ (rw len at w.if-len-eq1.false) in
            rw w.ends-is (members-closed gathers within even u)
      ],
    )
