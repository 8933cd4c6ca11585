use Rattle.std.proofs.Common.{rules, arith, ◌≡◌, eqb-true, length, reverse, sym, ◌∙◌}
use Rattle.icu_char16trie_builder.proofs.OpenLemmas.{tail_led, tail_spent}
use Rattle.icu_char16trie_builder.proofs.open.open_node.Goals as goal

pub returns-then-is_empty-clause-leads : goal.returns-then-is_empty-clause-leads
returns-then-is_empty-clause-leads c places known goal h =
    let none : length c.in-Some.rest.now ≡ 0 = eqb-true (length c.in-Some.rest.now) 0 (sym c.is_empty.ensures ∙ c.if-is_empty.true) in
    tail_led c.args.depth _ _ (reverse c.args.out.now.items)
    (reverse c.write_tail.new.out.items) places c.units_from.result.now known c.args.entries c.in-Some.rest.now c.in-Some.first.now
    (reverse c.args.steps.now.items) goal c.in-Some.ensures.cases.0 none c.units_from.ensures (search rules) c.in_ok-write_tail.ensures.node
    c.in_ok-write_tail.ensures.grew h

pub returns-then-is_empty-clause-spent : goal.returns-then-is_empty-clause-spent
returns-then-is_empty-clause-spent c =
    let none : length c.in-Some.rest.now ≡ 0 = eqb-true (length c.in-Some.rest.now) 0 (sym c.is_empty.ensures ∙ c.if-is_empty.true) in
    omega (
      arith,
      tail_spent c.args.depth c.args.out.now.items c.write_tail.new.out.items c.units_from.result.now c.args.entries.now c.in-Some.rest.now
          c.in-Some.first.now
          c.in-Some.ensures.cases.0 none c.units_from.ensures c.in_ok-write_tail.ensures.grew,
    )
