use Rattle.std.proofs.Common.{rules, arith}
use Rattle.icu_char16trie_builder.proofs.OpenLemmas.{rest_longer, all_longer, own_gives}
use Rattle.icu_char16trie_builder.proofs.open.push_node.Goals as goal

pub push_entries-requires-clause-longer : goal.push_entries-requires-clause-longer
push_entries-requires-clause-longer c = rest_longer c.args.depth c.args.entries.now c.in-Some.rest.now c.in-Some.first.now
    c.in-Some.ensures.cases.0 c.requires.ascends

pub push_entries-requires-in-Some-clause-longer : goal.push_entries-requires-in-Some-clause-longer
push_entries-requires-in-Some-clause-longer c =
    all_longer c.args.depth c.args.entries.now c.in-Some.rest.now c.in-Some.first.now c.in-Some.ensures.cases.0
    (omega (arith, c.if-first-depth.false)) c.requires.ascends

pub returns-then-first-depth-clause-gives : goal.returns-then-first-depth-clause-gives
returns-then-first-depth-clause-gives c s goal h =
    c.in_ok-push_entries.ensures.gives s goal
    (own_gives c.args.depth _ c.args.steps.now.items c.args.entries.now c.in-Some.rest.now c.in-Some.first.now s.saved goal
    c.in-Some.ensures.cases.0 (omega (arith, c.if-first-depth.true)) (search rules) h)
