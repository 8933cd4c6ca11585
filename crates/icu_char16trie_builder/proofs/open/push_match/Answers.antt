use Rattle.std.proofs.Common.{rules, arith, ◌+◌, ap}
use Rattle.icu_char16trie_builder.specs.Inside.Cuts.{arm_room}
use Rattle.icu_char16trie_builder.proofs.StepLemmas.{cost_pushed}
use Rattle.icu_char16trie_builder.proofs.OpenLemmas.{branch_cost, one_group}
use Rattle.icu_char16trie_builder.proofs.open.push_match.Goals as goal

pub returns-then-len-gt1-clause-cost : goal.returns-then-len-gt1-clause-cost
returns-then-len-gt1-clause-cost c =
    omega (
      arith,
      cost_pushed _ _ _ c.in_ok-push.ensures.items,
      branch_cost c.args.value,
      c.in_ok-arms.ensures.room,
      c.in_ok-push_part.ensures.cost,
      c.if-len-gt1.true,
      c.len.ensures,
      ap (arm_room (c.args.depth + 1)) c.as_slice.ensures.value,
    )

pub push_run-requires-clause-group : goal.push_run-requires-clause-group
push_run-requires-clause-group c =
    one_group c.args.depth c.len.result c.args.entries.now c.in_ok-arms.arms.items c.in_ok-arms.ensures (search rules)
    (omega (arith, c.if-len-gt1.false)) c.requires.some
