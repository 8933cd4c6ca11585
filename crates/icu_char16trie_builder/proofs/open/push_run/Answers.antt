use Rattle.std.proofs.Common.{rules, arith, ◌≡◌, ◌≤◌, ◌+◌, ◌-◌, length, ap, ◌∙◌}
use Rattle.std.proofs.lemmas.List.{length-drop}
use Rattle.icu_char16trie_builder.proofs.StepLemmas.{cost_pushed}
use Rattle.icu_char16trie_builder.proofs.OpenLemmas.{IsRun, run_is, gives_run, run_cost}
use Rattle.icu_char16trie_builder.proofs.open.push_run.Goals as goal
use Rattle.icu_char16trie_builder.proofs.open.push_run.Goals.{After-shared_len-shared}

-- The units of the linear match are units of the key from `depth` on.
run_within : (c : After-shared_len-shared) → (1 + c.shared_len-shared.result ≤ length c.units_from-units.result.now)
    × (c.args.depth + (1 + c.shared_len-shared.result) ≤ length c.args.first.now.key.now)
run_within c =
    let units : length c.units_from-units.result.now ≡ length c.args.first.now.key.now - c.args.depth =
    ap length c.units_from-units.ensures ∙ length-drop c.args.depth c.args.first.now.key.now in
    let rest : length c.units_from.result.now ≡ length c.units_from-units.result.now - 1 =
    ap length c.units_from.ensures ∙ length-drop 1 c.units_from-units.result.now in
    (omega (arith, c.requires.deep, c.shared_len-shared.ensures.within), omega (arith, c.requires.deep, c.shared_len-shared.ensures.within))

pub split_at-requires : goal.split_at-requires
split_at-requires c = omega (arith, (run_within (goal.at.split_at-requires c).After-shared_len-shared).0)

pub overflow_add-depth-2 : goal.overflow_add-depth-2
overflow_add-depth-2 c = let within = (run_within (goal.at.overflow_add-depth-2 c).After-shared_len-shared).1 in search rules

-- All keys have the units of the linear match.
run : (c : goal.In_ok-push-2) → IsRun c.args.depth (1 + c.shared_len-shared.result) c.split_at.result.0.now c.args.entries.now
run c = run_is c.args.depth c.requires.group.0 c.shared_len-shared.result c.args.entries.now c.args.first.now c.units_from-units.result.now
    c.units_from.result.now c.split_at.result.0.now c.requires.group.1 c.requires.first c.units_from-units.ensures c.units_from.ensures
    c.shared_len-shared.ensures.few c.shared_len-shared.ensures.within c.shared_len-shared.ensures.share c.split_at.ensures.front

pub returns-clause-gives : goal.returns-clause-gives
returns-clause-gives c s goal h =
    gives_run c.args.depth (1 + c.shared_len-shared.result) c.args.value _ _ c.push-2.new.self.items c.split_at.result.0 c.args.entries s
    goal
    c.in_ok-push.ensures.items c.in_ok-push-2.ensures.items (run c) c.requires.some c.requires.ascends h

pub returns-clause-cost : goal.returns-clause-cost
returns-clause-cost c = omega (
  arith,
  cost_pushed _ _ _ c.in_ok-push.ensures.items,
  cost_pushed _ _ _ c.in_ok-push-2.ensures.items,
  run_cost c.args.depth (1 + c.shared_len-shared.result) c.args.value c.split_at.result.0.now c.args.entries.now (run c) c.requires.some
      c.requires.many,
)
