use Rattle.std.proofs.Common.{rules, arith, ◌≡◌, List, ◌∷◌, [], ◌<◌, ◌+◌, ◌/◌, length, drop, sym, ap, ◌∙◌, eqb-true, to_z, of_z, w32}
use Rattle.std.proofs.lemmas.List.{nil_from_length}
use Rattle.std.proofs.lemmas.Int.{to_z-of_z}
use Rattle.icu_char16trie_builder.proofs.ArmLemmas.{part_low, part_high}
use Rattle.icu_char16trie_builder.proofs.OpenLemmas.{gives_value, gives_jump, gives_split, last_cost, value_cost, jump_cost, split_cost, first_below}
use Rattle.icu_char16trie_builder.proofs.open.+push_part.Goals as goal

-- A list is its first item and what comes after it.
begins : {A : Type 0} {x : A} {all rest : List A} → all ≡ x ∷ drop 1 all → rest ≡ drop 1 all → all ≡ x ∷ rest
begins {x = x} e r = e ∙ ap (λ z. x ∷ z) (sym r)

pub push_part-requires : goal.push_part-requires
push_part-requires t c =
    let many : length c.split_at.result.1.now + length c.args.arms.now / 2 ≡ length c.args.arms.now = c.split_at.ensures.back_len in
    let less : length c.split_at.result.1.now < length c.args.arms.now =
    omega (arith, many, c.if-arms-gt-MAX_BRANCH_LINEAR_SUB_NODE_LENGTH.true) in
    let some : 0 < length c.split_at.result.1.now = omega (arith, many, c.if-arms-gt-MAX_BRANCH_LINEAR_SUB_NODE_LENGTH.true) in (
      search rules,
      part_high c.args.depth c.args.arms.now c.split_at.result.0.now c.split_at.result.1.now c.split_at.ensures.by_index.0 some
          c.requires,
    )

pub push_part-requires-then-arms-gt-MAX_BRANCH_LINEAR_SUB_NODE_LENGTH :
    goal.push_part-requires-then-arms-gt-MAX_BRANCH_LINEAR_SUB_NODE_LENGTH
push_part-requires-then-arms-gt-MAX_BRANCH_LINEAR_SUB_NODE_LENGTH t c =
    let many : length c.split_at.result.0.now ≡ length c.args.arms.now / 2 = c.split_at.ensures.front_len in
    let less : length c.split_at.result.0.now < length c.args.arms.now =
    omega (arith, many, c.if-arms-gt-MAX_BRANCH_LINEAR_SUB_NODE_LENGTH.true) in
    let some : 0 < length c.split_at.result.0.now = omega (arith, many, c.if-arms-gt-MAX_BRANCH_LINEAR_SUB_NODE_LENGTH.true) in (
      search rules,
      part_low c.args.depth c.args.arms.now c.split_at.result.0.now c.split_at.result.1.now c.split_at.ensures.by_index.0 some
          c.requires,
    )

pub returns-then-arms-gt-MAX_BRANCH_LINEAR_SUB_NODE_LENGTH-clause-gives :
    goal.returns-then-arms-gt-MAX_BRANCH_LINEAR_SUB_NODE_LENGTH-clause-gives
returns-then-arms-gt-MAX_BRANCH_LINEAR_SUB_NODE_LENGTH-clause-gives t c s goal h =
    gives_split c.args.depth _ _ _ _ c.push_part-then-arms-gt-MAX_BRANCH_LINEAR_SUB_NODE_LENGTH.new.steps.items c.args.arms.now
    c.split_at.result.0.now c.split_at.result.1.now (drop 1 c.split_at.result.1.now) c.first_arm.result s goal
    c.split_at.ensures.by_index.0 c.first_arm.ensures c.split_at.ensures.front_len c.if-arms-gt-MAX_BRANCH_LINEAR_SUB_NODE_LENGTH.true
    c.requires.ascends c.in_ok-push.ensures.items c.in_ok-push_part.ensures.gives c.in_ok-push-2.ensures.items
    c.in_ok-push_part-2.ensures.gives h

pub returns-then-arms-gt-MAX_BRANCH_LINEAR_SUB_NODE_LENGTH-clause-cost :
    goal.returns-then-arms-gt-MAX_BRANCH_LINEAR_SUB_NODE_LENGTH-clause-cost
returns-then-arms-gt-MAX_BRANCH_LINEAR_SUB_NODE_LENGTH-clause-cost t c =
    split_cost c.args.depth c.first_arm.result.unit _ _ _ _ _ c.args.arms.now c.split_at.result.0.now c.split_at.result.1.now
    c.split_at.ensures.by_index.0
    c.in_ok-push.ensures.items c.in_ok-push_part.ensures.cost c.in_ok-push-2.ensures.items c.in_ok-push_part-2.ensures.cost

pub returns-then-is_empty-clause-cost : goal.returns-then-is_empty-clause-cost
returns-then-is_empty-clause-cost t c =
    let zero : length c.split_at-2.result.1.now ≡ 0 =
    eqb-true (length c.split_at-2.result.1.now) 0 (sym c.is_empty.ensures ∙ c.if-is_empty.true) in
    let one = begins c.first_arm-first.ensures (sym (nil_from_length c.split_at-2.result.1.now zero) ∙ c.split_at-2.ensures.back) in
    last_cost c.args.depth c.first_arm-first.result.unit _ _ _ c.args.arms.now c.first_arm-first.result one c.in_ok-push-3.ensures.items
    c.in_ok-push-4.ensures.items
    (first_below c.args.depth c.args.arms.now [] c.first_arm-first.result one c.requires.below).0

pub returns-in-Some-clause-gives : goal.returns-in-Some-clause-gives
returns-in-Some-clause-gives t c s goal h =
    let is = begins c.first_arm-first.ensures c.split_at-2.ensures.back in
    let some : 0 < length c.split_at-2.result.1.now = search rules in
    let same : to_z w32 (of_z w32 c.in-Some.value) ≡ c.in-Some.value = to_z-of_z w32 c.in-Some.value (search rules) in
    gives_value c.args.depth _ _ _ c.push_part-in-Some.new.steps.items c.first_arm-first.result c.args.arms.now c.split_at-2.result.1.now s
    goal is some (omega (arith, c.if-arms-gt-MAX_BRANCH_LINEAR_SUB_NODE_LENGTH.false))
    c.in_ok-push-5.ensures.items (c.in-Some.ensures ∙ ap (λ z. ([], z) ∷ []) (sym same)) c.in_ok-push_part-3.ensures.gives h

pub returns-in-Some-clause-cost : goal.returns-in-Some-clause-cost
returns-in-Some-clause-cost t c =
    let is = begins c.first_arm-first.ensures c.split_at-2.ensures.back in
    value_cost c.args.depth c.first_arm-first.result.unit _ _ _ _ c.args.arms.now c.split_at-2.result.1.now c.first_arm-first.result is
    c.in_ok-push-5.ensures.items
    c.in_ok-push_part-3.ensures.cost (first_below c.args.depth c.args.arms.now c.split_at-2.result.1.now c.first_arm-first.result is
    c.requires.below).0

pub returns-clause-gives : goal.returns-clause-gives
returns-clause-gives t c s goal h =
    let is = begins c.first_arm-first.ensures c.split_at-2.ensures.back in
    let some : 0 < length c.split_at-2.result.1.now = search rules in
    gives_jump c.args.depth _ _ _ c.push-3.new.self.items c.first_arm-first.result c.args.arms.now c.split_at-2.result.1.now s goal is some
    (omega (arith, c.if-arms-gt-MAX_BRANCH_LINEAR_SUB_NODE_LENGTH.false))
    c.in_ok-push-6.ensures.items c.in_ok-push_part-4.ensures.gives c.in_ok-push-7.ensures.items
    (first_below c.args.depth c.args.arms.now c.split_at-2.result.1.now c.first_arm-first.result is c.requires.below) h

pub returns-clause-cost : goal.returns-clause-cost
returns-clause-cost t c =
    let is = begins c.first_arm-first.ensures c.split_at-2.ensures.back in
    jump_cost c.args.depth c.first_arm-first.result.unit _ _ _ _ c.args.arms.now c.split_at-2.result.1.now c.first_arm-first.result is
    c.in_ok-push-6.ensures.items c.in_ok-push_part-4.ensures.cost c.in_ok-push-7.ensures.items
    (first_below c.args.depth c.args.arms.now c.split_at-2.result.1.now c.first_arm-first.result is c.requires.below).0
