use Rattle.std.proofs.Common.{[], refl, sym, ap, arith, append-nil}
use Rattle.icu_char16trie.specs.NextUnits.{row, no_split}
use Rattle.icu_char16trie.proofs.NextUnitLemmas.{both_added, upper_added}
use Rattle.icu_char16trie.proofs.next_units.+add_part.Goals as goal
use Rattle.icu_char16trie.proofs.next_units.+add_part.Goals.{in-Some-lower_part+in_ok-add_part, in_default-lower_part}

pub returns-then-count-le-MAX_BRANCH_LINEAR_SUB_NODE_LENGTH : goal.returns-then-count-le-MAX_BRANCH_LINEAR_SUB_NODE_LENGTH
returns-then-count-le-MAX_BRANCH_LINEAR_SUB_NODE_LENGTH t c =
    let a = c.in_ok-add_row.ensures in (a.0, row _ _ a.0 c.if-count-le-MAX_BRANCH_LINEAR_SUB_NODE_LENGTH.true a.1, a.2)

pub returns-in_default : goal.returns-in_default
returns-in_default t c = ([], no_split _ _ [] (omega arith) c.in_default.ensures.two refl, sym (append-nil c.args.list.now.items))

pub returns : goal.returns
returns t c =
    elim c.match-lower_part.branch [
      | in-Some-lower_part+in_ok-add_part w ↦
          both_added _ _ _ c.in-Some.delta w.in-Some-lower_part.low c.delta_end.result c.args.list.now.items _ c.match-lower_part.list.items
          c.add_part-2.new.list.items (omega arith)
          c.in-Some.ensures.two.1 (sym w.in-Some-lower_part.ensures.part) c.delta_end.ensures.end w.in_ok-add_part.ensures
          (ap (λ z. z.items) w.list-is) c.in_ok-add_part-2.ensures
      | in_default-lower_part w ↦
          upper_added _ _ _ c.in-Some.delta c.delta_end.result c.args.list.now.items c.match-lower_part.list.items
          c.add_part-2.new.list.items (omega arith)
          c.in-Some.ensures.two.1 (sym w.in_default-lower_part.ensures.part) c.delta_end.ensures.end (ap (λ z. z.items) w.list-is)
          c.in_ok-add_part-2.ensures
    ]
