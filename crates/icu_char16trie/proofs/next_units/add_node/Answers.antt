use Rattle.std.proofs.Common.{[], refl, sym, append-nil}
use Rattle.icu_char16trie.specs.NextUnits.{no_lead, at_final, at_match}
use Rattle.icu_char16trie.proofs.next_units.add_node.Goals as goal

pub returns-in_default : goal.returns-in_default
returns-in_default c = ([], no_lead _ [] (sym c.in_default.ensures.unit) refl, sym (append-nil c.args.list.now.items))

pub returns-then-lead-ge-VALUE_IS_FINAL : goal.returns-then-lead-ge-VALUE_IS_FINAL
returns-then-lead-ge-VALUE_IS_FINAL c = (
  [],
  at_final _ c.in-Some.lead [] (sym c.in-Some.ensures.unit) c.if-lead-ge-VALUE_IS_FINAL.true refl,
  sym (append-nil c.args.list.now.items),
)

pub returns : goal.returns
returns c = let a = c.in_ok-add_match.ensures in (
  a.0,
  at_match _ c.in-Some.lead a.0 (sym c.in-Some.ensures.unit) c.if-lead-ge-VALUE_IS_FINAL.false
      (rw c.node_end.ensures.end at a.1),
  a.2,
)
