use Rattle.std.proofs.Common.{refl, sym, ◌∙◌}
use Rattle.icu_char16trie.proofs.NextLemmas.{TakesPart, is_nothing, part_keeps, part_leads}
use Rattle.icu_char16trie.proofs.pending.Pending.go_to_node.Goals as goal

-- The last part is taken off, and the text is cut back to its mark.
takes : (c : goal.In_ok-enter_part)
    → TakesPart c.args.self.now c.in-Some.part
    (record { units = c.args.self.now.units; spelling = c.cut_to.new.self; node = c.args.self.now.node; parts = c.pop.new.self })
takes c = record {
  none = is_nothing c.args.self.now.node (sym c.is_some.ensures ∙ c.if-is_some.false);
  units = refl;
  node = refl;
  parts = c.in-Some.ensures.items;
  text = c.cut_to.ensures.text;
  held = c.cut_to.ensures.held;
}

pub returns-clause-keeps : goal.returns-clause-keeps
returns-clause-keeps c = part_keeps _ _ c.enter_part.new.self c.in-Some.part (takes c) c.in_ok-enter_part.ensures c.requires

pub returns-clause-leads : goal.returns-clause-leads
returns-clause-leads c = λ _. part_leads _ _ c.enter_part.new.self c.in-Some.part (takes c) c.in_ok-enter_part.ensures
