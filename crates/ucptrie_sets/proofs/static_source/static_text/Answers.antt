use Rattle.ucptrie_sets.proofs.static_source.static_text.Goals as goal

pub returns : goal.returns
returns c = simp (
  c.in_ok-push_end.ensures,
  c.in_ok-push_boundaries.ensures,
  c.in_ok-push_head.ensures,
  c.in_ok-text.ensures,
)
