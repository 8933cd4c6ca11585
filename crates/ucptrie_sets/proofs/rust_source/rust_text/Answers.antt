use Rattle.ucptrie_sets.proofs.rust_source.rust_text.Goals as goal

pub returns : goal.returns
returns c = simp (
  c.in_ok-push_search.ensures,
  c.in_ok-push_boundaries.ensures,
  c.in_ok-push_head.ensures,
  c.len.ensures.len,
  c.as_inversion_list.ensures.ends,
  c.in_ok-text.ensures,
)
