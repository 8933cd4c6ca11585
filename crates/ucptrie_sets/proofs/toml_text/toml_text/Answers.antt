use Rattle.ucptrie_sets.proofs.toml_text.toml_text.Goals as goal

pub returns : goal.returns
returns c = simp (
  c.in_ok-push_str.ensures.bytes,
  c.in_ok-push_ranges.ensures,
  c.in_ok-push_head.ensures,
  c.new-text.ensures.bytes,
)
