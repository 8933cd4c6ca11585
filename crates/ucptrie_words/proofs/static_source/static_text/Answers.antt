use Rattle.ucptrie_words.proofs.static_source.static_text.Goals as goal

pub returns : goal.returns
returns c = simp (
  c.in_ok-push_str.ensures.bytes,
  c.in_ok-push_bytes.ensures,
  c.in_ok-push_head.ensures,
  c.in_ok-push_title.ensures,
  c.new-text.ensures.bytes,
)
