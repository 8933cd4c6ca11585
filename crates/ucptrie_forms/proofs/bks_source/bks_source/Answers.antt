use Rattle.ucptrie_forms.proofs.bks_source.bks_source.Goals as goal

pub returns : goal.returns
returns c = simp (
  c.in_ok-push_array.ensures,
  c.in_ok-push_title.ensures,
  c.new-text.ensures.bytes,
  c.type_name-kind.ensures,
  c.bits.ensures,
  c.parts.ensures.header,
)
