use Rattle.ucptrie_forms.proofs.c_source.c_text.Goals as goal

pub returns : goal.returns
returns c = simp (
  c.in_ok-push_struct.ensures,
  c.in_ok-push_look_up.ensures,
  c.in_ok-push_numbers.ensures,
  c.in_ok-push_data_array.ensures,
  c.in_ok-push_index_array.ensures,
  c.in_ok-push_str.ensures.bytes,
  c.in_ok-push_sizes.ensures,
  c.new-text.ensures.bytes,
)
