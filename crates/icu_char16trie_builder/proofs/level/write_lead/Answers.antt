use Rattle.std.proofs.Common.{rules, arith}
use Rattle.icu_char16trie_builder.proofs.LevelLemmas.{plain_level, valued_level, back_of, grew_number, grew_last}
use Rattle.icu_char16trie_builder.proofs.level.write_lead.Goals as goal

pub returns-in_ok-put_value-in-Some : goal.returns-in_ok-put_value-in-Some
returns-in_ok-put_value-in-Some c = record {
  node =
      λ m h. rw c.in-Some.is (valued_level c.in-Some.value _ c.args.low _ _ m
      (back_of c.in-Some.value _ c.cast_unsigned.ensures (search rules)) c.requires c.in_ok-put_value-in-Some.ensures h);
  grew = rw c.in-Some.is (grew_number 0x100 0x1fe _ _ _ _ (omega arith) c.in_ok-put_value-in-Some.ensures);
}

pub returns-in_ok-put_one-in-None : goal.returns-in_ok-put_one-in-None
returns-in_ok-put_one-in-None c = record {
  node = λ m h. rw (c.in-None.is, c.in_ok-put_one-in-None.ensures) (plain_level c.args.low _ m c.requires h);
  grew = rw c.in-None.is (grew_last c.args.low _ _ c.in_ok-put_one-in-None.ensures);
}
