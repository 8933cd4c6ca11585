use Rattle.icu_char16trie_builder.proofs.LevelLemmas.{last_level, grew_last}
use Rattle.icu_char16trie_builder.proofs.level.write_last.Goals as goal

pub returns : goal.returns
returns c = record {
  part = λ m h. rw c.in_ok-put_one.ensures (last_level c.args.unit _ m h);
  grew =
      grew_last c.args.unit _ _ c.in_ok-put_one.ensures;
}
