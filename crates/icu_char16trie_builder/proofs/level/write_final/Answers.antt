use Rattle.std.proofs.Common.{arith}
use Rattle.icu_char16trie_builder.proofs.LevelLemmas.{final_level, back_of, grew_number}
use Rattle.icu_char16trie_builder.proofs.level.write_final.Goals as goal

pub returns : goal.returns
returns c = record {
  node = final_level c.args.value _ _ _ (back_of c.args.value _ c.cast_unsigned.ensures c.ranges.value) c.in_ok-put_final.ensures;
  grew = grew_number 0x4000 0x7fff _ _ _ _ (omega arith) c.in_ok-put_final.ensures;
}
