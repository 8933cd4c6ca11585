use Rattle.std.proofs.Common.{arith}
use Rattle.icu_char16trie_builder.proofs.LevelLemmas.{value_level, back_of, grew_arm}
use Rattle.icu_char16trie_builder.proofs.level.write_value.Goals as goal

pub returns : goal.returns
returns c = record {
  grew = grew_arm 0x4000 0x7fff c.args.unit _ _ _ _ _ (omega arith) c.in_ok-put_final.ensures c.in_ok-put_one.ensures;
  part = λ n us m many few rest. value_level c.args.unit c.args.value _ n _ _ _ us m
      (back_of c.args.value _ c.cast_unsigned.ensures c.ranges.value) many few rest c.in_ok-put_final.ensures c.in_ok-put_one.ensures;
}
