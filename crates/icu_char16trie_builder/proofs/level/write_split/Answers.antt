use Rattle.std.proofs.Common.{rules, arith, ◌≡◌, ◌-◌, ◌++◌, length, reverse}
use Rattle.icu_char16trie_builder.proofs.LevelLemmas.{split_level, grew_arm}
use Rattle.icu_char16trie_builder.proofs.level.write_split.Goals as goal
use Rattle.icu_char16trie_builder.specs.Inside.Encoding.{delta_units}

pub returns : goal.returns
returns c =
    let j : c.saturating_sub-delta.result ≡ length c.args.out.now.items - c.args.from_end = search rules in
    let w : reverse c.put_delta.new.out.items ≡ delta_units (length c.args.out.now.items - c.args.from_end) ++ reverse c.args.out.now.items
    = rw j at c.in_ok-put_delta.ensures in
    record {
      grew = grew_arm 0xfc00 0xffff c.args.unit _ _ _ _ _ (omega arith) w c.in_ok-put_one.ensures;
      part = λ n us1 us2 m1 m2 many lower upper below from.
          split_level c.args.unit _ n _ _ _ us1 us2 m1 m2 many lower upper below from w c.in_ok-put_one.ensures;
    }
