use Rattle.std.proofs.Common.{rules, arith, ◌≡◌, ◌-◌, ◌++◌, length, reverse}
use Rattle.icu_char16trie_builder.proofs.LevelLemmas.{entry_level, grew_arm}
use Rattle.icu_char16trie_builder.proofs.level.write_jump.Goals as goal
use Rattle.icu_char16trie_builder.specs.Inside.Encoding.{short_units}

pub returns : goal.returns
returns c =
    let j : c.saturating_sub-jump.result ≡ length c.args.out.now.items - c.args.from_end = search rules in
    let w : reverse c.put_short.new.out.items ≡ short_units (length c.args.out.now.items - c.args.from_end) ++ reverse c.args.out.now.items
    = rw j at c.in_ok-put_short.ensures in
    record {
      grew = grew_arm 0x4000 0x7fff c.args.unit _ _ _ _ _ (omega arith) w c.in_ok-put_one.ensures;
      part = λ n us m1 m2 many few node rest. entry_level c.args.unit _ n _ _ _ us m1 m2 many few node rest w c.in_ok-put_one.ensures;
    }
