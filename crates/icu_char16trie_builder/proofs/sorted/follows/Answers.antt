use Rattle.std.proofs.Common.{arith, ◌<◌, ◌-◌, length, ap}
use Rattle.icu_char16trie_builder.specs.Sorted.{pair_map}
use Rattle.icu_char16trie_builder.proofs.SortedLemmas.{blank, short_at, follows_by, is_no, length-pair_map, key_at-pair_map}
use Rattle.icu_char16trie_builder.proofs.sorted.follows.Goals as goal

pub returns-then-key-gt-LONGEST_KEY : goal.returns-then-key-gt-LONGEST_KEY
returns-then-key-gt-LONGEST_KEY c =
    let within : c.args.i < length (pair_map c.args.entries.now) = omega (arith, length-pair_map c.args.entries.now, c.requires.within) in
    let key = key_at-pair_map c.args.entries.now c.args.i blank c.requires.within in
    is_no (λ up. absurd (
    omega (arith, short_at (pair_map c.args.entries.now) c.args.i within up, ap length key, c.if-key-gt-LONGEST_KEY.true)
    ))

pub returns : goal.returns
returns c =
    let within : c.args.i < length (pair_map c.args.entries.now) = omega (arith, length-pair_map c.args.entries.now, c.requires.within) in
    let some : 0 < c.args.i = omega (arith, c.if-i-eq0.false) in
    let before : c.args.i - 1 < length c.args.entries.now = omega (arith, c.requires.within) in
    follows_by c.is_before.result (pair_map c.args.entries.now) c.args.i _ _ some within
    (key_at-pair_map c.args.entries.now (c.args.i - 1) blank before)
    (key_at-pair_map c.args.entries.now c.args.i blank c.requires.within) c.requires.front c.if-key-gt-LONGEST_KEY.false c.is_before.ensures
