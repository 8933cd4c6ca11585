use Rattle.std.proofs.Common.{rules, ◌≡◌, true}
use Rattle.icu_char16trie_builder.proofs.KnownLemmas.{alike_more}
use Rattle.icu_char16trie_builder.proofs.known.are_alike.Goals as goal

pub loop-i-preserved : goal.loop-i-preserved
loop-i-preserved c =
    let yes : c.begin_alike.result ≡ true = search rules in
    alike_more c.args.a_depth c.args.b_depth c.loop-i.i c.args.a.now c.args.b.now c.split_at.result.1.now c.split_at-in-loop-i.result.1.now
    c.split_at.ensures.back c.split_at-in-loop-i.ensures.back c.loop-i.invariant (c.begin_alike.ensures yes)
