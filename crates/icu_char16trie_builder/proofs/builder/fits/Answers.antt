use Rattle.std.proofs.Common.{arith, ◌+◌}
use Rattle.icu_char16trie_builder.proofs.EntryLemmas.{room_more, room_least, too_much}
use Rattle.icu_char16trie_builder.specs.Inside.Cuts.{room}
use Rattle.icu_char16trie_builder.proofs.builder.fits.Goals as goal

pub returns-in_default : goal.returns-in_default
returns-in_default c =
    let more = room_more c.loop-i.i c.args.entries.now c.split_at.result.1.now c.split_at.ensures.back in
    let least = room_least (c.loop-i.i + 1) c.args.entries.now in
    too_much (room 0 c.args.entries.now) 2147483647
    (omega (arith, more, least, c.first_len.ensures, c.loop-i.invariant.total, c.in_default.ensures))

pub loop-i-preserved : goal.loop-i-preserved
loop-i-preserved c =
    let more = room_more c.loop-i.i c.args.entries.now c.split_at.result.1.now c.split_at.ensures.back in
    record {
      total = omega (arith, more, c.first_len.ensures, c.loop-i.invariant.total, c.in-Some.ensures);
      few = omega (arith, c.in-Some.ensures);
    }
