use Rattle.icu_trie_core.proofs.Offsets.{long_bits}
use Rattle.icu_trie_core.proofs.lookup.long_offset_of.Goals as goal

pub returns : goal.returns
returns c = long_bits c.args.high c.args.low c.args.place c.ranges.high.fits c.ranges.low.fits c.requires
