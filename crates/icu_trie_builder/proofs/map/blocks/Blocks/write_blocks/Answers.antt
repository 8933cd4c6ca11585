use Rattle.std.proofs.Common.{◌≡◌, arith, inl, inr}
use Rattle.std.proofs.lemmas.Bool.{cases_eq}
use Rattle.icu_trie_builder.proofs.MapLemmas.{written-none, written-on}
use Rattle.icu_trie_builder.proofs.map.blocks.Blocks.write_blocks.Goals as goal

pub loop-from-init : goal.loop-from-init
loop-from-init c = record {
  from = omega arith;
  within = c.requires.range;
  first = c.requires.first;
  last = c.requires.last;
  written = written-none _ _ _;
}

pub loop-from-preserved : goal.loop-from-preserved
loop-from-preserved c = let held = c.loop-from.invariant in record {
  from = omega arith;
  within = omega arith;
  last = rw c.write_in_block.ensures.kept held.last;
  first = elim (cases_eq c.min-to.result c.args.end) [
    | inl e ↦ rw (e, c.write_in_block.ensures.kept) held.last
    | inr ne ↦ inl (omega (arith, ne))
  ];
  written = written-on (omega arith) (omega arith) held.written c.write_in_block.ensures.written;
}

pub returns : goal.returns
returns c = let e : c.loop-from.from ≡ c.args.end = omega arith in rw e at c.loop-from.invariant.written
