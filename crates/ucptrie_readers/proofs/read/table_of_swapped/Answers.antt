use Rattle.ucptrie_tables.specs.declared.width.ValueWidth.TheVariants.{Bits8, Bits16}
use Rattle.ucptrie_readers.proofs.WidthLemmas.{IsSwappedOf-widened}
use Rattle.ucptrie_readers.proofs.read.table_of_swapped.Goals as goal

pub returns-in-Ok-clause-ok : goal.returns-in-Ok-clause-ok
returns-in-Ok-clause-ok c = IsSwappedOf-widened Bits8 _ _ c.args.file.now _ _ c.in-Ok.ensures.ok c.widened.result c.widened.ensures.trie
    c.widened.ensures.width

pub returns-in-Ok-from_binary_swapped-clause-ok : goal.returns-in-Ok-from_binary_swapped-clause-ok
returns-in-Ok-from_binary_swapped-clause-ok c =
    IsSwappedOf-widened Bits16 _ _ c.args.file.now _ _ c.in-Ok-from_binary_swapped.ensures.ok c.widened-in-Ok-from_binary_swapped.result
    c.widened-in-Ok-from_binary_swapped.ensures.trie c.widened-in-Ok-from_binary_swapped.ensures.width
