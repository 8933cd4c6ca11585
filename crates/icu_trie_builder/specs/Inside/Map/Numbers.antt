-- The numbers of a map: one for all code points, or blocks.
use Rattle.std.specs.Prelude.{ℕ, List, replicate}
use Rattle.icu_trie_builder.specs.Inside.Map.NumberMap.{code_points}
use Rattle.icu_trie_builder.specs.declared.map.number_map.Numbers.{Numbers}
use Rattle.icu_trie_builder.specs.declared.map.number_map.Numbers.TheVariants.{One, InBlocks}

-- The numbers of all code points in order.
abbrev pub numbers_of : Numbers → List ℕ
numbers_of (One number) = replicate code_points number
numbers_of (InBlocks blocks) = blocks.numbers
