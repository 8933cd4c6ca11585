-- Blocks of a map of numbers.
use Rattle.std.specs.Prelude.{◌≡◌, ℕ, ◌*◌, ◌%◌, ◌<◌, ◌≤◌, List, length}
use Rattle.icu_zerovec.specs.CodePoints.{code_point_limit}
use Rattle.icu_trie_core.specs.Blocks.{block}
use Rattle.icu_trie_builder.specs.declared.data.map_blocks.MapBlocks.{MapBlocks}

-- The numbers of block number i.
abbrev pub numbers_of : MapBlocks → ℕ → List ℕ
numbers_of b = block b.size b.map.now

-- The map has the number of each code point, and at least `count` blocks, whose length is a
-- multiple of 16.
pub record HasBlocks (b : MapBlocks) (count : ℕ) : Type 0 where
  pub some : 0 < b.size
  pub multiple : b.size % 16 ≡ 0
  pub range : b.size * count ≤ code_point_limit
  pub whole : length b.map.now ≡ code_point_limit
