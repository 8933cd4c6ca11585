-- The bytes of a trie's binary form as they are put together.
use Rattle.std.specs.Prelude.{ℕ, ◌+◌, List, ◌++◌, length}
use Rattle.icu_trie_binary.specs.declared.write.WrittenParts.{WrittenParts}

-- The parts one after another, and what follows them.
abbrev pub joined : WrittenParts → List ℕ → List ℕ
joined p rest = p.header ++ ((p.index.now ++ p.padding.now) ++ (p.values.now ++ rest))

-- The number of bytes of the parts.
abbrev pub joined_length : WrittenParts → ℕ
joined_length p = 16 + length p.index.now + length p.padding.now + length p.values.now
