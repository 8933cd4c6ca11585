-- The position of a cursor, from its two numbers.
use Rattle.std.specs.Prelude.{◌-◌, ◌||◌, ◌==◌, nat_le, nat_lt, if◌then◌else◌}
use Rattle.icu_char16trie.specs.declared.place.CursorPlace.{CursorPlace}
use Rattle.icu_char16trie.specs.declared.place.Place.{Place}
use Rattle.icu_char16trie.specs.declared.place.Place.TheVariants.{Nowhere, Node, Run}

-- A node if `left` is 0; a linear match with `left` units left if it is 1 to 256; no match if it is
-- above 256 or if the position is 2^63 or more.
abbrev pub place_of : CursorPlace → Place
place_of c =
    if nat_le 0x8000_0000_0000_0000 c.position || nat_lt 256 c.left then Nowhere
    else if c.left == 0 then Node c.position
    else Run c.position (c.left - 1)
