use Rattle.std.proofs.Common.{◌≡◌, ◌≤◌, ◌++◌, ℕ, ℤ, List, length, map}
use Rattle.std.specs.Prelude.{All}
use Rattle.std.specs.Str.{IsUtf8}
use Rattle.icu_char16trie.specs.Listing.{AreToCome}
use Rattle.icu_char16trie.specs.UnitMap.{UnitMap}
use Rattle.icu_collections_c.specs.Listing.{texts_of}
use Rattle.icu_collections_c.specs.Inside.Pages.{Holds}
use Rattle.icu_collections_c.specs.UnitPages.{shown_below}
use Rattle.icu_collections_c.proofs.unit_pages.page_of.Given as goal

-- The entries so far all fit, and the page holds them.
abbrev pub invariant-loop-listed : goal.invariant-loop-listed
invariant-loop-listed l = record {
  items : List (List ℕ × ℤ);
  texts : All (λ e. IsUtf8 e.0) items;
  held : Holds items l.page;
  within : l._listed ≤ l.fn.most_words;
  count : length items ≡ l._listed;
  short : length (texts_of items) ≤ l.fn.most_bytes;
  size : l.page.size ≡ length (texts_of items);
  keys : (m : UnitMap) → AreToCome l.fn.entries m
      → (rest : UnitMap) × AreToCome l.entries rest × (map (shown_below l.fn.prefix) m ≡ items ++ map (shown_below l.fn.prefix) rest);
}
