use Rattle.std.proofs.Common.{◌≡◌, drop, map}
use Rattle.serde_json.specs.View.{view, items_view}
use Rattle.icu_zerovec.specs.FirstFault.{read_from}
use Rattle.icu_zerovec.proofs.CallerLemmas.{with_front}
use Rattle.icu_char16trie.specs.Char16Json.{unit_or, list_of}
use Rattle.icu_char16trie.proofs.json.units_of_items.Given as goal

-- The units so far, followed by those of the items that are left, are the units of all items.
abbrev pub invariant-loop-i : goal.invariant-loop-i
invariant-loop-i l = with_front l.units.items (read_from unit_or l.i (map view (drop l.i l.items)))
    ≡ read_from unit_or 0 (list_of (items_view l.items))
