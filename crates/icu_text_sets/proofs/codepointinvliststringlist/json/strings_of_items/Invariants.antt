use Rattle.std.proofs.Common.{◌≡◌, drop, map}
use Rattle.serde_json.specs.View.{view, items_view}
use Rattle.icu_zerovec.specs.FirstFault.{read_from}
use Rattle.icu_zerovec.proofs.CallerLemmas.{with_front}
use Rattle.icu_text_sets.specs.TextSet.{texts_of}
use Rattle.icu_text_sets.specs.TextSetJson.{text_or, texts_in}
use Rattle.icu_text_sets.proofs.codepointinvliststringlist.json.strings_of_items.Given as goal

-- The strings so far, followed by those of the items that are left, are the strings of all items.
abbrev pub invariant-loop-i : goal.invariant-loop-i
invariant-loop-i l =
    with_front (texts_of l.strings.items) (read_from text_or l.i (map view (drop l.i l.items))) ≡ texts_in (items_view l.items)
