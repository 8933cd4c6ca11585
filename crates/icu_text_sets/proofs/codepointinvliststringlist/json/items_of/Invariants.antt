use Rattle.std.proofs.Common.{◌≡◌, ◌++◌, drop, map}
use Rattle.serde_json.specs.Data.{string}
use Rattle.serde_json.specs.View.{view}
use Rattle.icu_text_sets.specs.TextSet.{texts_of}
use Rattle.icu_text_sets.proofs.codepointinvliststringlist.json.items_of.Given as goal

-- The items so far, followed by those of the strings that are left, are the items of all strings.
abbrev pub invariant-loop-text : goal.invariant-loop-text
invariant-loop-text l = map view l.items.items ++ map (λ t. string t) (texts_of (drop l.text-index l.strings)) ≡ map (λ t. string t)
    (texts_of l.strings)
