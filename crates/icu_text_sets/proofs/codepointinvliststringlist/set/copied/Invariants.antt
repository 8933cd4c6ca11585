use Rattle.std.proofs.Common.{◌≡◌, ◌++◌, drop}
use Rattle.icu_text_sets.specs.TextSet.{texts_of}
use Rattle.icu_text_sets.proofs.codepointinvliststringlist.set.copied.Given as goal

-- The copies so far, followed by the strings that are left, are all strings.
abbrev pub invariant-loop-string : goal.invariant-loop-string
invariant-loop-string l = texts_of l.copies.items ++ texts_of (drop l.string-index l.strings) ≡ texts_of l.strings
