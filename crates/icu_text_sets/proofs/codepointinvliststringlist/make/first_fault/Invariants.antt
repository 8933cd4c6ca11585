use Rattle.std.proofs.Common.{◌≡◌, drop}
use Rattle.icu_text_sets.specs.TextSet.{texts_of}
use Rattle.icu_text_sets.specs.TextFaults.{strings_fault}
use Rattle.icu_text_sets.proofs.codepointinvliststringlist.make.first_fault.Given as goal

-- The first fault of the strings from i on is the first fault of all strings.
abbrev pub invariant-loop-i : goal.invariant-loop-i
invariant-loop-i l = strings_fault (texts_of (drop l.i l.strings)) ≡ strings_fault (texts_of l.strings)
