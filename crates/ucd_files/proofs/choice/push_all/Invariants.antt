use Rattle.std.proofs.Common.{◌≡◌, ◌++◌, map, take}
use Rattle.ucd_files.specs.Choices.{with_number}
use Rattle.ucd_files.specs.Names.{pairs_of}
use Rattle.ucd_files.proofs.choice.push_all.Given as goal

abbrev pub invariant-loop-text : goal.invariant-loop-text
invariant-loop-text l = pairs_of l.names
    ≡ pairs_of l.initial.names ++ with_number l.number (map (λ text. text.now) (take l.text-index l.texts))
