use Rattle.std.proofs.Common.{◌≡◌, take, true}
use Rattle.std.specs.List.{list_all}
use Rattle.ucd_files.specs.Choices.{is_yes_or_no}
use Rattle.ucd_files.proofs.choice.are_yes_or_no.Given as goal

abbrev pub invariant-loop-name : goal.invariant-loop-name
invariant-loop-name l = list_all (λ name. is_yes_or_no name.text.now) (take l.name-index l.names) ≡ true
