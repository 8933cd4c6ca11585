use Rattle.std.proofs.Common.{arith}
use Rattle.std.proofs.lemmas.Grind.{common_steps}
use Rattle.ucd_files.proofs.ChoiceLemmas.{all_yes_or_no}
use Rattle.ucd_files.proofs.choice.are_yes_or_no.Goals as goal

pub returns-then-not-is_yes_or_no : goal.returns-then-not-is_yes_or_no
returns-then-not-is_yes_or_no c = grind (arith, common_steps, all_yes_or_no)

pub returns : goal.returns
returns c = grind (arith, common_steps, all_yes_or_no)
